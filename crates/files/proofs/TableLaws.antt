-- What the tests of a file's table show, and that an accepted table's bodies lie in the file. Assumes nothing.
use mathlib.Core.Path.{◌≡◌, refl, sym, ap, ◌∙◌}
use mathlib.Core.Bool.{true, false, and-false}
use mathlib.Core.List.{List, [], ◌∷◌}
use Prim.Native.Nat.{ℕ, zero, suc, ◌+◌, ◌-◌, ◌*◌, ◌≤◌, ◌<◌}
use native.Mathlib.Nat.{zero-add, suc-add}
use native.Mathlib.Numerals.{add-one}
use native.Mathlib.Omega.{arith}
use borrow.Author.Tests.{le-leb, lt-leb, eq-eqb, ne_eqb, leb-true, eqb-true}
use lib.Dec.{leb, eqb}
use lib.ListN.{length, take, drop}
use Rattle.layout.specs.Number.{number_at, located}
use Rattle.files.specs.Items.{every}
use Rattle.files.specs.FileTable.{offset_of, length_of, body, HasBody, start_of, body_ok, table_ok}
use Rattle.files.proofs.BoolLaws.{each_true}
use Rattle.files.proofs.ItemLaws.{every_fails, every_at}

module _ (n : ℕ) (f : List ℕ) where
  pub table_long : 65535 < length f → false ≡ table_ok n f
  unfolding table_ok
  table_long h = simp (lt-leb _ _ h)

  pub table_short : length f < n * 4 + 2 → false ≡ table_ok n f
  unfolding table_ok
  table_short h = simp (lt-leb _ _ h, and-false)

  pub table_count : (k : ℕ) → k ≡ number_at f 0 2 → (k ≡ n → ⊥) → false ≡ table_ok n f
  unfolding table_ok
  table_count k e h = simp (← e, ne_eqb _ _ h, and-false)

  pub table_gap : (k s e : ℕ) → k < n → s ≡ offset_of f k → e ≡ start_of n f k → (s ≡ e → ⊥) → false ≡ table_ok n f
  unfolding table_ok body_ok
  table_gap k s e l es ee h = simp (every_fails (body_ok n f) n k l (ne_eqb _ _ (λ q. h (es ∙ q ∙ sym ee))), and-false)

  pub table_on : (k : ℕ) → every k (body_ok n f) ≡ true → offset_of f k ≡ start_of n f k → every (k + 1) (body_ok n f) ≡ true
  unfolding every body_ok
  table_on k a h = rw (add-one, a, eq-eqb _ _ h)

  pub table_next : (k : ℕ) → start_of n f (k + 1) ≡ offset_of f k + length_of f k
  unfolding start_of
  table_next k = rw add-one

  pub table_start : n * 4 + 2 ≡ start_of n f 0
  unfolding start_of
  table_start = refl

  pub table_ends : (k : ℕ) → length f ≤ 65535 → n * 4 + 2 ≤ length f → number_at f 0 2 ≡ n → k ≤ n → n ≤ k → every k (body_ok n f) ≡ true → table_ok n f ≡ eqb (start_of n f k) (length f)
  unfolding table_ok
  table_ends k h g q l u a =
      let p : k ≡ n = omega arith in
      let b : every n (body_ok n f) ≡ true = rw p at a in
      rw p (simp (le-leb _ _ h, le-leb _ _ g, eq-eqb _ _ q, b))

-- ---- what an accepted table tells of its bodies

record Table (n : ℕ) (f : List ℕ) : Type 0 where
  room : n * 4 + 2 ≤ length f
  each : every n (body_ok n f) ≡ true
  last : start_of n f n ≡ length f

table_has : (n : ℕ) (f : List ℕ) → table_ok n f ≡ true → Table n f
unfolding table_ok
table_has n f h =
    let t = each_true (leb (length f) 65535)
    (leb (n * 4 + 2) (length f) ∷ eqb (number_at f 0 2) n ∷ every n (body_ok n f) ∷ eqb (start_of n f n) (length f) ∷ []) h in
    record { room = leb-true _ _ t.1.0; each = t.1.1.1.0; last = eqb-true _ _ t.1.1.1.1.0 }

starts : (n : ℕ) (f : List ℕ) → every n (body_ok n f) ≡ true → (k : ℕ) → k < n → offset_of f k ≡ start_of n f k
unfolding body_ok
starts n f h k l = eqb-true _ _ (every_at (body_ok n f) n k h l)

rises : (n : ℕ) (f : List ℕ) → every n (body_ok n f) ≡ true → (j k : ℕ) → j + k ≤ n → start_of n f k ≤ start_of n f (j + k)
unfolding start_of
rises n f h zero k l = rw zero-add (omega arith)
rises n f h (suc j) k l = rw suc-add (omega (arith, rises n f h j k (omega arith), starts n f h (j + k) (omega arith)))

body_within : (n : ℕ) (f : List ℕ) → Table n f → (k : ℕ) → k < n → offset_of f k + length_of f k ≤ length f
unfolding start_of
body_within n f t k l =
    let e : n - suc k + suc k ≡ n = omega arith in
    let r : start_of n f (suc k) ≤ start_of n f n = rw e at (rises n f t.each (n - suc k) (suc k) (omega arith)) in
    omega (arith, t.last, r)

-- an accepted file has each of its bodies
pub has_body : (n : ℕ) (f : List ℕ) → table_ok n f ≡ true → (k : ℕ) → k < n → HasBody f k
has_body n f h k l =
    let t = table_has n f h in
    record { told = omega (arith, t.room); within = body_within n f t k l }

-- the same of each file, where its number of bodies is known
pub routine_has : (f : List ℕ) → table_ok 6 f ≡ true → HasBody f 0 × HasBody f 1 × HasBody f 2 × HasBody f 3 × HasBody f 4 × HasBody f 5
routine_has f h =
    let has : (k : ℕ) → k < 6 → HasBody f k = has_body 6 f h in
    (has 0 (omega arith), has 1 (omega arith), has 2 (omega arith), has 3 (omega arith), has 4 (omega arith), has 5 (omega arith))

pub world_has : (f : List ℕ) → table_ok 3 f ≡ true → HasBody f 0 × HasBody f 1 × HasBody f 2
world_has f h =
    let has : (k : ℕ) → k < 3 → HasBody f k = has_body 3 f h in
    (has 0 (omega arith), has 1 (omega arith), has 2 (omega arith))

pub call_has : (f : List ℕ) → table_ok 1 f ≡ true → HasBody f 0
call_has f h = has_body 1 f h 0 (omega arith)

-- what a body's pair of numbers locates
pub body_located : (f : List ℕ) (k : ℕ) → located f (k * 4 + 2) 2 ≡ body f k
unfolding body located
body_located f k =
    let place : k * 4 + 2 + 2 ≡ k * 4 + 4 = omega arith in
    rw place (ap (λ (n : ℕ). take n (drop (offset_of f k) f)) {x = length_of f k} {y = offset_of f k + length_of f k - offset_of f k} (omega arith))
