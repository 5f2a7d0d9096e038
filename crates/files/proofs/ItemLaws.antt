-- Loops over a body: items back to back (`read_from`), what holds of each number (`every`), the first that passes (`find`). Assumes nothing.
use mathlib.Core.Path.{◌≡◌, refl, sym, ap, ◌∙◌}
use mathlib.Core.Bool.{Bool, true, false, cond, ◌&&◌, and-false, and-true}
use mathlib.Core.List.{[], ◌∷◌, ◌++◌, map}
use mathlib.Core.Logic.{◌⊎◌, inl, inr}
use lib.ListN.{length, get_or}
use Prim.Native.Nat.{ℕ, zero, suc, ◌+◌, ◌-◌, ◌≤◌, ◌<◌}
use native.Mathlib.Nat.{not-suc-le-zero}
use native.Mathlib.Numerals.{add-one}
use native.Mathlib.Omega.{arith}
use borrow.Author.Tests.{le-leb, lt-leb, leb-false, ltb-true, ltb-false}
use lib.Dec.{leb, ltb}
use denote.Param.Members.{Mut}
use Rattle.std.specs.Prelude.{Option, None, Some, slice_get}
use Rattle.std.specs.Fn.{Called}
use Rattle.std.specs.Iterator.{ChecksAll}
use Rattle.std.specs.List.{list_all, find, range_with_len, position_or_len}
use Rattle.std.proofs.lemmas.Iterator.{YieldsList}
use Rattle.std.proofs.lemmas.Iterator.Search.{all_from_yields_List}
use Rattle.std.proofs.lemmas.Option.{none-some, slice_get_cases, slice_get_within, get_or_from_slice_get}
use Rattle.std.proofs.lemmas.List.Folds.{find_at, list_all-append, list_all-map}
use Rattle.std.proofs.lemmas.List.FromFn.{map-range_with_len_more, length-range_with_len, get_or-range_with_len}
use Rattle.std.proofs.lemmas.List.Sums.{fails_before_first, passes_at_first}
use Rattle.files.specs.Bytes.{one_less}
use Rattle.files.specs.World.{unless_zero}
use Rattle.files.specs.Items.{Items, past, reading, read_from, every}

module _ {S : Type 0} (R : Items S) (e : ℕ) where
  past_same : (a b : S → ℕ → ℕ) (s : S) (i k : ℕ) → ((j : ℕ) → a (R.next s i (suc j)) (i + suc j) ≡ b (R.next s i (suc j)) (i + suc j)) → past R a s i k ≡ past R b s i k
  past_same a b s i zero h = refl
  past_same a b s i (suc k) h = h k

  -- enough is enough
  more : (f : ℕ) (s : S) (i : ℕ) → e - i < f → reading R e (suc f) s i ≡ reading R e f s i
  unfolding reading
  more zero s i h = absurd (not-suc-le-zero h)
  more (suc f) s i h = go (leb e i) refl (λ t j. more f t j)
    where
      go : (t : Bool) → leb e i ≡ t → ((s' : S) (j : ℕ) → e - j < f → reading R e (suc f) s' j ≡ reading R e f s' j)
          → cond t (R.last s) (past R (reading R e (suc f)) s i (R.item s i)) ≡ cond t (R.last s) (past R (reading R e f) s i (R.item s i))
      go true p ih = refl
      go false p ih = past_same (reading R e (suc f)) (reading R e f) s i (R.item s i) (λ k. ih (R.next s i (suc k)) (i + suc k) (omega (arith, leb-false e i p)))

  at_end : (s : S) (i : ℕ) → e ≤ i → read_from R e s i ≡ R.last s
  unfolding read_from reading
  at_end s i h = rw (le-leb e i h)

  pub refused : (s : S) (i : ℕ) → i < e → R.item s i ≡ 0 → read_from R e s i ≡ 0
  unfolding read_from reading
  refused s i h z = rw (lt-leb e i h, z)

  pub goes : (s : S) (i k : ℕ) → i < e → R.item s i ≡ k → (k ≡ 0 → ⊥) → read_from R e s i ≡ read_from R e (R.next s i k) (i + k)
  unfolding read_from reading
  goes s i zero h z n = absurd (n refl)
  goes s i (suc k) h z n = rw (lt-leb e i h, z) (sym (more e (R.next s i (suc k)) (i + suc k) (omega arith)))

-- at a place of a loop: the answer b is what the rest gives
module _ {S : Type 0} (R : Items S) (e : ℕ) (s : S) (i b : ℕ) (h : b ≡ read_from R e s i) where
  pub ends : e ≤ i → R.last s ≡ b
  ends l = sym (h ∙ at_end R e s i l)

  pub refuses : (k : ℕ) → i < e → k ≡ R.item s i → k ≡ 0 → 0 ≡ b
  refuses k l z n = sym (h ∙ refused R e s i l (sym z ∙ n))

  pub goes_on : (k : ℕ) → i < e → k ≡ R.item s i → (k ≡ 0 → ⊥) → b ≡ read_from R e (R.next s i k) (i + k)
  goes_on k l z n = h ∙ goes R e s i k l (sym z) n

-- items that are read alike give the same
module _ {S S' : Type 0} (R : Items S) (R' : Items S') (of : S → S') (item : (s : S) (i : ℕ) → R.item s i ≡ R'.item (of s) i)
    (next : (s : S) (i k : ℕ) → of (R.next s i k) ≡ R'.next (of s) i k) (ends_as : (s : S) → R.last s ≡ R'.last (of s)) (e : ℕ) where
  pub same_reading : (f : ℕ) (s : S) (i : ℕ) → reading R e f s i ≡ reading R' e f (of s) i
  unfolding reading
  same_reading zero s i = refl
  same_reading (suc f) s i = rw (item s i, ends_as s) (ap (cond (leb e i) (R'.last (of s))) (go (R'.item (of s) i) (same_reading f)))
    where
      go : (k : ℕ) → ((s : S) (i : ℕ) → reading R e f s i ≡ reading R' e f (of s) i) → past R (reading R e f) s i k ≡ past R' (reading R' e f) (of s) i k
      go zero h = refl
      go (suc k) h = rw (← next s i (suc k)) (h (R.next s i (suc k)) (i + suc k))

  pub same_read : (s : S) → read_from R e s 0 ≡ read_from R' e (of s) 0
  unfolding read_from
  same_read s = same_reading (suc e) s 0

-- how many there are, by 1 more than that, and back
pub none_less : (t : ℕ) → 0 ≡ t → None ≡ one_less t
none_less t e = rw (← e)

pub some_less : (n t : ℕ) → n + 1 ≡ t → Some n ≡ one_less t
some_less n t e = rw (← e, add-one)

pub one_less_none : (t : ℕ) → None ≡ one_less t → t ≡ 0
one_less_none zero e = refl
one_less_none (suc t) e = cc

pub one_less_some : (n t : ℕ) → Some n ≡ one_less t → t ≡ suc n
one_less_some n zero e = cc
one_less_some n (suc t) e = cc

-- the same of a length
pub some_there : (n t : ℕ) → 1 ≤ n → n ≡ t → Some n ≡ unless_zero t
some_there n zero h e = absurd (omega arith)
some_there n (suc t) h e = ap Some e

pub zero_none : (t : ℕ) → None ≡ unless_zero t → t ≡ 0
zero_none zero e = refl
zero_none (suc t) e = cc

pub some_length : (n t : ℕ) → Some n ≡ unless_zero t → n ≡ t
some_length n zero e = cc
some_length n (suc t) e = cc

-- what holds of each number below another
module _ (P : ℕ → Bool) where
  every_listed : (c : ℕ) → list_all P (range_with_len 0 c) ≡ every c P
  unfolding every
  every_listed zero = refl
  every_listed (suc n) =
      let more : map P (range_with_len 0 (n + 1)) ≡ map P (range_with_len 0 n) ++ P n ∷ [] = map-range_with_len_more P 0 n n (omega arith) in
      ap (λ (c : ℕ). list_all P (range_with_len 0 c)) (sym (add-one n))
      ∙ sym (list_all-map (λ (t : Bool). t) P (range_with_len 0 (n + 1)))
      ∙ ap (list_all (λ (t : Bool). t)) more
      ∙ list_all-append (λ (t : Bool). t) (map P (range_with_len 0 n)) (P n ∷ [])
      ∙ rw (list_all-map (λ (t : Bool). t) P (range_with_len 0 n), every_listed n, and-true) refl

  -- `all` of them, where P is what the test answers
  pub every_all : {S F : Type 0} {steps : S → Option ℕ → S → Type 0} {g : Mut F (ℕ × Unit {0}) Bool} {s : S} (c : ℕ) (f : F) (u : S) (r : Bool)
      → ChecksAll steps g s f r u → YieldsList steps (λ x. x) s (range_with_len 0 c) → ((x : ℕ) (t : Bool) (q : F) → Called g f (x, tt) t q → (q ≡ f) × (t ≡ P x)) → r ≡ every c P
  every_all c f u r d y k = all_from_yields_List P u f r d y k ∙ every_listed c

  pub every_fails : (c n : ℕ) → n < c → P n ≡ false → every c P ≡ false
  unfolding every
  every_fails zero n h e = absurd (not-suc-le-zero h)
  every_fails (suc c) n h e = go (ltb n c) refl (λ g. every_fails c n g e)
    where
      go : (t : Bool) → ltb n c ≡ t → (n < c → every c P ≡ false) → (every c P && P c) ≡ false
      go true p ih = rw (ih (ltb-true n c p))
      go false p ih = let q : n ≡ c = omega (arith, ltb-false n c p) in rw (← q, e, and-false)

  -- what holds of each holds of one
  pub every_at : (c n : ℕ) → every c P ≡ true → n < c → P n ≡ true
  every_at c n e h = go (P n) refl
    where
      go : (t : Bool) → P n ≡ t → t ≡ true
      go true p = refl
      go false p = sym (every_fails c n h p) ∙ e

  -- what holds of each holds of all
  pub every_each : (c : ℕ) → ((n : ℕ) → n < c → P n ≡ true) → every c P ≡ true
  unfolding every
  every_each zero h = refl
  every_each (suc c) h = rw (every_each c (λ n l. h n (omega arith)), h c (omega arith))

-- ---- a search of the numbers below another

module _ (p : ℕ → Bool) (c : ℕ) where
  abbrev first_place : ℕ
  first_place = position_or_len p (range_with_len 0 c)

  -- the first that passes
  pub found : (n : ℕ) → find p (range_with_len 0 c) ≡ Some n → (n < c) × (p n ≡ true)
  found n e =
      let at : slice_get (range_with_len 0 c) first_place ≡ Some n = sym (find_at p (range_with_len 0 c)) ∙ e in
      let inside : first_place < c = rw length-range_with_len at (slice_get_within (range_with_len 0 c) first_place n at) in
      let is : 0 + first_place ≡ n = sym (get_or-range_with_len 0 c first_place 0 inside) ∙ get_or_from_slice_get (range_with_len 0 c) first_place n 0 at in
      (omega (arith, is, inside), rw (get_or-range_with_len 0 c first_place 0 inside, is) at (passes_at_first p (range_with_len 0 c) 0 (rw length-range_with_len inside)))

  pub none_found : find p (range_with_len 0 c) ≡ None → (n : ℕ) → n < c → p n ≡ false
  none_found e n h =
      let past : n < first_place = go (slice_get_cases (range_with_len 0 c) first_place).1 in
      sym (ap p (get_or-range_with_len 0 c n 0 h ∙ omega arith)) ∙ fails_before_first p (range_with_len 0 c) n 0 past
    where
      go : ((x : ℕ) × (first_place < length (range_with_len 0 c)) × (slice_get (range_with_len 0 c) first_place ≡ Some x) × (get_or (range_with_len 0 c) first_place x ≡ x))
          ⊎ ((length (range_with_len 0 c) ≤ first_place) × (slice_get (range_with_len 0 c) first_place ≡ None)) → n < first_place
      go (inl i) = absurd (none-some i.0 (sym e ∙ find_at p (range_with_len 0 c) ∙ i.2))
      go (inr i) = omega (arith, i.0, length-range_with_len 0 c, h)
