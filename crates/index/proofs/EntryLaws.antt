-- Numbers of two bytes that a part holds as entries, one stored after the other. Assumes nothing.
use mathlib.Core.Path.{◌≡◌, refl, sym, ap, subst, ◌∙◌}
use mathlib.Core.Bool.{Bool, true, false}
use mathlib.Core.List.{List}
use Prim.Native.Nat.{ℕ, ◌+◌, ◌^◌, ◌≤◌, ◌<◌}
use native.Mathlib.Omega.{arith}
use borrow.Author.Tests.{ltb-true, ltb-false}
use lib.Dec.{ltb}
use lib.ListN.{length, take, drop}
use lib.Seq.{take_at, length-sets}
use Rattle.layout.specs.Number.{le, num, number_at, put_number}
use Rattle.layout.proofs.NumberLaws.{length_le, num_le}
use Rattle.layout.proofs.StoreLaws.{number_above, drop_sets_at}

pub length_put : (s : List ℕ) (i k v : ℕ) → length (put_number s i k v) ≡ length s
unfolding put_number
length_put s i k v = length-sets s i (le k v)

-- a number is read where it was stored
pub number_put : (s : List ℕ) (i k v : ℕ) → i + k ≤ length s → v < 256 ^ k → number_at (put_number s i k v) i k ≡ v
unfolding number_at put_number
number_put s i k v h l =
    let e : length (le k v) ≡ k = length_le k v in
    ap (λ (t : List ℕ). num (take k t)) (drop_sets_at (le k v) s i (rw e h)) ∙ ap num (take_at (le k v) (drop (i + length (le k v)) s) k e) ∙ num_le k v l

-- what lies before it is as it was
pub number_put_before : (s : List ℕ) (i k v j m : ℕ) → j + m ≤ i → number_at (put_number s i k v) j m ≡ number_at s j m
unfolding put_number
number_put_before s i k v j m h = number_above s (le k v) i j m h

-- ---- entries at places: what P says of each of the first n

abbrev pub Entries : List ℕ → (ℕ → ℕ) → (ℕ → ℕ → Type 0) → ℕ → Type 0
Entries part place P n = (k : ℕ) → k < n → P k (number_at part (place k) 2)

module _ (part : List ℕ) (place : ℕ → ℕ) (P : ℕ → ℕ → Type 0) (n : ℕ) (all : Entries part place P n) (q : ℕ) (spaced : (k : ℕ) → k < n → place k + 2 ≤ q) where
  -- kept by a store past them
  pub entries_kept : (m v : ℕ) → Entries (put_number part q m v) place P n
  entries_kept m v k h = subst (P k) (sym (number_put_before part q m v (place k) 2 (spaced k h))) (all k h)

  -- one more
  pub entries_more : (v : ℕ) → q ≡ place n → q + 2 ≤ length part → v < 65536 → P n v → Entries (put_number part q 2 v) place P (n + 1)
  entries_more v g l w p k h = go (ltb k n) refl
    where
      go : (t : Bool) → ltb k n ≡ t → P k (number_at (put_number part q 2 v) (place k) 2)
      go true e = entries_kept 2 v k (ltb-true k n e)
      go false e =
          let x : k ≡ n = omega (arith, ltb-false k n e) in
          rw (x, ← g, number_put part q 2 v l w) p
