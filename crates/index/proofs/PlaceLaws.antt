-- Where items that stand back to back start. Assumes nothing.
use mathlib.Core.Path.{◌≡◌, refl, ◌∙◌}
use Prim.Native.Nat.{ℕ, zero, suc, ◌+◌, ◌*◌, ◌≤◌, ◌<◌}
use native.Mathlib.Nat.{zero-add, suc-add, lt_of_not-le, not-suc-le-zero, le_of_suc-le-suc}
use native.Mathlib.Numerals.{add-one}
use native.Mathlib.Omega.{arith}
use Rattle.index.specs.Places.{place_from}

module _ (size : ℕ → ℕ) where
  pub place_suc : (i k : ℕ) → place_from size i (suc k) ≡ place_from size i k + size (place_from size i k)
  unfolding place_from
  place_suc i zero = refl
  place_suc i (suc k) = place_suc (i + size i) k

  pub place_next : (i k : ℕ) → place_from size i (k + 1) ≡ place_from size i k + size (place_from size i k)
  place_next i k = rw add-one (place_suc i k)

  pub place_add : (i j k : ℕ) → place_from size (place_from size i j) k ≡ place_from size i (j + k)
  unfolding place_from
  place_add i zero k = rw zero-add
  place_add i (suc j) k = rw suc-add (place_add (i + size i) j k)

  -- where each item takes some bytes
  pub place_least : (least : ℕ) → ((i : ℕ) → least ≤ size i) → (i k : ℕ) → i + k * least ≤ place_from size i k
  unfolding place_from
  place_least least h i zero = omega arith
  place_least least h i (suc k) = omega (arith, h i, place_least least h (i + size i) k)

  pub place_mono : (i j k : ℕ) → j ≤ k → place_from size i j ≤ place_from size i k
  unfolding place_from
  place_mono i zero k h = omega (arith, place_least 0 (λ j. omega arith) i k)
  place_mono i (suc j) zero h = absurd (not-suc-le-zero h)
  place_mono i (suc j) (suc k) h = place_mono (i + size i) j k (le_of_suc-le-suc h)

  pub place_order : (i j k : ℕ) → place_from size i j < place_from size i k → j < k
  place_order i j k h = lt_of_not-le (λ l. omega (arith, place_mono i k j l, h))

  pub place_strict : ((i : ℕ) → 1 ≤ size i) → (i j k : ℕ) → j < k → place_from size i j < place_from size i k
  place_strict pos i j k h = omega (arith, place_mono i (suc j) k h, place_suc i j, pos (place_from size i j))

-- items of one size
pub place_even : (n i k : ℕ) → place_from (λ _. n) i k ≡ i + k * n
unfolding place_from
place_even n i zero = omega arith
place_even n i (suc k) = place_even n (i + n) k ∙ omega arith
