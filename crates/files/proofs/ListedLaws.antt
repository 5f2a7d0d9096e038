-- Things listed in order by their number. Assumes nothing.
use mathlib.Core.Path.{◌≡◌, refl, ap, ◌∙◌}
use Prim.Native.Nat.{ℕ, zero, suc, ◌+◌, ◌<◌}
use native.Mathlib.Nat.{not-suc-le-zero, add-zero, add-suc, suc-add}
use native.Mathlib.Omega.{arith}
use lib.ListN.{length, get_or}
use Rattle.files.specs.Program.{listed}

module _ {A : Type 0} (f : ℕ → A) where
  pub length_listed : (i n : ℕ) → length (listed f i n) ≡ n
  unfolding listed
  length_listed i zero = refl
  length_listed i (suc n) = ap suc (length_listed (suc i) n)

  pub get_d_listed : (i n k : ℕ) (d : A) → k < n → get_or (listed f i n) k d ≡ f (i + k)
  unfolding listed
  get_d_listed i zero k d h = absurd (not-suc-le-zero h)
  get_d_listed i (suc n) zero d h = rw add-zero
  get_d_listed i (suc n) (suc k) d h = get_d_listed (suc i) n k d (omega arith) ∙ rw (suc-add, add-suc)
