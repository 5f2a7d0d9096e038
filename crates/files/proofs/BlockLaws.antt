-- What the tests of statements and blocks show. Assumes nothing.
use mathlib.Core.Path.{◌≡◌}
use mathlib.Core.Bool.{Bool, false}
use mathlib.Core.List.{List}
use Prim.Native.Nat.{ℕ, ◌/◌, ◌%◌}
use borrow.Author.Tests.{eq-eqb, ne_eqb}
use lib.ListN.{length}
use Rattle.files.specs.Items.{every}
use Rattle.files.specs.Blocks.{statement_ok, statements_ok}

module _ (nodes b : List ℕ) where
  pub statements_odd : (length b % 13 ≡ 0 → ⊥) → false ≡ statements_ok nodes b
  unfolding statements_ok
  statements_odd h = simp (ne_eqb _ _ h)

  pub statements_good : length b % 13 ≡ 0 → (t : Bool) → t ≡ every (length b / 13) (statement_ok nodes b) → t ≡ statements_ok nodes b
  unfolding statements_ok
  statements_good l t a = simp (eq-eqb _ _ l, ← a)
