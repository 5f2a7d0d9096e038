-- A turn of a loop over what is left of a body: what its next line is made from is there, and less is left behind it. Assumes nothing.
use mathlib.Core.Path.{◌≡◌, subst, ap, ◌∙◌}
use mathlib.Core.List.{List, ◌++◌}
use Prim.Native.Nat.{ℕ, ◌<◌}
use native.Mathlib.Omega.{arith}
use lib.ListN.{length, take, drop, length-append}
use lib.Seq.{take-append-le, drop_at}
use Rattle.layout.specs.Number.{num, number_at}
use Rattle.text.specs.Read.{VariableThere}
use Rattle.text.specs.Left.{VariablesLeft}
use Rattle.text.proofs.Listing.{variables_next}

-- the next variable in a piece of its own
pub variable_turn : {n : ℕ} {s x t : List ℕ} → VariablesLeft n s → s ≡ x ++ t → length x ≡ 16 → VariableThere n x × VariablesLeft n t
unfolding number_at
variable_turn {n} {s} {x} {t} left e l =
    let next = variables_next left (omega (arith, ap length e, length-append x t, l)) in (
      record {
        inside = omega (arith, l);
        named = subst (λ (b : List ℕ). num b < n) (ap (take 2) e ∙ take-append-le 2 x t (omega (arith, l))) next.0.named;
      },
      subst (λ (b : List ℕ). VariablesLeft n b) (ap (drop 16) e ∙ drop_at x t 16 l) next.1,
    )
