-- The first step of a body, and the body past it. Assumes nothing.
use mathlib.Core.Path.{◌≡◌, refl, sym, ap, subst, ◌∙◌}
use mathlib.Core.List.{List, [], ◌∷◌}
use Prim.Native.Nat.{ℕ, zero, suc, ◌-◌, ◌≤◌, ◌<◌}
use native.Mathlib.Omega.{arith}
use lib.ListN.{length, take, drop, length-drop}
use lib.Seq.{take_all}
use Rattle.std.proofs.Math.Logic.{∥∥₁_elim, ∥∥₁_map}
use Rattle.std.proofs.Props.{props}
use Rattle.definition.specs.Act.{Step}
use Rattle.text.specs.Read.{step_size, step_in, steps_read, steps_in, StepThere}
use Rattle.text.specs.Left.{StepsLeft}
use Rattle.text.proofs.Listing.{steps_next}

-- as many steps are read of a body by any number that is no less than its length
past : (b : ℕ) (s : List ℕ) (f : ℕ) → length s ≤ f → length (drop (step_size (b ∷ s)) (b ∷ s)) ≤ f
unfolding step_size
past b s f h = rw length-drop (omega arith)

same_read : (f g : ℕ) (s : List ℕ) → length s ≤ f → length s ≤ g → steps_read f s ≡ steps_read g s
unfolding steps_read
same_read zero zero s h k = refl
same_read zero (suc g) [] h k = refl
same_read zero (suc g) (b ∷ s) h k = absurd (omega arith)
same_read (suc f) zero [] h k = refl
same_read (suc f) zero (b ∷ s) h k = absurd (omega arith)
same_read (suc f) (suc g) [] h k = refl
same_read (suc f) (suc g) (b ∷ s) h k =
    ap (λ (r : List Step). step_in (b ∷ s) ∷ r) (same_read f g (drop (step_size (b ∷ s)) (b ∷ s)) (past b s f (omega arith)) (past b s g (omega arith)))

pub no_steps : (s : List ℕ) → length s ≡ 0 → steps_in s ≡ []
unfolding steps_in steps_read
no_steps [] e = refl
no_steps (b ∷ s) e = absurd (omega arith)

split : (s : List ℕ) → 0 < length s → steps_in s ≡ step_in s ∷ steps_in (drop (step_size s) s)
unfolding steps_in steps_read
split [] h = absurd (omega arith)
split (b ∷ s) h =
    let d = drop (step_size (b ∷ s)) (b ∷ s) in
    ap (λ (r : List Step). step_in (b ∷ s) ∷ r) (same_read (length s) (length d) d (past b s (length s) (omega arith)) (omega arith))

rest_of : (s : List ℕ) (at : ℕ) → take (length s - at) (drop at s) ≡ drop at s
rest_of s at = take_all (length s - at) (drop at s) (rw length-drop (omega arith))

module _ {n : ℕ} {s : List ℕ} (left : ∥ StepsLeft n s ∥₁) (some : 0 < length s) where
  pub first_there : StepThere n s
  first_there = ∥∥₁_elim left (hlevel props) (λ l. (steps_next l some).0)

  module _ {k : ℕ} (e : k ≡ step_size s) where
    pub first_inside : k ≤ length s
    unfolding step_size
    first_inside = omega (arith, e, first_there.inside)

    is_rest : drop (step_size s) s ≡ take (length s - k) (drop k s)
    is_rest = sym (rest_of s k ∙ ap (λ (i : ℕ). drop i s) e)

    pub rest_left : ∥ StepsLeft n (take (length s - k) (drop k s)) ∥₁
    rest_left = ∥∥₁_map left (λ l. subst (λ (t : List ℕ). StepsLeft n t) is_rest (steps_next l some).1)

    pub first_step : steps_in s ≡ step_in s ∷ steps_in (take (length s - k) (drop k s))
    first_step = split s some ∙ ap (λ (t : List ℕ). step_in s ∷ steps_in t) is_rest
