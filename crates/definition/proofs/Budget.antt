-- The units left, and those spent on blocks and on statements, are together the limit: in any run, for any tree. Assumes nothing.
use mathlib.Core.Path.{◌≡◌, refl}
use mathlib.Core.Bool.{Bool, true, false}
use Prim.Native.Nat.{ℕ, zero, suc, ◌+◌}
use native.Mathlib.Omega.{arith}
use Rattle.value.specs.declared.Val.{Val}
use Rattle.memory.specs.Overlay.{Overlay}
use Rattle.definition.specs.Question.{World}
use Rattle.definition.specs.Act.{Act, peek_op, poke_op, get_op, set_op, pending_op, leave_op, spend_op, emit_op}
use Rattle.definition.specs.State.{Budget, State, fresh, paid, run}
use Rattle.definition.proofs.Kept.{Keeps, kept}

-- a state of which a unit has been asked, n being left: for n as it is, what `spending` gives
abbrev pub asked : ℕ → Bool → State → State
asked n b σ = record { variables = σ.variables; memory = σ.memory; pending = σ.pending; budget = paid n b σ.budget; steps = σ.steps }

pub record Balanced (limit : ℕ) (g : Budget) : Type 0 where
  pub sum : g.left + (g.entered + g.recorded) ≡ limit

paid_balanced : {limit : ℕ} (n : ℕ) (b : Bool) (g : Budget) → g.left ≡ n → Balanced limit g → Balanced limit (paid n b g)
paid_balanced zero b g e h = h
paid_balanced (suc n) true g e h = record { sum = omega (arith, e, h.sum) }
paid_balanced (suc n) false g e h = record { sum = omega (arith, e, h.sum) }

balanced_kept : (limit : ℕ) → Keeps (λ s. Balanced limit s.budget)
balanced_kept limit (peek_op a) s h = h
balanced_kept limit (poke_op a c) s h = h
balanced_kept limit (get_op x) s h = h
balanced_kept limit (set_op x v) s h = h
balanced_kept limit pending_op s h = h
balanced_kept limit (leave_op p) s h = h
balanced_kept limit (spend_op b) s h = paid_balanced s.budget.left b s.budget refl h
balanced_kept limit (emit_op e) s h = h

pub balanced : {A : Type 0} (w : World) (t : Act A) (limit : ℕ) (vs : Overlay Val) → Balanced limit (run w t (fresh limit vs)).after.budget
balanced w t limit vs = kept w (balanced_kept limit) t (fresh limit vs) (record { sum = omega arith })
