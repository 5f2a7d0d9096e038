-- `add_unset` meets its contract. Assumes nothing.
use mathlib.Core.Path.{subst}
use Prim.Native.Nat.{ℕ}
use Rattle.setup.specs.Post.{EndsSome}
use Rattle.setup.proofs.EachLaws.{ended_each, end_callable}
use borrow.Author.Rules.{rules}
use Rattle.setup.proofs.variables.add_unset.Goals as goal

pub each-requires-clause-callable : goal.each-requires-clause-callable
each-requires-clause-callable c = end_callable _ _ _ _ (λ u v w l. search rules) _ c.requires (λ u v h n p e. search rules)

pub returns : goal.returns
returns c = subst (λ (n : ℕ). EndsSome c.args.head.bytes.now n c.args.ws.now c.each.new.ws) c.variable_count-count.ensures (ended_each _ _ _ _ (λ u v w l. search rules) _ _ c.each.ensures)
