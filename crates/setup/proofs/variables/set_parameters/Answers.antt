-- `set_parameters` meets its contract. Assumes nothing.
use mathlib.Core.Path.{subst}
use Prim.Native.Nat.{ℕ}
use Rattle.setup.specs.Post.{StartsSome}
use Rattle.setup.proofs.EachLaws.{started_each, start_callable}
use borrow.Author.Rules.{rules}
use Rattle.setup.proofs.variables.set_parameters.Goals as goal

pub each-requires-clause-callable : goal.each-requires-clause-callable
each-requires-clause-callable c = start_callable _ _ _ _ c.args.call.bytes.now (λ u v w l. search rules) _ c.requires (λ u v h n p e. search rules)

pub returns : goal.returns
returns c = subst (λ (n : ℕ). StartsSome c.args.head.bytes.now c.args.call.bytes.now n c.args.ws.now c.each.new.ws) c.parameter_count-count.ensures.0 (started_each _ _ _ _ _ (λ u v w l. search rules) _ _ c.each.ensures)
