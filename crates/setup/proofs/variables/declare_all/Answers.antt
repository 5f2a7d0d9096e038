-- `declare_all` meets its contract. Assumes nothing.
use mathlib.Core.Path.{subst}
use Prim.Native.Nat.{ℕ}
use Rattle.setup.specs.Post.{DeclaresSome}
use Rattle.setup.proofs.EachLaws.{declared_each, declare_callable}
use borrow.Author.Rules.{rules}
use Rattle.setup.proofs.variables.declare_all.Goals as goal

pub each-requires-clause-callable : goal.each-requires-clause-callable
each-requires-clause-callable c = declare_callable _ _ _ _ (λ u v w l. search rules) _ c.requires.0 c.requires.1 (λ u v h n d p e. search rules)

pub returns : goal.returns
returns c = subst (λ (n : ℕ). DeclaresSome c.args.head.bytes.now n c.args.ws.now c.each.new.ws) c.variable_count-count.ensures (declared_each _ _ _ _ (λ u v w l. search rules) _ _ c.each.ensures)
