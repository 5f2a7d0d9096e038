use Rattle.machine.proofs.OutcomeLaws.{acting_leaves, acting_gives, acting_short}
use Rattle.std.proofs.lemmas.Result.{err_from_is_err_and}
use borrow.Author.Rules.{rules}
use Rattle.machine.proofs.statements.give.Goals as goal

pub returns-then-span-eq1 : goal.returns-then-span-eq1
returns-then-span-eq1 c = search (rules, acting_leaves)

pub returns-in_err-v : goal.returns-in_err-v
returns-in_err-v c = let p = err_from_is_err_and c.from_residual.result c.from_residual.ensures.1 in rw (p.1, p.2) (acting_short c.requires.ready_in c.requires.fine.1 c.requires.fine.0 c.span.ensures c.if-span-eq1.false c.eval.ensures c.in_err-v.was)

pub returns : goal.returns
returns c = acting_gives c.requires.ready_in c.requires.fine.1 c.requires.fine.0 c.span.ensures c.if-span-eq1.false c.eval.ensures c.in_ok-v.was c.returned.ensures
