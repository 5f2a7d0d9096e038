use Rattle.machine.proofs.UnitLaws.{settles_within, settles_past}
use borrow.Author.Rules.{rules}
use Rattle.machine.proofs.walk.settle.Goals as goal

pub returns-then-k-statement_count : goal.returns-then-k-statement_count
returns-then-k-statement_count c = search (rules, settles_within)

pub returns : goal.returns
returns c = search (rules, settles_past)
