use borrow.Author.Tests.{not-false}
use Rattle.operations.proofs.Answering.{chosen_zero}
use Rattle.std.proofs.Common.{rules}
use Rattle.operations.proofs.values.choose.Goals as goal

pub returns-then-condition-eq0 : goal.returns-then-condition-eq0
returns-then-condition-eq0 c = search (rules, not-false, chosen_zero)
