use Rattle.outcomes.proofs.StepLaws.{sends_of}
use borrow.Author.Rules.{rules}
use Rattle.outcomes.proofs.roots.recorded.Goals as goal

pub returns : goal.returns
returns c = search (rules, sends_of)
