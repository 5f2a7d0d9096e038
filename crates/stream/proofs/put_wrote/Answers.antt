use Rattle.stream.proofs.StepLaws.{wrote_stored}
use borrow.Author.Rules.{rules}
use Rattle.stream.proofs.put_wrote.Goals as goal

pub returns : goal.returns
returns c = search (rules, wrote_stored)
