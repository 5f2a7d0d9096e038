-- `facts_of` meets its contract. (Named on the function, by `using`, its laws are not found.) Assumes nothing.
use Rattle.setup.proofs.BodyFacts.{knows}
use borrow.Author.Rules.{rules}
use Rattle.setup.proofs.facts.facts_of.Goals as goal

pub returns : goal.returns
returns c = search (rules, knows)
