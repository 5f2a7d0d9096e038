-- `returns_of` meets its contract. (Named on the function, by `using`, its laws are not found.) Assumes nothing.
use Rattle.setup.proofs.BodyFacts.{types_texts, return_type}
use borrow.Author.Rules.{rules}
use Rattle.setup.proofs.facts.returns_of.Goals as goal

pub text_numbered-text-requires : goal.text_numbered-text-requires
text_numbered-text-requires c = search (rules, types_texts, return_type)
