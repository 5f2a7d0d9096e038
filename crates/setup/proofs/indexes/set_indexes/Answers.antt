-- `set_indexes` meets its contract. (Named on the function, by `using`, its laws are not found.) Assumes nothing.
use Rattle.setup.proofs.IndexParts.{indexes}
use borrow.Author.Rules.{rules}
use Rattle.setup.proofs.indexes.set_indexes.Goals as goal

pub returns : goal.returns
returns c = search (rules, indexes)
