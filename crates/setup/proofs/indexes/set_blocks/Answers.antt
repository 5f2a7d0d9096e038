-- `set_blocks` meets its contract. (Named on the function, by `using`, its laws are not found.) Assumes nothing.
use Rattle.setup.proofs.IndexParts.{indexes_blocks}
use borrow.Author.Rules.{rules}
use Rattle.setup.proofs.indexes.set_blocks.Goals as goal

pub returns : goal.returns
returns c = search (rules, indexes_blocks)
