-- `set_end` meets its contract. (Named on the function, by `using`, its laws are not found.) Assumes nothing.
use Rattle.setup.proofs.Readying.{finished}
use borrow.Author.Rules.{rules}
use Rattle.setup.proofs.set_end.Goals as goal

pub returns : goal.returns
returns c = search (rules, finished)
