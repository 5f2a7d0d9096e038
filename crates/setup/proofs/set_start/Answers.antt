-- `set_start` meets its contract. (Named on the function, by `using`, its laws are not found.) Assumes nothing.
use Rattle.setup.proofs.Readying.{started}
use borrow.Author.Rules.{rules}
use Rattle.setup.proofs.set_start.Goals as goal

pub returns : goal.returns
returns c = search (rules, started)
