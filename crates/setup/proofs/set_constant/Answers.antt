-- `set_constant` meets its contract. (Named on the function, by `using`, its laws are not found.) Assumes nothing.
use Rattle.setup.proofs.Readying.{constant_tabled}
use borrow.Author.Rules.{rules}
use Rattle.setup.proofs.set_constant.Goals as goal

pub returns : goal.returns
returns c = search (rules, constant_tabled)
