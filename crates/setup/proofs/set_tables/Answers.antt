-- `set_tables` meets its contract. (Named on the function, by `using`, its laws are not found.) Assumes nothing.
use Rattle.setup.proofs.Readying.{types_coded, tabled, tabled_size}
use borrow.Author.Rules.{rules}
use Rattle.setup.proofs.set_tables.Goals as goal

pub declare_all-requires : goal.declare_all-requires
declare_all-requires c = search (rules, types_coded)

pub returns : goal.returns
returns c = search (rules, tabled, tabled_size)
