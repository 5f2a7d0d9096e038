-- `set_world` meets its contract. (Named on the function, by `using`, its laws are not found.) Assumes nothing.
use Rattle.setup.proofs.BodyFacts.{names_good, names_short, symbols_good, regions_good}
use borrow.Author.Rules.{rules}
use Rattle.setup.proofs.set_world.Goals as goal

pub set_indexes-requires : goal.set_indexes-requires
set_indexes-requires c = search (rules, names_good, names_short, symbols_good, regions_good)
