-- (Named on the function, by `using`, its law is not found: the search stops at its limit of steps.)
use Rattle.workspace.proofs.MemoryLaws.{stores_cells}
use Rattle.workspace.specs.Parts.{memory_part}
use borrow.Author.Rules.{rules}
use Rattle.workspace.proofs.store_number.Goals as goal

pub returns : goal.returns
unfolding memory_part
returns c = search (rules, stores_cells)
