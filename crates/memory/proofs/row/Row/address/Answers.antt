use Rattle.memory.proofs.RowLaws.{row_parts}
use Rattle.memory.proofs.row.Row.address.Goals as goal

pub returns : goal.returns
returns c = row_parts _ _ c.args.i _ _ c.self.invariant c.self.view_is c.requires c.get.ensures.number
