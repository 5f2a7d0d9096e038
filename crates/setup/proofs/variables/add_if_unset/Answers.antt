-- `add_if_unset` meets its contract. Assumes nothing.
use Rattle.setup.proofs.SettingLaws.{added_else, added_then}
use Rattle.setup.proofs.variables.add_if_unset.Goals as goal

pub returns-then-is_none : goal.returns-then-is_none
returns-then-is_none c = added_then c.args.ws.now c.args.x c.args.ty c.variable.ensures c.is_none.ensures c.if-is_none.true c.unknown.ensures c.set_variable.ensures

pub returns-else-is_none : goal.returns-else-is_none
returns-else-is_none c = added_else c.args.ws.now c.args.x c.args.ty c.variable.ensures c.is_none.ensures c.if-is_none.false
