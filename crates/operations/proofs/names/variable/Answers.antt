use Rattle.std.proofs.Common.{rules}
use Rattle.operations.proofs.Naming.{name_below, set_read, unset_read}
use Rattle.operations.proofs.names.variable.Goals as goal

pub variable-requires : goal.variable-requires
variable-requires c = search (rules, name_below)

pub returns-in-Some : goal.returns-in-Some
returns-in-Some c = set_read c.reference.ensures.0 c.variable.ensures c.in-Some.is c.is.ensures

pub returns-in-None : goal.returns-in-None
returns-in-None c = unset_read c.reference.ensures.0 c.variable.ensures c.in-None.is c.symbol.ensures
