use Rattle.std.proofs.Common.{rules}
use Rattle.operations.proofs.Naming.{name_below, if_declared}
use Rattle.operations.proofs.names.write_declared.Goals as goal

pub declared-requires : goal.declared-requires
declared-requires c = search (rules, name_below)

pub set_variable-requires : goal.set_variable-requires
set_variable-requires c = search (rules, name_below)

pub returns : goal.returns
returns c = if_declared c.requires.var_at c.reference-name.ensures.0 c.declared.ensures c.in_ok-ty.was c.cast-c.ensures c.set_variable.ensures c.wrote.ensures
