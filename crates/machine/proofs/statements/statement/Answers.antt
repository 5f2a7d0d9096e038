use Rattle.machine.proofs.Running.{cleared_ready}
use Rattle.machine.proofs.StatementLaws.{statement_runs}
use Rattle.machine.proofs.statements.statement.Goals as goal

pub act-o-requires-clause-ready_in : goal.act-o-requires-clause-ready_in
act-o-requires-clause-ready_in c = cleared_ready c.clear_note.ensures c.requires.ready_in

pub returns : goal.returns
returns c = statement_runs c.requires.has_statement.1 c.requires.has_statement.0 c.clear_note.ensures c.statement_at-s.ensures c.act-o.ensures c.conclude.ensures
