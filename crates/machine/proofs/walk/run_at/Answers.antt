use Rattle.machine.proofs.UnitLaws.{runs_statement, runs_nothing}
use Rattle.machine.proofs.walk.run_at.Goals as goal

pub returns-in_err-k : goal.returns-in_err-k
returns-in_err-k c = rw c.from_residual.ensures (runs_nothing c.in_err-k.was c.requires.ready_in)

pub returns : goal.returns
returns c = runs_statement c.in_ok-k.was c.statement.ensures
