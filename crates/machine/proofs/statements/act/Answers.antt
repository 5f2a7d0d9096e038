use Rattle.machine.proofs.OutcomeLaws.{acting_strays, acting_halts, acting_does, acting_fails}
use Rattle.std.proofs.lemmas.Result.{err_from_is_err_and}
use Rattle.machine.proofs.statements.act.Goals as goal

pub returns-in-Unreachable : goal.returns-in-Unreachable
returns-in-Unreachable c = acting_strays c.requires.ready_in c.sort_of.ensures c.in-Unreachable.is

pub returns-in-Halts : goal.returns-in-Halts
returns-in-Halts c = acting_halts c.requires.ready_in c.sort_of.ensures c.in-Halts.is c.value.ensures

pub returns-in_err-did-in-Plain : goal.returns-in_err-did-in-Plain
returns-in_err-did-in-Plain c = let p = err_from_is_err_and c.from_residual.result c.from_residual.ensures.1 in rw (p.1, p.2) (acting_fails c.requires.ready_in c.requires.fine c.sort_of.ensures c.in-Plain.is c.execute.ensures c.in_err-did-in-Plain.was)

pub returns-in_ok-did-in-Plain : goal.returns-in_ok-did-in-Plain
returns-in_ok-did-in-Plain c = acting_does c.requires.ready_in c.requires.fine c.sort_of.ensures c.in-Plain.is c.execute.ensures c.in_ok-did-in-Plain.was
