use Rattle.std.proofs.Common.{ap}
use Rattle.std.specs.Result.{result_ok}
use Rattle.operations.proofs.Answering.{short_why, short_full}
use Rattle.operations.proofs.results.short.Goals as goal

pub returns-in-Ok : goal.returns-in-Ok
returns-in-Ok c = short_why c.args.ws.now c.word.ensures c.try_from.ensures (ap result_ok c.in-Ok.is) c.word-in-Ok.ensures

pub returns-in-Err : goal.returns-in-Err
returns-in-Err c = short_full c.args.ws.now c.word.ensures c.try_from.ensures (ap result_ok c.in-Err.is)
