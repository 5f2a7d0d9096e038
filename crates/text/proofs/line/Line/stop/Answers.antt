use Rattle.text.proofs.PutLaws.{pushed_of, pushed_then}
use Rattle.text.specs.Told.{stop_said}
use Rattle.text.proofs.line.Line.stop.Goals as goal

pub returns-in-Steps : goal.returns-in-Steps
returns-in-Steps c = pushed_of stop_said c.in-Steps.is (pushed_then c.text-in-Steps.ensures (pushed_then c.decimal.ensures c.text-in-Steps-2.ensures))

pub returns-in-Unknown : goal.returns-in-Unknown
returns-in-Unknown c = pushed_of stop_said c.in-Unknown.is (pushed_then c.stopped.ensures c.why.ensures)

pub returns-in-NoBlocks : goal.returns-in-NoBlocks
returns-in-NoBlocks c = pushed_of stop_said c.in-NoBlocks.is c.text-in-NoBlocks.ensures

pub returns-in-NoReturn : goal.returns-in-NoReturn
returns-in-NoReturn c = pushed_of stop_said c.in-NoReturn.is (pushed_then c.stopped-in-NoReturn.ensures c.text-in-NoReturn.ensures)

pub returns-in-Halted : goal.returns-in-Halted
returns-in-Halted c = pushed_of stop_said c.in-Halted.is (pushed_then c.stopped-in-Halted.ensures (pushed_then c.hexadecimal.ensures c.text-in-Halted.ensures))
