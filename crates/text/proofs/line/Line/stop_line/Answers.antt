use Rattle.text.proofs.PutLaws.{pushed_then}
use Rattle.text.proofs.line.Line.stop_line.Goals as goal

pub returns : goal.returns
returns c = pushed_then c.text.ensures (pushed_then c.stop.ensures c.text-2.ensures)
