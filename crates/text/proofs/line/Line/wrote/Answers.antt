use Rattle.text.proofs.PutLaws.{pushed_of, pushed_then}
use Rattle.text.specs.Told.{wrote_said}
use Rattle.text.proofs.line.Line.wrote.Goals as goal

pub returns : goal.returns
returns c = pushed_of wrote_said c.in-Some.is (pushed_then c.text.ensures (pushed_then c.name.ensures (pushed_then c.text-2.ensures c.value.ensures)))
