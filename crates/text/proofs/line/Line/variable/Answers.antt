use Rattle.text.proofs.PutLaws.{pushed_then}
use Rattle.text.specs.Lines.{variable_line}
use Rattle.text.proofs.line.Line.variable.Goals as goal

pub returns : goal.returns
unfolding variable_line
returns c = pushed_then c.text.ensures (pushed_then c.name.ensures (pushed_then c.text-2.ensures (pushed_then c.value.ensures c.text-3.ensures)))
