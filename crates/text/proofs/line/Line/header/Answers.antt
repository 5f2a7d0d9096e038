use Rattle.text.proofs.PutLaws.{pushed_then}
use Rattle.text.specs.Lines.{header_text}
use Rattle.text.proofs.line.Line.header.Goals as goal

pub returns : goal.returns
unfolding header_text
returns c = pushed_then c.text.ensures (pushed_then c.name.ensures (pushed_then c.text-2.ensures (pushed_then c.hexadecimal.ensures c.text-3.ensures)))
