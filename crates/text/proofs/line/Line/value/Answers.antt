use borrow.Author.Rules.{rules}
use Rattle.text.proofs.PutLaws.{pushed_as, pushed_then}
use Rattle.text.proofs.ValueText.{value_known}
use Rattle.text.proofs.line.Line.value.Goals as goal

pub returns : goal.returns
returns c = pushed_as (pushed_then c.integer.ensures c.beside.ensures) (value_known c.args.v c.ty.ensures (search rules))
