use borrow.Author.Rules.{rules}
use Rattle.text.proofs.PutLaws.{pushed_as, pushed_then}
use Rattle.text.proofs.ValueText.{beside_wide}
use Rattle.text.proofs.line.Line.beside.Goals as goal

pub returns : goal.returns
returns c = pushed_as (pushed_then c.text.ensures (pushed_then c.hexadecimal.ensures c.text-2.ensures)) (beside_wide c.args.number (search rules))
