use borrow.Author.Rules.{rules}
use Rattle.text.proofs.PutLaws.{pushed_as, room_as}
use native.Mathlib.Omega.{arith}
use Rattle.text.proofs.DigitLaws.{padded_put}
use Rattle.text.proofs.line.Line.padded.Goals as goal

pub last-requires : goal.last-requires
last-requires c = room_as c.args.self.now (padded_put c.args.number (search rules) (omega (arith, c.max-count.ensures, c.count.ensures.is))) c.requires

pub returns : goal.returns
returns c = pushed_as c.last.ensures (padded_put c.args.number (search rules) (omega (arith, c.max-count.ensures, c.count.ensures.is)))
