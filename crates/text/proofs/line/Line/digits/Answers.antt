use borrow.Author.Rules.{rules}
use Rattle.text.proofs.PutLaws.{pushed_as, room_as}
use Rattle.text.proofs.DigitLaws.{digits_put}
use Rattle.text.proofs.line.Line.digits.Goals as goal

pub last-requires : goal.last-requires
last-requires c = room_as c.args.self.now (digits_put c.args.number (search rules) c.args.base.of c.args.base.low c.count.ensures.is) c.requires

pub returns : goal.returns
returns c = pushed_as c.last.ensures (digits_put c.args.number (search rules) c.args.base.of c.args.base.low c.count.ensures.is)
