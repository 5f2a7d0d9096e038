use borrow.Author.Rules.{rules}
use Rattle.text.proofs.PutLaws.{put_copied}
use Rattle.text.proofs.line.Line.text.Goals as goal

pub returns : goal.returns
returns c = record { same_reference = search rules; put = put_copied c.args.self.now.out.now c.args.from.now c.copy_from_slice.new.self c.args.self.now.at c.requires c.copy_from_slice.ensures.after }
