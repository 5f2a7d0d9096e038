use Rattle.files.specs.Program.{texts_in}
use Rattle.definition.specs.Listing.{step_text}
use Rattle.text.specs.Read.{step_in}
use borrow.Author.Rules.{rules}
use Rattle.text.proofs.PutLaws.{room_new, put_whole}
use Rattle.text.proofs.Short.{step_short}
use Rattle.text.proofs.step_line.Goals as goal

pub step-requires : goal.step-requires
step-requires c = room_new c.new-line.result (step_text (texts_in c.args.step.names.body.now) (step_in c.args.step.bytes.now)) c.new-line.ensures.empty c.requires (step_short c.args.step.names.body.now c.args.step.bytes.now c.args.step.there)

pub returns : goal.returns
returns c = put_whole c.step.ensures c.new-line.ensures.empty (search rules) c.len.ensures (step_short c.args.step.names.body.now c.args.step.bytes.now c.args.step.there)
