use Rattle.text.proofs.PutLaws.{pushed_of, pushed_then}
use Rattle.files.specs.Program.{texts_in}
use Rattle.definition.specs.Listing.{note_text}
use Rattle.text.specs.Told.{note_told}
use Rattle.stream.specs.declared.NotePiece.{NotePiece}
use Rattle.text.proofs.line.Line.note.Goals as goal

pub returns-in-Fields : goal.returns-in-Fields
returns-in-Fields c =
    pushed_of (λ (x : NotePiece). note_text (texts_in c.args.step.names.body.now) (note_told c.args.step.bytes.now x)) c.in-Fields.is
    (pushed_then c.text.ensures (pushed_then c.decimal.ensures (pushed_then c.text-in-Fields.ensures c.hexadecimal.ensures)))

pub returns-in-Written : goal.returns-in-Written
returns-in-Written c =
    pushed_of (λ (x : NotePiece). note_text (texts_in c.args.step.names.body.now) (note_told c.args.step.bytes.now x)) c.in-Written.is
    (pushed_then c.text-in-Written.ensures (pushed_then c.value.ensures (pushed_then c.text-in-Written-2.ensures c.hexadecimal-in-Written.ensures)))
