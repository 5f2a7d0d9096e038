use mathlib.Core.Path.{ap}
use mathlib.Core.List.{[]}
use Rattle.text.proofs.PutLaws.{pushed_as, pushed_then}
use Rattle.files.specs.Program.{texts_in}
use Rattle.definition.specs.Numerals.{decimal}
use Rattle.definition.specs.Listing.{address_text, note_text}
use Rattle.text.specs.Read.{step_in}
use Rattle.text.proofs.line.Line.step.Goals as goal

pub returns : goal.returns
unfolding step_in
returns c = let N = texts_in c.args.step.names.body.now in
    pushed_then c.text.ensures
    (pushed_then (pushed_as c.address-2.ensures (ap (address_text []) c.address.ensures))
    (pushed_then c.text-2.ensures
    (pushed_then (pushed_as c.decimal.ensures (ap decimal c.statement.ensures))
    (pushed_then (pushed_as c.wrote-2.ensures c.wrote.ensures)
    (pushed_then (pushed_as c.note-2.ensures (ap (note_text N) c.note.ensures)) c.text-3.ensures)))))
