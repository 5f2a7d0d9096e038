use Rattle.std.proofs.Common.{refl}
use Rattle.operations.proofs.Answering.{told_same, told_neither, did_wrote, did_fields, did_value}
use Rattle.operations.proofs.results.did.Goals as goal

pub returns-then-told-from : goal.returns-then-told-from
returns-then-told-from c = did_wrote c.args.ws.now (told_same c.args.ws.now c.word-told.ensures c.from.ensures c.if-told-from.true) c.word-place.ensures c.value-value.ensures refl

pub returns-then-told-from-2 : goal.returns-then-told-from-2
returns-then-told-from-2 c = did_fields c.args.ws.now (told_same c.args.ws.now c.word-told.ensures c.from-else-told-from.ensures c.if-told-from-2.true) c.word-place.ensures c.value-value.ensures _ refl c.word.ensures c.notes.ensures

pub returns-else-told-from-2 : goal.returns-else-told-from-2
returns-else-told-from-2 c = did_value c.args.ws.now (told_neither c.args.ws.now c.word-told.ensures c.from.ensures c.from-else-told-from.ensures c.if-told-from.false c.if-told-from-2.false) c.word-place.ensures c.value-value.ensures _ refl c.notes-else-told-from-2.ensures
