use Rattle.outcomes.proofs.StepLaws.{sent_on, pending_below, sent_own, sent_plain, sent_left, names_fit}
use Rattle.workspace.specs.Note.{pending_in, taken}
use Rattle.workspace.specs.Parts.{note_part}
use Rattle.outcomes.proofs.steps.send.Goals as goal

pub step-requires : goal.step-requires
step-requires c = names_fit (taken (pending_in (note_part c.args.ws.now))) c.names-names.ensures c.requires.1

pub returns-then-has_note : goal.returns-then-has_note
returns-then-has_note c = sent_on c.args.ws.now c.word-on.ensures (sent_left c.args.site c.args.did _ (pending_in (note_part c.args.ws.now)) c.piece-s.ensures c.in-Nothing.is c.has_note.ensures c.if-has_note.true c.names-names.ensures c.requires.1 (pending_below (note_part c.args.ws.now)) c.step.ensures)

pub returns-else-has_note : goal.returns-else-has_note
returns-else-has_note c = sent_on c.args.ws.now c.word-on.ensures (sent_plain c.args.site c.args.did _ (pending_in (note_part c.args.ws.now)) c.piece-s.ensures c.in-Nothing.is c.has_note.ensures c.if-has_note.false c.plain_step.ensures)

pub returns-in_default : goal.returns-in_default
returns-in_default c = sent_on c.args.ws.now c.word-on.ensures (sent_own c.args.site c.args.did _ (pending_in (note_part c.args.ws.now)) c.piece-s.ensures c.in_default.not-Nothing c.noted_step.ensures)
