use mathlib.Core.Path.{sym, ◌∙◌}
use mathlib.Core.List.{◌++◌}
use Rattle.text.proofs.PutLaws.{pushed_as, pushed_then, room_as, room_first, room_then}
use Rattle.layout.specs.Text.{text}
use Rattle.layout.specs.Number.{number_at}
use Rattle.files.specs.Program.{texts_in}
use Rattle.text.specs.Read.{names_in}
use Rattle.text.specs.Lines.{commaed}
use Rattle.text.proofs.StepText.{followed_none, followed_some}
use Rattle.text.proofs.line.Line.not_followed.Goals as goal

pub text-requires : goal.text-requires
text-requires c = room_as c.args.self.now (followed_none (texts_in c.args.step.names.body.now) c.args.step.bytes.now (sym c.taken_count.ensures ∙ c.if-taken_count-eq0.true)) c.requires

pub returns-then-taken_count-eq0 : goal.returns-then-taken_count-eq0
returns-then-taken_count-eq0 c =
    pushed_as c.text.ensures (followed_none (texts_in c.args.step.names.body.now) c.args.step.bytes.now (sym c.taken_count.ensures ∙ c.if-taken_count-eq0.true))

pub text-requires-2 : goal.text-requires-2
text-requires-2 c = let s = c.args.step.bytes.now in
    let N = texts_in c.args.step.names.body.now in
    room_first c.args.self.now (text "  ; not followed; its result is unknown, as are ") (commaed N (names_in s 63 (number_at s 61 2)) ++ text " after it")
    (room_as c.args.self.now (followed_some N s (λ z. c.if-taken_count-eq0.false (c.taken_count.ensures ∙ z))) c.requires)

pub taken-requires-clause-room : goal.taken-requires-clause-room
taken-requires-clause-room c = let s = c.args.step.bytes.now in
    let N = texts_in c.args.step.names.body.now in
    let x = commaed N (names_in s 63 (number_at s 61 2)) in
    room_first c.text-2.new.self x (text " after it")
    (room_then (x ++ text " after it") c.text-2.ensures (room_as c.args.self.now (followed_some N s (λ z. c.if-taken_count-eq0.false (c.taken_count.ensures ∙ z))) c.requires))

pub text-requires-3 : goal.text-requires-3
text-requires-3 c = let s = c.args.step.bytes.now in
    let N = texts_in c.args.step.names.body.now in
    let x = commaed N (names_in s 63 (number_at s 61 2)) in
    room_then (text " after it") c.taken.ensures
    (room_then (x ++ text " after it") c.text-2.ensures (room_as c.args.self.now (followed_some N s (λ z. c.if-taken_count-eq0.false (c.taken_count.ensures ∙ z))) c.requires))

pub returns : goal.returns
returns c =
    pushed_as (pushed_then c.text-2.ensures (pushed_then c.taken.ensures c.text-3.ensures))
    (followed_some (texts_in c.args.step.names.body.now) c.args.step.bytes.now (λ z. c.if-taken_count-eq0.false (c.taken_count.ensures ∙ z)))
