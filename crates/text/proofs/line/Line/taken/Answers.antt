use borrow.Author.Rules.{rules}
use native.Mathlib.Omega.{arith}
use Prim.Native.Nat.{◌+◌, ◌*◌}
use Rattle.text.proofs.PutLaws.{pushed_as, room_as, room_then}
use Rattle.files.specs.Program.{texts_in}
use Rattle.definition.specs.Listing.{name_text}
use Rattle.layout.specs.Number.{number_at}
use Rattle.text.proofs.NameLaws.{name_read, first_room, names_left, names_room, names_next, names_last}
use Rattle.text.proofs.line.Line.taken.Goals as goal

pub name-requires : goal.name-requires
name-requires c = let s = c.args.step.bytes.now in
    room_as c.args.self.now (name_read c.taken.result c.taken.ensures) (first_room (texts_in c.args.step.names.body.now) s (number_at s 61 2) c.args.self.now c.requires.some c.requires.room)

pub loop-k-init : goal.loop-k-init
loop-k-init c = let s = c.args.step.bytes.now in
    names_left (texts_in c.args.step.names.body.now) s (number_at s 61 2) c.requires.some c.requires.room (pushed_as c.name.ensures (name_read c.taken.result c.taken.ensures))

pub text-requires : goal.text-requires
text-requires c = let s = c.args.step.bytes.now in
    omega (arith, names_room (texts_in c.args.step.names.body.now) s (number_at s 61 2) c.name.new.self c.loop-k.k (search rules) c.loop-k.invariant)

pub name-requires-in-loop-k : goal.name-requires-in-loop-k
name-requires-in-loop-k c = let s = c.args.step.bytes.now in
    let N = texts_in c.args.step.names.body.now in
    room_as c.text.new.self (name_read c.taken-in-loop-k.result c.taken-in-loop-k.ensures)
    (room_then (name_text N (number_at s (63 + c.loop-k.k * 2) 2)) c.text.ensures (names_room N s (number_at s 61 2) c.name.new.self c.loop-k.k (search rules) c.loop-k.invariant))

pub loop-k-preserved : goal.loop-k-preserved
loop-k-preserved c = let s = c.args.step.bytes.now in
    names_next (texts_in c.args.step.names.body.now) s (number_at s 61 2) c.name.new.self c.loop-k.k (search rules) c.loop-k.invariant c.text.ensures
    (pushed_as c.name-in-loop-k.ensures (name_read c.taken-in-loop-k.result c.taken-in-loop-k.ensures))

pub returns : goal.returns
returns c = let s = c.args.step.bytes.now in
    names_last (texts_in c.args.step.names.body.now) s (number_at s 61 2) c.name.new.self c.loop-k.k c.requires.some (pushed_as c.name.ensures (name_read c.taken.result c.taken.ensures)) (search rules) c.loop-k.invariant
