use Rattle.std.proofs.Common.{rules, refl}
use Rattle.files.proofs.KindLaws.{of_kind}
use Rattle.operations.proofs.Taking.{takes_local, under_room, under_below, still_open}
use Rattle.operations.proofs.calls.take.Goals as goal

pub is-requires-2 : goal.is-requires-2
is-requires-2 c = under_room c.requires.fine refl (of_kind c.is.ensures c.if-not-is.false)

pub reference-name-requires : goal.reference-name-requires
reference-name-requires c = under_room c.requires.fine refl (of_kind c.is.ensures c.if-not-is.false)

pub declared-requires : goal.declared-requires
declared-requires c = (c.requires.workspace_long, under_below c.requires.fine refl (of_kind c.is.ensures c.if-not-is.false) refl (of_kind c.is-2.ensures c.if-not-is-2.false) c.reference-name.ensures.0)

pub add_name-requires : goal.add_name-requires
add_name-requires c = search (rules, still_open)

pub returns-in-Some : goal.returns-in-Some
returns-in-Some c =
    takes_local _ refl (of_kind c.is.ensures c.if-not-is.false) refl (of_kind c.is-2.ensures c.if-not-is-2.false) c.requires.fine c.reference-name.ensures.0 c.declared.ensures c.in-Some.is c.unknown.ensures c.set_variable.ensures c.add_name.ensures
