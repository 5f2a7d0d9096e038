use mathlib.Core.Path.{sym, ◌∙◌}
use borrow.Author.Tests.{lt-ltb, le-ltb}
use Rattle.files.proofs.FaultLaws.{of_no_kind, barred, unused}
use Rattle.files.proofs.KindLaws.{kind_there, kind_missing}
use Rattle.files.proofs.nodes.fault.Goals as goal

pub returns-in_default : goal.returns-in_default
returns-in_default c =
    of_no_kind c.args.b.now _ _ c.args.n (le-ltb _ 20 (rw c.kind_number.ensures at (kind_missing c.kind_number.result _ _ c.in_default.ensures)))

pub check_used-requires : goal.check_used-requires
check_used-requires c = (c.requires.inside, sym c.kind_number.ensures ∙ sym (kind_there c.kind_number.result c.in-Ok.kind _ c.in-Ok.ensures).1)

pub returns-then-not-check_used : goal.returns-then-not-check_used
returns-then-not-check_used c =
    let k = kind_there c.kind_number.result c.in-Ok.kind _ c.in-Ok.ensures in
    barred c.args.b.now _ _ c.args.n (lt-ltb _ 20 (rw c.kind_number.ensures at k.0)) (sym c.if-not-check_used.ensures)

pub returns : goal.returns
returns c =
    let k = kind_there c.kind_number.result c.in-Ok.kind _ c.in-Ok.ensures in
    unused c.args.b.now _ _ c.args.n (lt-ltb _ 20 (rw c.kind_number.ensures at k.0)) (sym c.if-not-check_used.ensures) c.requires.refused
