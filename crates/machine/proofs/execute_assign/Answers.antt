-- `execute_assign` meets its contract. Assumes nothing.
use borrow.Author.Rules.{rules}
use Rattle.operations.proofs.Naming.{declared_written, symbol_writes}
use Rattle.hosting.proofs.Shapes.{room, assign_left, assign_right}
use Rattle.machine.proofs.Assigning.{val_executes, val_fails, write_assigns}
use Rattle.std.proofs.Common.{refl, sym, ap, ◌∙◌, is_some}
use Rattle.files.proofs.KindLaws.{of_kind, no_such}
use Rattle.machine.proofs.execute_assign.Goals as goal

pub next-right-requires : goal.next-right-requires
next-right-requires c = search (rules, room, assign_left)

pub is-requires : goal.is-requires
is-requires c = search (rules, room, assign_left)

pub is-requires-2 : goal.is-requires-2
is-requires-2 c = search (rules, room, assign_right)

pub returns-in_err-evaluate : goal.returns-in_err-evaluate
returns-in_err-evaluate c = rw c.from_residual.ensures (val_fails c.requires.of_kind c.next-right.ensures refl (no_such c.is-2.ensures c.if-is.false) c.evaluate-2.ensures.0 (ap is_some c.in_err-evaluate.was))

pub returns-then-is_some : goal.returns-then-is_some
returns-then-is_some c = let w = declared_written c.write_declared.ensures (sym c.is_some.ensures ∙ c.if-is_some.true) in
    val_executes c.requires.of_kind c.next-right.ensures refl (no_such c.is-2.ensures c.if-is.false) c.evaluate-2.ensures.0 (ap is_some c.in_ok-evaluate.was) (write_assigns c.value-v.ensures w)

pub returns : goal.returns
returns c = let u = symbol_writes (record { fine = assign_left c.requires.of_kind c.requires.fine; var = of_kind c.is.ensures c.if-not-is.false }) c.write_declared.ensures (sym c.is_some.ensures ∙ c.if-is_some.false) c.write_symbol.ensures in
    val_executes c.requires.of_kind c.next-right.ensures refl (no_such c.is-2.ensures c.if-is.false) c.evaluate-2.ensures.0 (ap is_some c.in_ok-evaluate.was) (write_assigns c.value-v.ensures u)
