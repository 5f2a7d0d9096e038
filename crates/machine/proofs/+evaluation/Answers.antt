-- The cycle of calls, member by member. Assumes nothing.
use Rattle.hosting.proofs.Shapes.{room, arg_here, assign_left, assign_right, deref_kid, cast_type, binary_left, call_callee, call_args, kid_here, field_room, field_kid, field_type}
use Rattle.files.specs.declared.kinds.Kind.TheVariants.{Constant, Register, StringLiteral, FunctionName, ConditionTrue, ConditionFalse, ConstantCondition, StructInit, Field}
use Rattle.files.proofs.KindLaws.{of_kind, no_such, found, plain_past, none_above}
use Rattle.machine.proofs.Assigning.{val_fails, val_executes, odd_assigns, store_fails, store_assigns}
use Rattle.machine.proofs.Calling.{args_ready}
use Rattle.machine.proofs.Evaluating.{ready_on, how_on, alone, constant_evals, register_evals, string_evals, function_evals, true_evals, false_evals, decided_evals, struct_evals, last_evals, at_hand_evals}
use Rattle.machine.proofs.Operands.{ternary_next}
use Rattle.machine.proofs.Pointing.{deref_ready, target_narrow}
use Rattle.machine.proofs.Ranks.{falls_on, here_falls, first_falls, right_falls, field_falls}
use Rattle.machine.proofs.Room.{room_in}
use Rattle.machine.proofs.SiblingArgs.{args_start, args_stopped, args_room, args_next, args_done}
use Rattle.machine.proofs.SiblingFields.{fields_start, fields_stopped, field_stopped, fields_next, fields_done}
use Rattle.machine.proofs.Siblings.{kids_start, kids_stopped, kids_skipped, kids_next, kids_done}
use Rattle.machine.proofs.Storing.{odd_struct, struct_fails, struct_assigns}
use Rattle.operations.proofs.Rows.{row_of_kids, row_of_fields, over_at, over_more, over_on}
use Rattle.operations.proofs.Targeting.{base_fine}
use borrow.Author.Rules.{rules}
use Rattle.std.specs.Prelude.{is_some}
use mathlib.Core.Path.{sym, ap, ◌≡◌, ◌∙◌, refl}
use Prim.Native.Nat.{◌≤◌}
use native.Mathlib.Omega.{arith}
use Rattle.files.specs.Nodes.{kind_of}
use Rattle.machine.proofs.+evaluation.Goals as goal

pub args-loop-i-init : goal.args-loop-i-init
args-loop-i-init t c = rw (c.into_iter-i-iterator.ensures.into_iter_gives, c.new-i-items.ensures) (search (rules, args_start, row_of_kids))

pub args-evaluate-requires : goal.args-evaluate-requires
args-evaluate-requires t c = (falls_on _ _ _ _ _ c.loop-i.invariant.0.here.how (here_falls _ _ _ c.decreases (over_at c.loop-i.invariant.0 c.in-Some.ensures.steps).past), ((c.loop-i.invariant.0.here.ready, c.requires.ready_by.1), arg_here (over_more c.loop-i.invariant.0 c.in-Some.ensures.steps) (over_at c.loop-i.invariant.0 c.in-Some.ensures.steps).fine))

pub args-returns-in_err-evaluate : goal.args-returns-in_err-evaluate
args-returns-in_err-evaluate t c = rw c.from_residual.ensures (args_stopped (over_at c.loop-i.invariant.0 c.in-Some.ensures.steps) (over_more c.loop-i.invariant.0 c.in-Some.ensures.steps) c.evaluate.ensures.0 (ap is_some c.in_err-evaluate.was))

pub args-put_val-requires : goal.args-put_val-requires
args-put_val-requires t c = args_room (over_at c.loop-i.invariant.0 c.in-Some.ensures.steps) (over_more c.loop-i.invariant.0 c.in-Some.ensures.steps)

pub args-loop-i-preserved : goal.args-loop-i-preserved
args-loop-i-preserved t c = let l = c.loop-i.invariant in (
  over_on l.0 c.in-Some.ensures.steps (args_next (over_at c.loop-i.invariant.0 c.in-Some.ensures.steps) (over_more c.loop-i.invariant.0 c.in-Some.ensures.steps) c.evaluate.ensures.0 (ap is_some c.in_ok-evaluate.was) refl c.value-v.ensures c.put_val.ensures),
  c.evaluate.auto.ws ∙ l.1,
  c.evaluate.auto.out ∙ l.2,
)

pub args-returns : goal.args-returns
args-returns t c = args_done c.loop-i.invariant.0.here (omega (arith, c.in-None.ensures.steps, c.loop-i.invariant.0.end))

pub assign-next-right-requires : goal.assign-next-right-requires
assign-next-right-requires t c = search (rules, room, assign_left)

pub assign-is-requires : goal.assign-is-requires
assign-is-requires t c = search (rules, room, assign_right)

pub assign-assign_val-requires : goal.assign-assign_val-requires
assign-assign_val-requires t c =
    let f = assign_right c.requires.of_kind c.requires.fine c.next-right.ensures in
    (falls_on _ _ _ _ _ (how_on c.operand.ensures f) (first_falls _ _ _ 0 0 c.decreases c.requires.fine (omega arith)), ((ready_on c.operand.ensures c.requires.ready_by.0 (ap is_some c.in_ok-operand.was) f, c.requires.ready_by.1), assign_left c.requires.of_kind c.requires.fine))

pub assign-returns-in_err-operand : goal.assign-returns-in_err-operand
assign-returns-in_err-operand t c = rw c.from_residual.ensures (val_fails c.requires.of_kind c.next-right.ensures refl (no_such c.is.ensures c.if-is.false) c.operand.ensures (ap is_some c.in_err-operand.was))

pub assign-returns : goal.assign-returns
assign-returns t c = val_executes c.requires.of_kind c.next-right.ensures refl (no_such c.is.ensures c.if-is.false) c.operand.ensures (ap is_some c.in_ok-operand.was) c.assign_val.ensures

pub assign_struct-returns-then-not-is : goal.assign_struct-returns-then-not-is
assign_struct-returns-then-not-is t c = odd_struct refl (no_such c.is.ensures c.if-not-is.true) c.ends.ensures

pub assign_struct-returns-in_err-evaluate : goal.assign_struct-returns-in_err-evaluate
assign_struct-returns-in_err-evaluate t c = rw c.from_residual.ensures (struct_fails refl (of_kind c.is.ensures c.if-not-is.false) c.base-base.ensures c.evaluate.ensures.0 (ap is_some c.in_err-evaluate.was))

pub assign_struct-store_struct-requires : goal.assign_struct-store_struct-requires
assign_struct-store_struct-requires t c =
    let f = base_fine c.base-base.ensures (deref_kid (of_kind c.is.ensures c.if-not-is.false) c.requires.fine) in
    (falls_on _ _ _ _ _ (how_on c.evaluate.ensures.0 f) (right_falls _ _ _ 0 0 c.decreases c.requires.fine c.requires.left_lt_right (omega arith)), ((ready_on c.evaluate.ensures.0 c.requires.ready_by.0 (ap is_some c.in_ok-evaluate.was) f, c.requires.ready_by.1), (c.requires.fine_right, c.requires.right_of_kind)))

pub assign_struct-returns : goal.assign_struct-returns
assign_struct-returns t c = struct_assigns refl (of_kind c.is.ensures c.if-not-is.false) c.base-base.ensures c.evaluate.ensures.0 (ap is_some c.in_ok-evaluate.was) c.store_struct.ensures

pub assign_val-returns-then-not-is : goal.assign_val-returns-then-not-is
assign_val-returns-then-not-is t c = odd_assigns refl (no_such c.is.ensures c.if-is.false) (no_such c.is-2.ensures c.if-not-is.true) c.ends.ensures

pub assign_val-target_of-pointer-requires : goal.assign_val-target_of-pointer-requires
assign_val-target_of-pointer-requires t c = record { workspace_long = search (rules, room_in); node_inside = room (deref_kid (of_kind c.is-2.ensures c.if-not-is.false) c.requires.fine); n_bound = λ e. cast_type e (deref_kid (of_kind c.is-2.ensures c.if-not-is.false) c.requires.fine) }

pub assign_val-returns-in_err-evaluate : goal.assign_val-returns-in_err-evaluate
assign_val-returns-in_err-evaluate t c = rw c.from_residual.ensures (store_fails refl (of_kind c.is-2.ensures c.if-not-is.false) c.requires.fine c.value-v.ensures c.target_of-pointer.ensures c.evaluate.ensures.0 (ap is_some c.in_err-evaluate.was))

pub assign_val-returns : goal.assign_val-returns
assign_val-returns t c = store_assigns refl (of_kind c.is-2.ensures c.if-not-is.false) c.requires.fine c.value-v.ensures c.target_of-pointer.ensures c.evaluate.ensures.0 (is_some c.store.result) (ap is_some c.in_ok-evaluate.was) c.store.ensures

pub binary-next-right-requires : goal.binary-next-right-requires
binary-next-right-requires t c = search (rules, room, binary_left)

pub call-next-first-requires : goal.call-next-first-requires
call-next-first-requires t c = search (rules, room, call_callee)

pub call-called-requires : goal.call-called-requires
call-called-requires t c = record { workspace_long = (args_ready c.args-2.ensures c.in_ok-count.was (call_args c.requires.of_kind c.requires.fine c.next-first.ensures c.next-end.ensures) c.requires.ready_by.0).ready.fit.room; fine = c.requires.fine; of_kind = c.requires.of_kind; count_bound = omega (arith, (c.args-2.ensures.filled _ c.in_ok-count.was).1) }

pub deref-target_of-pointer-requires : goal.deref-target_of-pointer-requires
deref-target_of-pointer-requires t c = search (rules, room, deref_kid, cast_type)

pub deref-load_at-requires : goal.deref-load_at-requires
deref-load_at-requires t c = let ready = (deref_ready c.requires.of_kind c.requires.fine c.target_of-pointer.ensures c.operand.ensures c.requires.ready_by.0 (ap is_some c.in_ok-operand.was)).ready in record { fit = ready.fit; regions_indexed = ready.regions; bits_bound = target_narrow c.requires.ready_by.0 (deref_kid c.requires.of_kind c.requires.fine) c.target_of-pointer.ensures }

pub evaluate-returns-in-Constant : goal.evaluate-returns-in-Constant
evaluate-returns-in-Constant t c = alone 0 refl (found Constant (omega arith) c.in-Constant.ensures) (constant_evals refl (found Constant (omega arith) c.in-Constant.ensures) (search rules))

pub evaluate-returns-in-Register : goal.evaluate-returns-in-Register
evaluate-returns-in-Register t c = alone 2 refl (found Register (omega arith) c.in-Register.ensures) (register_evals refl (found Register (omega arith) c.in-Register.ensures) (search rules))

pub evaluate-returns-in-StringLiteral : goal.evaluate-returns-in-StringLiteral
evaluate-returns-in-StringLiteral t c = alone 3 refl (found StringLiteral (omega arith) c.in-StringLiteral.ensures) (string_evals refl (found StringLiteral (omega arith) c.in-StringLiteral.ensures) (search rules))

pub evaluate-returns-in-FunctionName : goal.evaluate-returns-in-FunctionName
evaluate-returns-in-FunctionName t c = alone 4 refl (found FunctionName (omega arith) c.in-FunctionName.ensures) (function_evals refl (found FunctionName (omega arith) c.in-FunctionName.ensures) (search rules))

pub evaluate-returns-in-ConditionTrue : goal.evaluate-returns-in-ConditionTrue
evaluate-returns-in-ConditionTrue t c = alone 5 refl (found ConditionTrue (omega arith) c.in-ConditionTrue.ensures) (true_evals refl (found ConditionTrue (omega arith) c.in-ConditionTrue.ensures) (search rules))

pub evaluate-returns-in-ConditionFalse : goal.evaluate-returns-in-ConditionFalse
evaluate-returns-in-ConditionFalse t c = alone 6 refl (found ConditionFalse (omega arith) c.in-ConditionFalse.ensures) (false_evals refl (found ConditionFalse (omega arith) c.in-ConditionFalse.ensures) (search rules))

pub evaluate-returns-in-ConstantCondition : goal.evaluate-returns-in-ConstantCondition
evaluate-returns-in-ConstantCondition t c = alone 7 refl (found ConstantCondition (omega arith) c.in-ConstantCondition.ensures) (decided_evals refl (found ConstantCondition (omega arith) c.in-ConstantCondition.ensures) (search rules))

pub evaluate-returns-in-StructInit : goal.evaluate-returns-in-StructInit
evaluate-returns-in-StructInit t c = alone 17 refl (found StructInit (omega arith) c.in-StructInit.ensures) (struct_evals refl (found StructInit (omega arith) c.in-StructInit.ensures) (search rules))

pub evaluate-returns-in-Field : goal.evaluate-returns-in-Field
evaluate-returns-in-Field t c =
    let k : kind_of c.args.reads.now.nodes.now c.args.n ≡ 18 = found Field (omega arith) c.in-Field.ensures in
    last_evals refl c.requires.fine (none_above 18 _ (omega arith)) c.unknown-in-Field.ensures

pub evaluate-returns-in-Plain : goal.evaluate-returns-in-Plain
evaluate-returns-in-Plain t c =
    let k : 19 ≤ kind_of c.args.reads.now.nodes.now c.args.n = plain_past c.in-Plain.ensures in
    last_evals refl c.requires.fine (none_above 18 _ (omega arith)) c.unknown-in-Plain.ensures

pub kids-loop-i-init : goal.kids-loop-i-init
kids-loop-i-init t c = rw (c.into_iter-i-iterator.ensures.into_iter_gives, c.new-i-items.ensures) (search (rules, kids_start, row_of_kids))

pub kids-at_hand-requires : goal.kids-at_hand-requires
kids-at_hand-requires t c = search (rules, kid_here (over_more c.loop-i.invariant.0 c.in-Some.ensures.steps) (over_at c.loop-i.invariant.0 c.in-Some.ensures.steps).fine)

pub kids-evaluate-requires : goal.kids-evaluate-requires
kids-evaluate-requires t c = (falls_on _ _ _ _ _ c.loop-i.invariant.0.here.how (here_falls _ _ _ c.decreases (over_at c.loop-i.invariant.0 c.in-Some.ensures.steps).past), ((c.loop-i.invariant.0.here.ready, c.requires.ready_by.1), kid_here (over_more c.loop-i.invariant.0 c.in-Some.ensures.steps) (over_at c.loop-i.invariant.0 c.in-Some.ensures.steps).fine))

pub kids-returns-in_err-evaluate : goal.kids-returns-in_err-evaluate
kids-returns-in_err-evaluate t c = rw c.from_residual.ensures (kids_stopped (over_at c.loop-i.invariant.0 c.in-Some.ensures.steps) (over_more c.loop-i.invariant.0 c.in-Some.ensures.steps) c.evaluate.ensures.0 (ap is_some c.in_err-evaluate.was))

pub kids-loop-i-preserved-then-is_some : goal.kids-loop-i-preserved-then-is_some
kids-loop-i-preserved-then-is_some t c = (over_on c.loop-i.invariant.0 c.in-Some.ensures.steps (kids_skipped (over_at c.loop-i.invariant.0 c.in-Some.ensures.steps) (over_more c.loop-i.invariant.0 c.in-Some.ensures.steps) c.at_hand.result c.at_hand.ensures (sym c.is_some.ensures ∙ c.if-is_some.true) refl), c.loop-i.invariant.1, c.loop-i.invariant.2)

pub kids-loop-i-preserved : goal.kids-loop-i-preserved
kids-loop-i-preserved t c = (over_on c.loop-i.invariant.0 c.in-Some.ensures.steps (kids_next (over_at c.loop-i.invariant.0 c.in-Some.ensures.steps) (over_more c.loop-i.invariant.0 c.in-Some.ensures.steps) c.evaluate.ensures.0 (ap is_some c.in_ok-evaluate.was) refl), c.evaluate.auto.ws ∙ c.loop-i.invariant.1, c.evaluate.auto.out ∙ c.loop-i.invariant.2)

pub kids-returns : goal.kids-returns
kids-returns t c = kids_done c.loop-i.invariant.0.here (omega (arith, c.in-None.ensures.steps, c.loop-i.invariant.0.end)) c.unknown.ensures

pub operand-returns-in-Some : goal.operand-returns-in-Some
operand-returns-in-Some t c = search (rules, at_hand_evals)

pub store_fields-loop-i-init : goal.store_fields-loop-i-init
store_fields-loop-i-init t c = rw (c.into_iter-i-iterator.ensures.into_iter_gives, c.new-i-items.ensures) (search (rules, fields_start, row_of_fields))

pub store_fields-evaluate-requires : goal.store_fields-evaluate-requires
store_fields-evaluate-requires t c =
    let z = over_at c.loop-i.invariant.0 c.in-Some.ensures.steps in
    let ne = over_more c.loop-i.invariant.0 c.in-Some.ensures.steps in
    (falls_on _ _ _ _ _ z.how (field_falls _ _ _ 0 3 c.decreases z.past ne z.fine (omega arith)), ((z.ready, c.requires.ready_by.1), field_kid ne z.fine))

pub store_fields-returns-in_err-evaluate : goal.store_fields-returns-in_err-evaluate
store_fields-returns-in_err-evaluate t c = rw c.from_residual.ensures (fields_stopped (over_at c.loop-i.invariant.0 c.in-Some.ensures.steps) (over_more c.loop-i.invariant.0 c.in-Some.ensures.steps) c.evaluate.ensures.0 (ap is_some c.in_err-evaluate.was))

pub store_fields-store_field-requires : goal.store_fields-store_field-requires
store_fields-store_field-requires t c =
    let z = over_at c.loop-i.invariant.0 c.in-Some.ensures.steps in
    let ne = over_more c.loop-i.invariant.0 c.in-Some.ensures.steps in
    record { fit = (ready_on c.evaluate.ensures.0 z.ready (ap is_some c.in_ok-evaluate.was) (field_kid ne z.fine)).ready.fit; typed = record { inside = field_room ne z.fine; below = field_type ne z.fine } }

pub store_fields-returns-in_err-store_field : goal.store_fields-returns-in_err-store_field
store_fields-returns-in_err-store_field t c = rw c.from_residual-in_err-store_field.ensures (field_stopped (over_at c.loop-i.invariant.0 c.in-Some.ensures.steps) (over_more c.loop-i.invariant.0 c.in-Some.ensures.steps) c.evaluate.ensures.0 (ap is_some c.in_ok-evaluate.was) (is_some c.store_field.result) c.store_field.ensures (ap is_some c.in_err-store_field.was))

pub store_fields-loop-i-preserved : goal.store_fields-loop-i-preserved
store_fields-loop-i-preserved t c = (over_on c.loop-i.invariant.0 c.in-Some.ensures.steps (fields_next (over_at c.loop-i.invariant.0 c.in-Some.ensures.steps) (over_more c.loop-i.invariant.0 c.in-Some.ensures.steps) c.evaluate.ensures.0 (ap is_some c.in_ok-evaluate.was) (is_some c.store_field.result) c.store_field.ensures (ap is_some c.in_ok-store_field.was) refl), c.store_field.auto.ws ∙ c.evaluate.auto.ws ∙ c.loop-i.invariant.1, c.evaluate.auto.out ∙ c.loop-i.invariant.2)

pub store_fields-returns : goal.store_fields-returns
store_fields-returns t c = fields_done c.loop-i.invariant.0.here (omega (arith, c.in-None.ensures.steps, c.loop-i.invariant.0.end))

pub ternary-loop-round-preserved : goal.ternary-loop-round-preserved
ternary-loop-round-preserved t c = (
  ternary_next c.loop-round.invariant.0 (omega (arith, c.loop-round-test.true)) c.evaluate.ensures.0 c.value-then.ensures (ap is_some c.in_ok-evaluate.was) c.next-i.ensures,
  c.evaluate.auto.ws ∙ c.loop-round.invariant.1,
  c.evaluate.auto.out ∙ c.loop-round.invariant.2,
)
