use Rattle.std.proofs.Common.{arith, rules}
use Rattle.operations.proofs.Rows.{row_of_kids, over_at, over_more}
use Rattle.operations.proofs.Taking.{so_far_start, so_far_fine, so_far_open, so_far_end}
use Rattle.operations.proofs.calls.take_all.Goals as goal

pub loop-i-init : goal.loop-i-init
loop-i-init c = rw (c.into_iter-i-iterator.ensures.into_iter_gives, c.new-i-items.ensures) (search (rules, so_far_start, row_of_kids))

pub take-requires : goal.take-requires
take-requires c =
    let z = over_at c.loop-i.invariant c.in-Some.ensures.steps in
    let more = over_more c.loop-i.invariant c.in-Some.ensures.steps in
    record { workspace_long = search rules; fine = so_far_fine z more; note_open = so_far_open z more }

pub returns : goal.returns
returns c = so_far_end c.loop-i.invariant.here (omega (arith, c.in-None.ensures.steps, c.loop-i.invariant.end)) c.start_note.ensures
