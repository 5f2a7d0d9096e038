use Rattle.std.proofs.Common.{◌/◌, arith}
use Rattle.memory.proofs.SearchLaws.{quarter}
use Rattle.memory.specs.Overlay.{rank}
use Rattle.memory.proofs.row.Row.between.Goals as goal

pub overflow_mul-base : goal.overflow_mul-base
overflow_mul-base c =
    let l = c.loop-size in
    let h = quarter (rank c.args.address c.args.self.now) l.base (l.size / 4) l.size c.quarters.result l.invariant.low l.invariant.high (omega arith) c.quarters.ensures in
    record { fits = omega (arith, h.2) }

pub overflow_add-base : goal.overflow_add-base
overflow_add-base c =
    let l = c.loop-size in
    let h = quarter (rank c.args.address c.args.self.now) l.base (l.size / 4) l.size c.quarters.result l.invariant.low l.invariant.high (omega arith) c.quarters.ensures in
    record { fits = omega (arith, h.2, l.invariant.within, l.invariant.row.short) }

-- the rank lies in the stretch that the search goes on with
pub loop-size-preserved : goal.loop-size-preserved
loop-size-preserved c =
    let l = c.loop-size in
    let h = quarter (rank c.args.address c.args.self.now) l.base (l.size / 4) l.size c.quarters.result l.invariant.low l.invariant.high (omega arith) c.quarters.ensures in
    record { low = h.0; high = h.1; within = omega (arith, h.2, l.invariant.within); row = l.invariant.row }
