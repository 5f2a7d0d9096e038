use Rattle.std.proofs.Common.{rules, arith}
use Rattle.layout.proofs.StoreLaws.{each_byte}
use Rattle.memory.proofs.RunLaws.{replaced}
use Rattle.memory.proofs.PartLaws.{entries_spans}
use Rattle.memory.proofs.store_run.Goals as goal

pub overflow_add-first : goal.overflow_add-first
overflow_add-first c = let w = entries_spans _ c.args.part.now c.args.count c.new.ensures _ _ _ c.span_of-span.ensures in
    record { fits = omega (arith, c.requires.placed, c.first_of-first.ensures, w.before, w.within) }

pub overwrite-requires : goal.overwrite-requires
overwrite-requires c = let w = entries_spans _ c.args.part.now c.args.count c.new.ensures _ _ _ c.span_of-span.ensures in
    omega (arith, c.requires.room, c.requires.placed, c.first_of-first.ensures, w.before, w.within)

pub returns-then-span-run : goal.returns-then-span-run
returns-then-span-run c = let w = entries_spans _ c.args.part.now c.args.count c.new.ensures _ _ _ c.span_of-span.ensures in
    let all = each_byte c.args.part.now (λ k. search rules) in
    replaced c.args.part.now c.overwrite.new.part c.args.count c.requires all c.span_of-span.result c.args.run.address c.args.run.number c.args.run.bytes w c.args.run.some c.args.run.no_wrap c.if-span-run.true
    c.first_of-first.result c.first_of-first.ensures c.overwrite.ensures

pub add-requires-clause-sorted : goal.add-requires-clause-sorted
add-requires-clause-sorted c = (c.requires, entries_spans _ c.args.part.now c.args.count c.new.ensures _ _ _ c.span_of-span.ensures)
