use Rattle.std.proofs.Common.{arith}
use Rattle.memory.proofs.PieceLaws.{slid_by, slid_back}
use Rattle.memory.proofs.slide.Goals as goal

pub returns-in-1 : goal.returns-in-1
returns-in-1 c = slid_by c.args.part.now _ c.args.m.from c.args.m.to c.args.m.count 1 c.requires (omega (arith, c.in-1.is)) c.up.ensures

pub returns-in-2 : goal.returns-in-2
returns-in-2 c = slid_by c.args.part.now _ c.args.m.from c.args.m.to c.args.m.count 2 c.requires (omega (arith, c.in-2.is)) c.up-in-2.ensures

pub returns-in-4 : goal.returns-in-4
returns-in-4 c = slid_by c.args.part.now _ c.args.m.from c.args.m.to c.args.m.count 4 c.requires (omega (arith, c.in-4.is)) c.up-in-4.ensures

pub returns-in-8 : goal.returns-in-8
returns-in-8 c = slid_by c.args.part.now _ c.args.m.from c.args.m.to c.args.m.count 8 c.requires (omega (arith, c.in-8.is)) c.up-in-8.ensures

pub returns-in-1-wrapping_sub : goal.returns-in-1-wrapping_sub
returns-in-1-wrapping_sub c = slid_back c.args.part.now _ c.args.m.from c.args.m.to c.args.m.count 1 c.requires (omega (arith, c.in-1-wrapping_sub.is)) c.down.ensures

pub returns-in-2-wrapping_sub : goal.returns-in-2-wrapping_sub
returns-in-2-wrapping_sub c = slid_back c.args.part.now _ c.args.m.from c.args.m.to c.args.m.count 2 c.requires (omega (arith, c.in-2-wrapping_sub.is)) c.down-in-2-wrapping_sub.ensures

pub returns-in-4-wrapping_sub : goal.returns-in-4-wrapping_sub
returns-in-4-wrapping_sub c = slid_back c.args.part.now _ c.args.m.from c.args.m.to c.args.m.count 4 c.requires (omega (arith, c.in-4-wrapping_sub.is)) c.down-in-4-wrapping_sub.ensures

pub returns-in-8-wrapping_sub : goal.returns-in-8-wrapping_sub
returns-in-8-wrapping_sub c = slid_back c.args.part.now _ c.args.m.from c.args.m.to c.args.m.count 8 c.requires (omega (arith, c.in-8-wrapping_sub.is)) c.down-in-8-wrapping_sub.ensures
