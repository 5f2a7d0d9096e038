use native.Mathlib.Omega.{arith}
use borrow.Author.Rules.{rules}
use Rattle.files.specs.Names.{before}
use Rattle.files.proofs.NameLaws.{before_end, before_longer, before_less, before_more, before_on}
use Rattle.files.proofs.names.precedes.Goals as goal

pub returns-then-t-i : goal.returns-then-t-i
returns-then-t-i c = search (rules, before_longer)

pub returns-then-x-y : goal.returns-then-x-y
returns-then-x-y c = let x = c.args in
    before_less x.s.now x.t.now c.loop-i.i (before x.s.now x.t.now) c.loop-i.invariant (omega arith) (omega arith) c.if-x-y.true

pub returns-then-y-x : goal.returns-then-y-x
returns-then-y-x c = let x = c.args in
    before_more x.s.now x.t.now c.loop-i.i (before x.s.now x.t.now) c.loop-i.invariant (omega arith) (omega arith) c.if-y-x.true

pub loop-i-preserved : goal.loop-i-preserved
loop-i-preserved c = let x = c.args in
    before_on x.s.now x.t.now c.loop-i.i (before x.s.now x.t.now) c.loop-i.invariant (omega arith) (omega arith) c.if-x-y.false c.if-y-x.false

pub returns : goal.returns
returns c = search (rules, before_end)
