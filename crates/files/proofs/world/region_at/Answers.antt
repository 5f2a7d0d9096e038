use borrow.Author.Tests.{le-leb, lt-leb}
use mathlib.Core.Bool.{and-false}
use Prim.Native.Nat.{◌+◌, ◌^◌, ◌≤◌, ◌<◌}
use native.Mathlib.Omega.{arith}
use Rattle.files.specs.WorldFile.{region_at}
use Rattle.files.proofs.ItemLaws.{some_there}
use Rattle.files.proofs.world.region_at.Goals as goal

pub returns-then-b-i-lt-REGION-clause-region : goal.returns-then-b-i-lt-REGION-clause-region
unfolding region_at
returns-then-b-i-lt-REGION-clause-region c s t = simp (lt-leb _ _ c.if-b-i-lt-REGION.true)

pub returns-then-size-eq0-clause-region : goal.returns-then-size-eq0-clause-region
unfolding region_at
returns-then-size-eq0-clause-region c s t = simp (← c.get-size.ensures.number, c.if-size-eq0.true, and-false)

pub returns-then-at-size-clause-region : goal.returns-then-at-size-clause-region
unfolding region_at
returns-then-at-size-clause-region c s t =
    let far : 2 ^ 64 < c.get-at.result + c.get-size.result = omega arith in
    simp (← c.get-at.ensures.number, ← c.get-size.ensures.number, lt-leb _ _ far, and-false)

pub returns-then-b-i-clause-region : goal.returns-then-b-i-clause-region
unfolding region_at
returns-then-b-i-clause-region c s t = simp (← c.get-size.ensures.number, lt-leb _ _ c.if-b-i.true, and-false)

pub returns-then-not-is_past-clause-region : goal.returns-then-not-is_past-clause-region
unfolding region_at
returns-then-not-is_past-clause-region c s t = simp (← c.get-at.ensures.number, ← c.is_past.ensures s t, c.if-not-is_past.true, and-false)

pub returns-clause-region : goal.returns-clause-region
unfolding region_at
returns-clause-region c s t =
    let some : 1 ≤ c.get-size.result = omega arith in
    let near : c.get-at.result + c.get-size.result ≤ 2 ^ 64 = omega arith in
    some_there _ _ (omega arith)
    (simp (le-leb _ _ c.if-b-i-lt-REGION.false, ← c.get-at.ensures.number, ← c.get-size.ensures.number, le-leb _ _ some, le-leb _ _ near, le-leb _ _ c.if-b-i.false, ← c.is_past.ensures s t, c.if-not-is_past.false))
