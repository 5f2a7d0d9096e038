use mathlib.Core.Path.{refl, sym, ap}
use Prim.Native.Nat.{◌+◌, ◌-◌}
use native.Mathlib.Omega.{arith}
use lib.Dec.{leb}
use Rattle.files.specs.WorldFile.{before, regions_in}
use Rattle.files.proofs.BoolLaws.{counts}
use Rattle.files.proofs.ItemLaws.{ends, refuses, goes_on, zero_none, some_length}
use Rattle.files.proofs.world.check_regions.Goals as goal

pub loop-i-init : goal.loop-i-init
unfolding regions_in
loop-i-init c = (omega arith, (before 0 0, (refl, refl)))

pub returns-in_default : goal.returns-in_default
returns-in_default c =
    let v = c.loop-i.invariant.1 in
    ap (leb 1) (refuses _ _ _ _ _ v.1.1 0 c.loop-i-test.true (sym (zero_none _ (c.in_default.ensures.region v.0 v.1.0))) refl)

pub loop-i-preserved : goal.loop-i-preserved
loop-i-preserved c =
    let v = c.loop-i.invariant.1 in (
      omega (arith, c.in-Some.ensures.within),
      (before (v.0.count + 1) (c.get.result + (c.in-Some.k - 13)), ((omega arith, refl), rw c.get.ensures.number (goes_on _ _ _ _ _ v.1.1 c.in-Some.k c.loop-i-test.true (some_length _ _ (c.in-Some.ensures.region v.0 v.1.0)) (λ e. omega (arith, c.in-Some.ensures.within))))),
    )

pub returns : goal.returns
returns c = counts _ _ (ends _ _ _ _ _ c.loop-i.invariant.1.1.1 (omega arith))
