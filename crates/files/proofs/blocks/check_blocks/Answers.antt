use mathlib.Core.Path.{refl, sym, ap}
use native.Mathlib.Omega.{arith}
use lib.Dec.{leb}
use Rattle.files.proofs.BoolLaws.{only_one}
use Rattle.files.proofs.ItemLaws.{ends, refuses, goes_on, zero_none, some_length}
use Rattle.files.proofs.blocks.check_blocks.Goals as goal

pub returns-in_default : goal.returns-in_default
returns-in_default c = ap (leb 1) (refuses _ _ _ _ _ c.loop-i.invariant.0 0 c.loop-i-test.true (sym (zero_none _ c.in_default.ensures.block)) refl)

pub loop-i-preserved : goal.loop-i-preserved
loop-i-preserved c = (
  rw c.get.ensures.number (goes_on _ _ _ _ _ c.loop-i.invariant.0 c.in-Some.k c.loop-i-test.true (some_length _ _ c.in-Some.ensures.block) (λ e. omega (arith, c.in-Some.ensures.within))),
  omega (arith, c.in-Some.ensures.within),
)

pub returns : goal.returns
returns c = only_one _ _ (ends _ _ _ _ _ c.loop-i.invariant.0 (omega arith))
