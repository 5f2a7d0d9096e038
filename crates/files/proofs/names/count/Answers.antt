use mathlib.Core.Path.{◌≡◌, refl, sym, ap}
use Prim.Native.Nat.{◌+◌, ◌-◌}
use native.Mathlib.Omega.{arith}
use lib.ListN.{length}
use Rattle.files.specs.Bytes.{one_less}
use Rattle.files.proofs.ItemLaws.{ends, refuses, goes_on, some_less}
use Rattle.files.proofs.names.count.Goals as goal

pub returns-in_err-prior : goal.returns-in_err-prior
returns-in_err-prior c =
    let z = rw c.loop-i.invariant.prior at c.in_err-prior.ensures.text in
    rw c.from_residual.ensures (ap one_less (refuses _ _ _ _ _ c.loop-i.invariant.counts 0 c.loop-i-test.true (sym z) refl))

pub loop-i-preserved : goal.loop-i-preserved
loop-i-preserved c =
    let i = c.loop-i.i in
    let k = length c.in_ok-prior.prior.now in
    let starts : i + (k + 1) - k ≡ i + 1 = omega arith in
    let follows : i + (k + 1) ≡ i + 1 + k = omega arith in
    let z = rw c.loop-i.invariant.prior at c.in_ok-prior.ensures.text.0 in
    record {
      counts = rw starts (goes_on _ _ _ _ _ c.loop-i.invariant.counts (k + 1) c.loop-i-test.true (sym z) (λ e. omega (arith, e)));
      prior = rw (starts, follows) c.in_ok-prior.ensures.text.1;
      within = omega (arith, c.in_ok-prior.ensures.within);
      few = omega arith;
    }

pub returns : goal.returns
returns c = some_less _ _ (ends _ _ _ _ _ c.loop-i.invariant.counts (omega arith))
