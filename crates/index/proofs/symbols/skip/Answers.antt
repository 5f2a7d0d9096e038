-- `skip` meets its contract. Assumes nothing.
use native.Mathlib.Omega.{arith}
use Rattle.index.proofs.TextIndex.{skip_inside}
use Rattle.index.proofs.symbols.skip.Goals as goal

pub get-requires-clause-inside : goal.get-requires-clause-inside
get-requires-clause-inside c = omega (arith, skip_inside c.args.names.now c.args.at c.loop-step._step c.args.steps c.loop-step-test.true c.loop-step.invariant c.requires)
