use Rattle.passes.proofs.Arrival.{walk_arrives}
use native.Mathlib.Omega.{arith}
use Rattle.passes.proofs.walk_all.Goals as goal

pub returns : goal.returns
returns c = walk_arrives _ _ _ _ _ _ _ _ _ _ _ _ _ c.requires.workspace_long.1 (omega arith) c.limits.ensures c.requires.tabled c.set_start.ensures c.walk_from.ensures
