use native.Mathlib.Omega.{arith}
use Rattle.passes.proofs.Arrival.{walk_ready, walk_rooted, walk_balanced}
use Rattle.passes.proofs.walk_from.Goals as goal

pub walk-requires : goal.walk-requires
walk-requires c = let t = c.requires in record { ready = walk_ready _ _ c.nodes-nodes.ensures c.symbols-symbols.ensures c.regions-regions.ensures c.no_counts-at.ensures t.0 t.1; rooted = walk_rooted c.nodes-nodes.ensures c.statements-statements.ensures c.blocks-blocks.ensures t.0; balanced = walk_balanced c.no_counts-at.ensures (omega (arith, c)) }
