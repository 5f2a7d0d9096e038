use mathlib.Core.Path.{◌≡◌}
use Prim.Native.Nat.{◌≤◌, ◌-◌}
use lib.ListN.{length}
use Rattle.files.specs.Items.{read_from}
use Rattle.files.specs.Blocks.{blocks_in, block_items}
use Rattle.files.proofs.blocks.check_blocks.Given as goal

abbrev pub invariant-loop-i : goal.invariant-loop-i
invariant-loop-i l = (blocks_in l.nodes l.count l.b ≡ read_from (block_items l.nodes l.b) (length l.b) l.left l.i) × (l.i ≤ length l.b)

abbrev pub decreases-loop-i : goal.decreases-loop-i
decreases-loop-i l = length l.b - l.i
