use mathlib.Core.Path.{◌≡◌}
use Prim.Native.Nat.{◌≤◌, ◌-◌}
use lib.ListN.{length}
use Rattle.files.specs.Items.{read_from}
use Rattle.files.specs.WorldFile.{Before, Came, regions_in, region_items}
use Rattle.files.proofs.world.check_regions.Given as goal

abbrev pub invariant-loop-i : goal.invariant-loop-i
invariant-loop-i l = (l.i ≤ length l.b) × ((s : Before) × (Came l.last s × (regions_in l.b ≡ read_from (region_items l.b) (length l.b) s l.i)))

abbrev pub decreases-loop-i : goal.decreases-loop-i
decreases-loop-i l = length l.b - l.i
