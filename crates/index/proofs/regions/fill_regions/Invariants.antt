-- `fill_regions` meets its contract. The loop's invariant: the entries made are right, and the iterator goes on to the region whose entry is next. Assumes nothing.
use mathlib.Core.Path.{◌≡◌}
use lib.ListN.{length}
use Rattle.index.proofs.RegionIndex.{Filling}
use Rattle.index.proofs.regions.fill_regions.Given as goal

abbrev pub invariant-loop-at : goal.invariant-loop-at
invariant-loop-at l = Filling l.regions l.part l.at-iterator l.count × (length l.part ≡ length l.initial.part)
