-- `fill_blocks` meets its contract. The loop's invariant: the entries made are right, and the iterator stands at the block whose entry is next. Assumes nothing.
use mathlib.Core.Path.{◌≡◌}
use lib.ListN.{length}
use Rattle.index.proofs.BlockIndex.{Filling}
use Rattle.index.proofs.blocks.fill_blocks.Given as goal

abbrev pub invariant-loop-place : goal.invariant-loop-place
invariant-loop-place l = Filling l.blocks l.part l.place-iterator l.count × (length l.part ≡ length l.initial.part)
