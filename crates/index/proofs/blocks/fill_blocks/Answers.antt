-- `fill_blocks` meets its contract. The loop's invariant: the entries made are right, and the iterator stands at the block whose entry is next. Assumes nothing.
use Rattle.std.proofs.Common.{refl, rules}
use Rattle.index.proofs.BlockIndex.{blocks_none, block_filled}
use Rattle.index.proofs.blocks.fill_blocks.Goals as goal

pub loop-place-init : goal.loop-place-init
loop-place-init c = rw c.into_iter-place-iterator.ensures.into_iter_gives (blocks_none c.requires.0 refl c.default-from.ensures.0 c.default-from.ensures.1 c.requires.1, refl)

pub loop-place-preserved : goal.loop-place-preserved
loop-place-preserved c = (block_filled c.loop-place.invariant.0 c.in-Some.ensures.steps c.put.ensures c.put-in-loop-place.ensures, search rules)
