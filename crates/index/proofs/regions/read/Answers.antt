-- `read` meets its contract. The loop's invariant: the bytes so far are the first, and no region before the one where the iterator stands has the next.
-- (Named on the function, by `using`, the other laws of its ends are not found.) Assumes nothing.
use Rattle.index.proofs.RegionRead.{reading_end, reading_before, reading_past, reading_more}
use Rattle.index.proofs.regions.read.Goals as goal

pub returns-then-wanted-start : goal.returns-then-wanted-start
returns-then-wanted-start c = reading_before c.loop-at.invariant c.in-Some.ensures.steps c.start_of-start.ensures c.if-wanted-start.true

pub loop-at-preserved-else-image-size : goal.loop-at-preserved-else-image-size
loop-at-preserved-else-image-size c =
    let less = c.if-image-size.false in
    reading_more c.loop-at.invariant c.in-Some.ensures.steps c.gather-image.ensures.0 c.requires.1 less (c.gather-image.ensures.1 less)

pub loop-at-preserved : goal.loop-at-preserved
loop-at-preserved c = reading_past c.loop-at.invariant c.in-Some.ensures.steps c.start_of-start.ensures c.length_of.ensures c.if-wanted-start.false c.if-wanted-start-2.false

pub returns : goal.returns
returns c = reading_end c.loop-at.invariant c.in-None.ensures.steps
