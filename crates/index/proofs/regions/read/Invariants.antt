-- `read` meets its contract. The loop's invariant: the bytes so far are the first, and no region before the one where the iterator stands has the next.
-- Assumes nothing.
use Rattle.index.proofs.RegionRead.{Reading}
use Rattle.index.proofs.regions.read.Given as goal

abbrev pub invariant-loop-at : goal.invariant-loop-at
invariant-loop-at l = Reading l.regions l.address l.size l.image l.at-iterator
