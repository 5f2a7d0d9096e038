use Rattle.std.proofs.Common.{◌+◌}
use Rattle.memory.specs.Post.{Lies}
use Rattle.memory.proofs.row.Row.between.Given as goal

abbrev pub invariant-loop-size : goal.invariant-loop-size
invariant-loop-size l = Lies l.self l.address l.base (l.base + l.size)

abbrev pub decreases-loop-size : goal.decreases-loop-size
decreases-loop-size l = l.size
