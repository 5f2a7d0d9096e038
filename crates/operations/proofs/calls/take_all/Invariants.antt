use Rattle.operations.proofs.Rows.{Over}
use Rattle.operations.proofs.Taking.{SoFar}
use Rattle.operations.proofs.calls.take_all.Given as goal

abbrev pub invariant-loop-i : goal.invariant-loop-i
invariant-loop-i l = Over l.nodes l.end (λ i. SoFar l.nodes l.first l.end l.initial.ws i l.ws) l.i-iterator
