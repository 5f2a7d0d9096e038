-- The loop's invariant: the calls at the first k variables made what the workspace is. Assumes nothing.
use Rattle.setup.specs.Each.{Visited}
use Rattle.setup.proofs.variables.each.Given as goal

abbrev pub invariant-loop-k : goal.invariant-loop-k
invariant-loop-k g l = Visited g.F.Fn l.fn.put l.head.bytes.now l.initial.ws l.k l.ws
