-- `put_unspelled` meets its contract. The loop's invariant: the types up to i are put. Assumes nothing.
use Rattle.setup.specs.Post.{Unspelled}
use Rattle.setup.proofs.texts.put_unspelled.Given as goal

abbrev pub invariant-loop-i : goal.invariant-loop-i
invariant-loop-i l = Unspelled l.from l.i l.initial.ws l.ws
