-- `put_types` meets its contract. The loop's invariant: the first i types are put. Assumes nothing.
use Rattle.setup.proofs.SpellLaws.{Spelling}
use Rattle.setup.proofs.texts.put_types.Given as goal

abbrev pub invariant-loop-i : goal.invariant-loop-i
invariant-loop-i l = Spelling l.types l.initial.ws l.ws l.rest.rest.now l.i
