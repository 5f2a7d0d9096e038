use mathlib.Core.Path.{◌≡◌}
use lib.ListN.{drop}
use Rattle.files.specs.Names.{before}
use Rattle.files.proofs.names.precedes.Given as goal

abbrev pub invariant-loop-i : goal.invariant-loop-i
invariant-loop-i l = before l.s l.t ≡ before (drop l.i l.s) (drop l.i l.t)
