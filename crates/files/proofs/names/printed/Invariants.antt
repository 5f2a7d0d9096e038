use mathlib.Core.Path.{◌≡◌}
use mathlib.Core.Bool.{◌&&◌}
use lib.ListN.{drop}
use Rattle.files.specs.Names.{printable}
use Rattle.files.proofs.names.printed.Given as goal

abbrev pub invariant-loop-i : goal.invariant-loop-i
invariant-loop-i l = printable l.lo l.hi l.s ≡ (l.ok && printable l.lo l.hi (drop l.i l.s))
