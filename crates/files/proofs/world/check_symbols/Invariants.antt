use mathlib.Core.Path.{◌≡◌}
use mathlib.Core.Bool.{true}
use Rattle.files.specs.Items.{every}
use Rattle.files.specs.WorldFile.{symbol_ok, least_name}
use Rattle.files.proofs.world.check_symbols.Given as goal

abbrev pub invariant-loop-k : goal.invariant-loop-k
invariant-loop-k l = (l.least ≡ least_name l.b l.k) × (every l.k (symbol_ok l.b l.names) ≡ true)
