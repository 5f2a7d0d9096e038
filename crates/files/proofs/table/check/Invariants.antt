use mathlib.Core.Path.{◌≡◌}
use mathlib.Core.Bool.{true}
use Rattle.files.specs.Items.{every}
use Rattle.files.specs.FileTable.{start_of, body_ok}
use Rattle.files.proofs.table.check.Given as goal

abbrev pub invariant-loop-k : goal.invariant-loop-k
invariant-loop-k l = (l.end ≡ start_of l.n l.f l.k) × (every l.k (body_ok l.n l.f) ≡ true)
