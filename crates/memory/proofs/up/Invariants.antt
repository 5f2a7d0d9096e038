use Rattle.memory.specs.Entries.{entry_size}
use Rattle.memory.proofs.MoveLaws.{raised}
use Rattle.std.proofs.Common.{◌≡◌, ◌*◌, length}
use Rattle.memory.proofs.up.Given as goal

abbrev pub invariant-loop-k : goal.invariant-loop-k
invariant-loop-k g l = (l.part ≡ raised l.initial.part (g.row.PLACES * entry_size) l.k l.n) × (length l.part ≡ length l.initial.part)
