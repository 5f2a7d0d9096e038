use Rattle.memory.specs.Entries.{entry_size}
use Rattle.memory.proofs.MoveLaws.{lowered}
use Rattle.std.proofs.Common.{◌≡◌, ◌*◌, length}
use Rattle.memory.proofs.down.Given as goal

abbrev pub invariant-loop-k : goal.invariant-loop-k
invariant-loop-k g l = (l.part ≡ lowered l.initial.part (g.row.PLACES * entry_size) l.k) × (length l.part ≡ length l.initial.part)
