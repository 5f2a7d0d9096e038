use Rattle.memory.specs.Entries.{overwritten}
use Rattle.std.proofs.Common.{◌≡◌, ◌+◌, length, drop}
use Rattle.memory.proofs.overwrite.Given as goal

abbrev pub invariant-loop-k : goal.invariant-loop-k
invariant-loop-k l = (overwritten l.part (l.i + l.k) (drop l.k l.byte-items) ≡ overwritten l.initial.part l.i l.byte-items) × (length l.part ≡ length l.initial.part)
