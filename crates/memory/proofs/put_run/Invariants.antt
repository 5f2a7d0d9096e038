use Rattle.memory.specs.Overlay.{run_of}
use Rattle.memory.specs.Entries.{entry, entry_size}
use Rattle.layout.specs.Format.{writes}
use Rattle.std.proofs.Common.{◌≡◌, ◌+◌, ◌*◌, length, drop}
use lib.Seq.{sets}
use Rattle.memory.proofs.put_run.Given as goal

-- what is still to be written makes the part what it shall be
abbrev pub invariant-loop-k : goal.invariant-loop-k
invariant-loop-k l = (sets l.part ((l.i + l.k) * entry_size) (writes entry (run_of (l.run.address + l.k) (drop l.k l.byte-items))) ≡ sets l.initial.part (l.i * entry_size) (writes entry (run_of l.run.address l.byte-items)))
    × (length l.part ≡ length l.initial.part)
