use Rattle.std.proofs.Common.{◌≡◌, ◌+◌, ◌-◌, length}
use Rattle.layout.specs.Number.{le}
use Rattle.memory.specs.Entries.{Sorted, entries}
use Rattle.memory.specs.Overlay.{stores}
use Rattle.memory.proofs.store_each.Given as goal

abbrev pub invariant-loop-i : goal.invariant-loop-i
invariant-loop-i l = Sorted l.part l.n
    × (stores (l.address + l.i) (le (l.bytes - l.i) l.left) (entries l.part l.n) ≡ stores l.address (le l.bytes l.number) (entries l.initial.part l.count))
    × (length l.part ≡ length l.initial.part)
