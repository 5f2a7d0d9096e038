use Rattle.memory.specs.Overlay.{rank, load}
use Rattle.memory.proofs.LoadLaws.{plus}
use Rattle.layout.specs.Number.{le}
use Rattle.std.proofs.Common.{◌≡◌, ◌+◌, ◌-◌, ◌%◌, ◌^◌, ◌<◌}
use Rattle.memory.proofs.row.Row.load_each.Given as goal

-- the bytes so far are the number's lowest, and what is still to load makes it the whole
abbrev pub invariant-loop-i : goal.invariant-loop-i
invariant-loop-i l = (l.place ≡ rank l.here l.self)
    × (l.here ≡ (l.address + l.i) % 2 ^ 64)
    × (l.number < 256 ^ l.i)
    × (plus l.number (256 ^ l.i) (load l.self (le l.left.count l.left.number) (l.address + l.i) (l.bytes - l.i)) ≡ load l.self (le l.initial.left.count l.initial.left.number) l.address l.bytes)
