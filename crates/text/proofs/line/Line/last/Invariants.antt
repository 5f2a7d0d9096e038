use lib.ListN.{length}
use Prim.Native.Nat.{◌+◌, ◌≤◌}
use Rattle.text.specs.Put.{last_digits}
use Rattle.text.proofs.DigitLaws.{Filled}
use Rattle.text.proofs.line.Line.last.Given as goal

-- with the digits of what is left stored in front of those that are, the buffer is as it is to be
abbrev pub invariant-loop-k : goal.invariant-loop-k
invariant-loop-k l = Filled l.initial.self (last_digits l.count l.base.of l.number) l.self (last_digits l.k l.base.of l.rest) × (l.self.at + l.count ≤ length l.self.out.now)
