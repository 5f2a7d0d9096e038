use Rattle.std.proofs.Common.{◌≡◌, ◌≤◌, length}
use Rattle.files_cases.proofs.cases.unpack.Given as goal

abbrev pub invariant-loop : goal.invariant-loop
invariant-loop l = (l.done ≤ length l.file) × (length l.file ≡ 65536)
