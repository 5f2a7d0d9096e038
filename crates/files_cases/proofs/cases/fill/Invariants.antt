use Rattle.std.proofs.Common.{◌≤◌, ◌-◌, length}
use Rattle.files_cases.proofs.cases.fill.Given as goal

abbrev pub invariant-loop-done : goal.invariant-loop-done
invariant-loop-done l = l.done ≤ length l.part

abbrev pub decreases-loop-done : goal.decreases-loop-done
decreases-loop-done l = length l.part - l.done
