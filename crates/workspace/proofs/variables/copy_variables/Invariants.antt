use Rattle.workspace.proofs.CopyLaws.{Copying}
use Rattle.workspace.specs.Parts.{frame_part}
use Rattle.workspace.proofs.variables.copy_variables.Given as goal

abbrev pub invariant-loop-x : goal.invariant-loop-x
invariant-loop-x l = Copying (frame_part l.ws) l.initial.out l.out l.at l.x
