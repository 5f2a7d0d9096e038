use Rattle.workspace.proofs.CopyLaws.{copy_start, copy_more}
use borrow.Author.Rules.{rules}
use Rattle.workspace.proofs.variables.copy_variables.Goals as goal

pub loop-x-init : goal.loop-x-init
loop-x-init c = search (rules, copy_start)

pub loop-x-preserved : goal.loop-x-preserved
loop-x-preserved c = search (rules, copy_more)
