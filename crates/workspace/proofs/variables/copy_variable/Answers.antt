use Rattle.workspace.proofs.CopyLaws.{put_room, puts_set, puts_unset}
use borrow.Author.Rules.{rules}
use Rattle.workspace.proofs.variables.copy_variable.Goals as goal

pub put_variable-requires : goal.put_variable-requires
put_variable-requires c = search (rules, put_room)

pub returns-in-Some : goal.returns-in-Some
returns-in-Some c = search (rules, puts_set)

pub returns-in-None : goal.returns-in-None
returns-in-None c = search (rules, puts_unset)
