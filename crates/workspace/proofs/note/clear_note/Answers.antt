-- (Named on the function, by `using`, its law is not found.)
use Rattle.workspace.proofs.NoteLaws.{note_cleared}
use borrow.Author.Rules.{rules}
use Rattle.workspace.proofs.note.clear_note.Goals as goal

pub returns : goal.returns
returns c = search (rules, note_cleared)
