use Rattle.workspace.proofs.ViewLaws.{variable_set}
use borrow.Author.Rules.{rules}
use Rattle.workspace.proofs.variables.set_variable.Goals as goal

pub returns : goal.returns
returns c = search (rules, variable_set)
