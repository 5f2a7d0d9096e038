-- (Named on the function, by `using`, its law is not found.)
use Rattle.workspace.proofs.TableLaws.{puts_type}
use borrow.Author.Rules.{rules}
use Rattle.workspace.proofs.types.put_type.Goals as goal

pub returns : goal.returns
returns c = search (rules, puts_type)
