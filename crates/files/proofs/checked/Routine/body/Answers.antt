-- (Named on the function, by `using`, the law is not found: in the goal its `k` stands in sums alone.)
use Rattle.files.proofs.Accepted.{routine_body}
use borrow.Author.Rules.{rules}
use Rattle.files.proofs.checked.Routine.body.Goals as goal

pub body-requires : goal.body-requires
body-requires c = search (rules, routine_body)
