-- (Named on the function, by `using`, the law is not found beside the others: the search stops at its limits.)
use Rattle.passes.proofs.Streams.{questions_passed}
use Rattle.passes.proofs.put_questions.Goals as goal

pub returns : goal.returns
returns c = questions_passed _ _ _ _ _ _ _ _ _ c.requires.holds.0 c.requires.after_steps.1 c.pass-r.ensures
