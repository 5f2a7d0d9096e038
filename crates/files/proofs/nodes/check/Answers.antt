use mathlib.Core.Path.{◌∙◌}
use Rattle.files.proofs.FaultLaws.{none_wrong, first_wrong, wrong_inside, wrong_refused}
use Rattle.files.proofs.nodes.check.Goals as goal

pub returns-in-None : goal.returns-in-None
returns-in-None c = none_wrong _ _ _ c.in-None.ensures

pub fault-requires-clause-inside : goal.fault-requires-clause-inside
fault-requires-clause-inside c = wrong_inside _ _ _ c.in-Some.n c.in-Some.ensures

pub fault-requires-clause-refused : goal.fault-requires-clause-refused
fault-requires-clause-refused c = wrong_refused _ _ _ c.in-Some.n c.in-Some.ensures

pub returns-in-Some : goal.returns-in-Some
returns-in-Some c = c.fault.ensures ∙ first_wrong _ _ _ c.in-Some.n c.in-Some.ensures
