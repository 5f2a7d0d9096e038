use Rattle.machine.proofs.UnitLaws.{statement_small, unit_stops, unit_settles}
use borrow.Author.Rules.{rules}
use Rattle.machine.proofs.walk.unit.Goals as goal

pub ahead-requires : goal.ahead-requires
ahead-requires c = λ k e. statement_small (c.requires.placing.1 k e)

pub returns-in-Some : goal.returns-in-Some
returns-in-Some c = search (rules, unit_stops)

pub returns-in-None : goal.returns-in-None
returns-in-None c = search (rules, unit_settles)
