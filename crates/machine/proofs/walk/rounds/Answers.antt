use Rattle.machine.proofs.WalkLaws.{begins, goes_on}
use borrow.Author.Rules.{rules}
use Rattle.machine.proofs.walk.rounds.Goals as goal

pub loop-spot-init : goal.loop-spot-init
loop-spot-init c = search (rules, begins)

pub loop-spot-preserved : goal.loop-spot-preserved
loop-spot-preserved c = let inv = c.loop-spot.invariant in (search rules, (search rules, goes_on inv.1.1 c.turn.ensures c.in-Continue.is))
