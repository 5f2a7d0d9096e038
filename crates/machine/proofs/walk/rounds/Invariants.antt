use Rattle.machine.proofs.WalkLaws.{Left}
use Rattle.operations.specs.Registers.{counts_in}
use lib.ListN.{length}
use mathlib.Core.Path.{◌≡◌}
use Rattle.machine.proofs.walk.rounds.Given as goal

abbrev pub invariant-loop-spot : goal.invariant-loop-spot
invariant-loop-spot l = (length l.ws ≡ length l.initial.ws) × ((length l.out ≡ length l.initial.out) × Left l.bodies.reads.nodes.now l.bodies.reads.symbols.now l.bodies.reads.regions.now l.bodies.statements.now l.bodies.blocks.now l.facts l.initial.ws l.initial.out l.spot l.ws l.out)

abbrev pub decreases-loop-spot : goal.decreases-loop-spot
decreases-loop-spot l = (counts_in l.ws).tally.left
