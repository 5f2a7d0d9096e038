use mathlib.Core.Path.{◌∙◌}
use Rattle.listing.proofs.Turns.{variable_turn}
use Rattle.listing.proofs.run.Printer.variables.Goals as goal

pub invariant_of-variable : goal.invariant_of-variable
invariant_of-variable g c = let cut = c.in-Some.ensures.steps in record { there = (variable_turn c.loop-bytes.invariant.0 cut.1.0 (cut.1.1 ∙ c.loop-bytes.invariant.1)).0 }

pub loop-bytes-preserved : goal.loop-bytes-preserved
loop-bytes-preserved g c = let cut = c.in-Some.ensures.steps in
    ((variable_turn c.loop-bytes.invariant.0 cut.1.0 (cut.1.1 ∙ c.loop-bytes.invariant.1)).1, cut.0 ∙ c.loop-bytes.invariant.1)
