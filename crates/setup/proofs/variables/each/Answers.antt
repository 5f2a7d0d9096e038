-- `each` meets its contract. Assumes nothing.
use mathlib.Core.Path.{refl}
use Rattle.setup.specs.Each.{none}
use Rattle.setup.proofs.EachLaws.{visit_more}
use Rattle.setup.proofs.variables.each.Goals as goal

pub loop-k-init : goal.loop-k-init
loop-k-init g c = none refl

pub loop-k-preserved : goal.loop-k-preserved
loop-k-preserved g c = visit_more _ _ _ _ c.loop-k.invariant
    (record { number = refl; entry = c.variable_at-name.result; reads = c.variable_at-name.ensures; name = refl; type = c.type_of-ty.ensures })
    (record { shown = _; shows = refl; left = _; met = c.put.ensures; leaves = refl })
