use native.Mathlib.Omega.{arith}
use mathlib.Core.Path.{ap}
use lib.ListN.{length}
use Rattle.files.proofs.Accepted.{call}
use Rattle.files.proofs.checked.Call.body.Goals as goal

pub invariant_of-result : goal.invariant_of-result
invariant_of-result c = record { long = omega (arith, (call _ c.args.self.accepted).room, ap length c.body.ensures) }
