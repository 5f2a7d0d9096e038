-- What is known of files that are accepted: no number refuses them. Assumes nothing.
use mathlib.Core.Path.{◌≡◌}
use Rattle.files.specs.Refusal.{refusal}
use Rattle.files.proofs.Accepted.{unrefused}
use Rattle.passes.specs.declared.accepted.Accepted.{Accepted}

pub all_fine : (f : Accepted) → refusal f.routine.bytes.now f.world.bytes.now f.call.bytes.now ≡ 0
all_fine f = unrefused _ _ _ f.routine.accepted f.world.accepted f.call.accepted
