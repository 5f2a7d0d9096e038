use Rattle.files.proofs.Accepted.{body_short}
use Rattle.files.proofs.check_routine.Goals as goal

pub check_bodies-requires : goal.check_bodies-requires
check_bodies-requires c = rw c.body-nodes.ensures (body_short _ 3)
