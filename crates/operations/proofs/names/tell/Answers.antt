use Rattle.std.proofs.Common.{rules}
use Rattle.operations.proofs.names.tell.Goals as goal

pub returns : goal.returns
returns c = c.send.ensures _ (record { sent = λ p q at next on h. search rules })
