use Rattle.std.proofs.Common.{rules}
use Rattle.hosting.proofs.Shapes.{room, call_callee}
use Rattle.operations.proofs.calls.called.Goals as goal

pub next-first-requires : goal.next-first-requires
next-first-requires c = search (rules, room, call_callee)
