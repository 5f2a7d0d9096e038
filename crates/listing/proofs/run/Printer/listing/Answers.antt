use Rattle.std.proofs.Common.{rules}
use Rattle.listing.proofs.Ready.{routine_good, names_ready, head_ready, record_ready}
use Rattle.listing.proofs.run.Printer.listing.Goals as goal

pub invariant_of-routine : goal.invariant_of-routine
invariant_of-routine g c = record { accepted = routine_good c.requires }

pub fill_texts-requires : goal.fill_texts-requires
fill_texts-requires g c = (names_ready c.requires c.names-body.ensures, search rules)

pub invariant_of-head : goal.invariant_of-head
invariant_of-head g c = let ready = head_ready c.requires c.names-body.ensures c.head.ensures in record { inside = ready.0; named = ready.1 }

pub lines-requires : goal.lines-requires
lines-requires g c = record_ready c.requires c.names-body.ensures
