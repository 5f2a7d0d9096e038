use Rattle.std.proofs.Common.{rules, refl}
use Rattle.files.proofs.KindLaws.{of_kind, no_such}
use Rattle.operations.proofs.Naming.{other_address, known_address}
use Rattle.operations.proofs.names.address.Goals as goal

pub returns-then-not-is : goal.returns-then-not-is
returns-then-not-is c = other_address _ _ _ _ refl (no_such c.is.ensures c.if-not-is.true) (search rules)

pub returns-in-Some : goal.returns-in-Some
returns-in-Some c = known_address _ _ _ _ refl (of_kind c.is.ensures c.if-not-is.false) c.ask.ensures _ c.in-Some.is c.known.ensures c.is-in-Some.ensures
