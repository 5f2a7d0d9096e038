use Rattle.std.proofs.Common.{refl}
use Rattle.files.proofs.KindLaws.{of_kind, no_such}
use Rattle.operations.proofs.Targeting.{targets_other, targets_under, targets_cast}
use Rattle.operations.proofs.places.target_of.Goals as goal

pub returns-in-Some : goal.returns-in-Some
returns-in-Some c = targets_under _ _ _ _ _ refl (of_kind c.is.ensures c.if-is.true) _ c.reference.ensures.0 _ c.pointee.ensures _ c.in-Some.is refl refl

pub returns-in_default : goal.returns-in_default
returns-in_default c = targets_cast _ _ _ _ _ refl (of_kind c.is.ensures c.if-is.true) _ c.reference.ensures.0 _ c.pointee.ensures c.in_default.is refl refl

pub returns-else-is : goal.returns-else-is
returns-else-is c = targets_other _ _ _ _ _ refl (no_such c.is.ensures c.if-is.false) refl refl
