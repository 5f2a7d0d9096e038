use Rattle.std.proofs.Common.{refl, arith, rules}
use Rattle.files.specs.declared.kinds.Kind.TheVariants.{Constant}
use Rattle.files.proofs.KindLaws.{found}
use Rattle.operations.proofs.Naming.{constant_at_hand}
use Rattle.operations.proofs.names.at_hand.Goals as goal

pub returns-in-Constant : goal.returns-in-Constant
returns-in-Constant c = constant_at_hand refl (found Constant (omega arith) c.in-Constant.ensures) (search rules)
