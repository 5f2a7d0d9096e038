use Rattle.memory.proofs.LoadLaws.{one_or_none}
use native.Mathlib.Omega.{arith}
use Rattle.workspace.proofs.types.code.Goals as goal

pub overflow_add-result : goal.overflow_add-result
overflow_add-result c = omega (arith, one_or_none c.args.ty.signed, one_or_none c.args.ty.boolean, c.requires.most)
