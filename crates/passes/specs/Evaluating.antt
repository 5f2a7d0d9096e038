-- What the evaluation of a constant expression comes to, told by the definition's. Assumes nothing.
use Rattle.std.specs.Prelude.{◌≡◌, ◌≤◌, ◌<◌, length, None, Some}
use Rattle.value.specs.declared.Val.{Val}
use Rattle.definition.specs.Act.{gave, stopped}
use Rattle.definition.specs.State.{Out}
use Rattle.definition.specs.Run.{address_limit}
use Rattle.hosting.specs.Ending.{Ending, ended, short}

-- how it ended, with few enough addresses written; or too many were
abbrev pub EvaluatedIf : Out Val → Ending Val → Type 0
EvaluatedIf o (ended v) = (o.end ≡ gave v) × (length o.after.memory ≤ address_limit)
EvaluatedIf o (short (Some y)) = (o.end ≡ stopped y) × (length o.after.memory ≤ address_limit)
EvaluatedIf o (short None) = address_limit < length o.after.memory

pub record Evaluates (o : Out Val) (e : Ending Val) : Type 0 where
  pub comes : EvaluatedIf o e
