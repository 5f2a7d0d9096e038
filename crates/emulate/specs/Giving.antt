-- What `constant_value` gives, from what the evaluation came to. Assumes nothing.
use Rattle.std.specs.Prelude.{List, ℕ, Option, None, Result, Ok, Err}
use Rattle.std.specs.Bool.{then_some}
use Rattle.value.specs.declared.Val.{Val}
use Rattle.files.specs.declared.refusal.Refusal.{Refusal}
use Rattle.files.specs.declared.refusal.Refusal.TheVariants.{Addresses}
use Rattle.files.specs.Refusal.{fault_of, refused}
use Rattle.definition.specs.Answered.{val_or, told, ConstantAnswered}
use Rattle.hosting.specs.declared.Short.{Short}
use Rattle.hosting.specs.declared.Short.TheVariants.{Full, Why}

-- the value, if it is known, or what refuses the call
abbrev pub answer_of : Result Val Short → Result (Option Val) Refusal
answer_of (Ok v) = Ok (then_some v.known v)
answer_of (Err Full) = Err Addresses
answer_of (Err (Why r n)) = Ok None

-- the fields of a value, all 0 where there is none; where the call is refused, the node that the refusal tells
abbrev pub value_in : Result (Option Val) Refusal → Val
value_in (Ok v) = val_or v
value_in (Err r) = told (fault_of r).node

-- `constant_value` with that as its answer
abbrev pub ConstantGiven : List ℕ → ℕ → List ℕ → Result (Option Val) Refusal → List ℕ → Type 0
ConstantGiven routine node workspace r workspace' = let v = value_in r in ConstantAnswered routine node workspace (refused r).number v.known v.signed v.bits v.number workspace'
