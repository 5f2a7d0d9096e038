-- How the code's results read: with what an evaluation ended, or why it ended short. Assumes nothing.
use Rattle.std.specs.Prelude.{[], Option, None, Some, Result, Ok, Err}
use Rattle.value.specs.declared.Val.{Val}
use Rattle.value.specs.declared.ArithmeticError.{ArithmeticError}
use Rattle.value.specs.declared.ArithmeticError.TheVariants.{DivisionByZero}
use Rattle.definition.specs.Act as act
use Rattle.definition.specs.Act.{by_zero}
use Rattle.definition.specs.Evaluate as ev
use Rattle.stream.specs.Bodies.{why_of}
use Rattle.stream.specs.Pieces.{note_of}
use Rattle.hosting.specs.declared.Short.{Short}
use Rattle.hosting.specs.declared.Short.TheVariants.{Full, Why}
use Rattle.hosting.specs.declared.Did.{Did}

-- with a value, or short; the reason is none where the run has written over 4,096 addresses
pub data Ending (A : Type 0) : Type 0 where
  ended : A → Ending A
  short : Option act.Why → Ending A

abbrev pub short_of : Short → Option act.Why
short_of Full = None
short_of (Why r n) = Some (why_of r n)

-- ---- results

abbrev pub end_of : {A : Type 0} → Result A Short → Ending A
end_of (Ok v) = ended v
end_of (Err s) = short (short_of s)

-- ---- what executing tells; the names that a call took are told by the note that the workspace has

abbrev pub did_of : Did → ev.Did
did_of d = record { wrote = d.wrote; note = note_of d.note [] }

abbrev pub done_of : Result Did Short → Ending ev.Did
done_of (Ok d) = ended (did_of d)
done_of (Err s) = short (short_of s)

-- ---- an ending made of another

-- of what an operator answers
abbrev pub answer_end : Result Val ArithmeticError → Ending Val
answer_end (Ok v) = ended v
answer_end (Err DivisionByZero) = short (Some by_zero)
