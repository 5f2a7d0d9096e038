-- The bodies of a record that are written at once, and the pairs in front of all, from what the code is given. Assumes nothing.
use Rattle.std.specs.Prelude.{List, [], ◌∷◌, ◌++◌, ℕ, zero, suc, ◌+◌, ◌*◌, Option, None, Some}
use Rattle.layout.specs.Number.{le}
use Rattle.definition.specs.Act.{Why, branch_unknown, switch_unknown, no_case, struct_to, unknown_address, unknown_value, no_width, store_to, by_zero}
use Rattle.definition.specs.Statements.{Stop}
use Rattle.definition.specs.Statements as stop
use Rattle.definition.specs.Fields.{no_val}
use Rattle.definition.specs.Record.{StopFields, stop_format, stop_with, unknown_fields, stop_fields}
use Rattle.stream.specs.declared.Kind.{Kind}
use Rattle.stream.specs.declared.Kind.TheVariants.{Returned, ReturnedNothing, Steps, Unknown, NoBlock, NoBlocks, NoReturn, Halted}
use Rattle.stream.specs.declared.Reason.{Reason}
use Rattle.stream.specs.declared.Reason.TheVariants.{BranchUnknown, SwitchUnknown, NoCase, StructTo, UnknownAddress, UnknownValue, NoWidth, StoreTo, ByZero}
use Rattle.stream.specs.declared.StopPiece.{StopPiece}
use Rattle.stream.specs.declared.StopNumbers.{StopNumbers}
use Rattle.stream.specs.declared.Lengths.{Lengths}

-- ---- why an evaluation ended short

-- the definition's reason, with what it names
abbrev pub why_of : Reason → ℕ → Why
why_of BranchUnknown n = branch_unknown n
why_of SwitchUnknown n = switch_unknown n
why_of NoCase n = no_case n
why_of StructTo n = struct_to n
why_of UnknownAddress n = unknown_address n
why_of UnknownValue n = unknown_value n
why_of NoWidth n = no_width n
why_of StoreTo n = store_to n
why_of ByZero n = by_zero

-- its number in the record
abbrev pub reason_number : Reason → ℕ
reason_number r = (unknown_fields None (why_of r 0)).1.0

-- the reason of a number
abbrev pub reason_at : ℕ → Option Reason
reason_at zero = None
reason_at (suc zero) = Some BranchUnknown
reason_at (suc (suc zero)) = Some SwitchUnknown
reason_at (suc (suc (suc zero))) = Some NoCase
reason_at (suc (suc (suc (suc zero)))) = Some StructTo
reason_at (suc (suc (suc (suc (suc zero))))) = Some UnknownAddress
reason_at (suc (suc (suc (suc (suc (suc zero)))))) = Some UnknownValue
reason_at (suc (suc (suc (suc (suc (suc (suc zero))))))) = Some NoWidth
reason_at (suc (suc (suc (suc (suc (suc (suc (suc zero)))))))) = Some StoreTo
reason_at (suc (suc (suc (suc (suc (suc (suc (suc (suc zero))))))))) = Some ByZero
reason_at (suc (suc (suc (suc (suc (suc (suc (suc (suc (suc n)))))))))) = None

-- and 0 for none
abbrev pub reason_field : Option Reason → ℕ
reason_field None = 0
reason_field (Some r) = reason_number r

-- ---- Stop

-- a stop of the definition that is of a kind, and the kind's number in the record
abbrev pub kind_stop : Kind → Stop
kind_stop Returned = stop.Returned (Some no_val)
kind_stop ReturnedNothing = stop.Returned None
kind_stop Steps = stop.Steps 0
kind_stop Unknown = stop.Unknown None by_zero
kind_stop NoBlock = stop.NoBlock 0
kind_stop NoBlocks = stop.NoBlocks
kind_stop NoReturn = stop.NoReturn None
kind_stop Halted = stop.Halted None 0

abbrev pub kind_number : Kind → ℕ
kind_number k = (stop_fields (kind_stop k)).0

-- the kind of a number
abbrev pub kind_at : ℕ → Option Kind
kind_at zero = Some Returned
kind_at (suc zero) = Some ReturnedNothing
kind_at (suc (suc zero)) = Some Steps
kind_at (suc (suc (suc zero))) = Some Unknown
kind_at (suc (suc (suc (suc zero)))) = Some NoBlock
kind_at (suc (suc (suc (suc (suc zero))))) = Some NoBlocks
kind_at (suc (suc (suc (suc (suc (suc zero)))))) = Some NoReturn
kind_at (suc (suc (suc (suc (suc (suc (suc zero))))))) = Some Halted
kind_at (suc (suc (suc (suc (suc (suc (suc (suc n)))))))) = None

unfoldable pub stop_bytes : StopFields → List ℕ
stop_bytes f = stop_format.write f

unfoldable pub stop_from : StopPiece → StopFields
stop_from s = stop_with (kind_number s.kind) (reason_field s.reason) s.address s.number s.node s.name s.value

-- the same of a stop by its numbers, whatever they are
unfoldable pub stop_with_numbers : StopNumbers → StopFields
stop_with_numbers s = stop_with s.kind s.reason s.address s.number s.node s.name s.value

-- ---- where the bodies of fixed length lie: behind six pairs of 8 bytes, and the steps behind them

abbrev pub stop_size : ℕ
stop_size = 39

abbrev pub counts_size : ℕ
counts_size = 12

abbrev pub stop_place : ℕ
stop_place = 6 * 8

abbrev pub counts_place : ℕ
counts_place = stop_place + stop_size

abbrev pub steps_place : ℕ
steps_place = counts_place + counts_size

-- ---- the pairs: "offset u32 from the record's first byte, length u32"

-- of bodies of these lengths, of which the first starts at o
unfoldable pub pairs_of : ℕ → List ℕ → List ℕ
pairs_of o [] = []
pairs_of o (n ∷ ns) = le 4 o ++ (le 4 n ++ pairs_of (o + n) ns)

-- all six
abbrev pub lengths_of : Lengths → List ℕ
lengths_of l = stop_size ∷ counts_size ∷ l.steps ∷ l.variables ∷ l.memory ∷ l.questions ∷ []

-- where the last starts, and where it ends, which is the record's length
abbrev pub questions_start : Lengths → ℕ
questions_start l = steps_place + l.steps + l.variables + l.memory

abbrev pub last_end : Lengths → ℕ
last_end l = steps_place + l.steps + l.variables + l.memory + l.questions
