-- Which field of a stop holds what a reason names. Assumes nothing.
use Rattle.std.specs.Prelude.{ℕ, Option, None, Some}
use Rattle.value.specs.declared.Val.{Val}
use Rattle.definition.specs.Fields.{no_val}
use Rattle.stream.specs.declared.Kind.{Kind}
use Rattle.stream.specs.declared.Kind.TheVariants.{Unknown}
use Rattle.stream.specs.declared.Reason.{Reason}
use Rattle.stream.specs.declared.Reason.TheVariants.{BranchUnknown, SwitchUnknown, NoCase, StructTo, UnknownAddress, UnknownValue, NoWidth, StoreTo, ByZero}
use Rattle.stream.specs.declared.StopPiece.{StopPiece}
use Rattle.hosting.specs.declared.Short.{Short}
use Rattle.hosting.specs.declared.Short.TheVariants.{Full, Why}

-- a stop that has no reason
abbrev pub stopping : Kind → (address : Option ℕ) → (number : ℕ) → Val → StopPiece
stopping kind address number value = record { kind = kind; reason = None; address = address; number = number; node = 0; name = 0; value = value }

-- the number, the node and the name: a value that has no case or an address stored to, a node, or a symbol without width
abbrev pub named : Reason → ℕ → ℕ × (ℕ × ℕ)
named BranchUnknown n = (0, (n, 0))
named SwitchUnknown n = (0, (n, 0))
named NoCase n = (n, (0, 0))
named StructTo n = (0, (n, 0))
named UnknownAddress n = (0, (n, 0))
named UnknownValue n = (n, (0, 0))
named NoWidth n = (0, (0, n))
named StoreTo n = (0, (n, 0))
named ByZero n = (0, (0, 0))

-- why an evaluation ended short; for want of room there is no reason
abbrev pub unknown_piece : Option ℕ → Short → StopPiece
unknown_piece at Full = stopping Unknown at 0 no_val
unknown_piece at (Why r n) = record { kind = Unknown; reason = Some r; address = at; number = (named r n).0; node = (named r n).1.0; name = (named r n).1.1; value = no_val }
