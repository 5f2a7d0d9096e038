-- The types that names are declared with and that the routine's type table spells, each as a code of one byte: 0 for none, else the width in bits, and
-- 1 for a sign, 2 for _Bool. Assumes nothing.
use Rattle.std.specs.Prelude.{◌≡◌, List, ℕ, zero, suc, ◌+◌, ◌*◌, ◌/◌, ◌%◌, ◌<◌, ◌≤◌, Option, None, Some}
use Rattle.layout.specs.Number.{number_at}
use Rattle.layout.specs.Format.{flag_of, bool_of}
use Rattle.value.specs.declared.Ty.{Ty}
use Rattle.workspace.specs.Parts.{declared_part, types_part}

-- "Types, at most 512"
abbrev pub type_limit : ℕ
type_limit = 512

unfoldable pub code_of : Ty → ℕ
code_of t = t.bits + flag_of t.boolean * 2 + flag_of t.signed

unfoldable pub type_of_code : ℕ → Ty
type_of_code c = record { bits = c / 8 * 8; signed = bool_of (c % 2); boolean = bool_of (c / 2 % 2) }

unfoldable pub code_if : Option Ty → ℕ
code_if None = 0
code_if (Some t) = code_of t

unfoldable pub type_if_code : ℕ → Option Ty
type_if_code zero = None
type_if_code (suc c) = Some (type_of_code (suc c))

-- a type that has a code: whole bytes, at most 64 bits
pub record Coded (t : Ty) : Type 0 where
  pub whole : t.bits % 8 ≡ 0
  pub some : 0 < t.bits
  pub most : t.bits ≤ 64

abbrev pub CodedIf : Option Ty → Type 0
CodedIf None = Unit
CodedIf (Some t) = Coded t

-- in the tables t of a workspace: the type that the name x is declared with, the type i, and what it points at, if it is a pointer
unfoldable pub declared_at : List ℕ → ℕ → Option Ty
declared_at t x = type_if_code (number_at (declared_part t) x 1)

unfoldable pub type_at : List ℕ → ℕ → Ty
type_at t i = type_of_code (number_at (types_part t) (i * 2) 1)

unfoldable pub pointee_at : List ℕ → ℕ → Option Ty
pointee_at t i = type_if_code (number_at (types_part t) (i * 2 + 1) 1)
