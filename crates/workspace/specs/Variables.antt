-- The frame: a slot of 16 bytes for each name. The first byte tells whether the variable is set, the next 14 are its value, the last is unused.
-- Assumes nothing.
use Rattle.std.specs.Prelude.{true, false, List, [], ◌∷◌, ℕ, zero, suc, ◌+◌, ◌*◌, Option, None, Some}
use Rattle.layout.specs.Number.{number_at}
use Rattle.layout.specs.Format.{bool_of}
use Rattle.value.specs.declared.Val.{Val}
use Rattle.memory.specs.Overlay.{Overlay}
use Rattle.value.specs.Encoding.{val_at}

abbrev pub slot_size : ℕ
slot_size = 16

-- "Names, at most 512"
abbrev pub name_limit : ℕ
name_limit = 512

-- the value of the variable x, if it is set
unfoldable pub slot_at : List ℕ → ℕ → Option Val
slot_at f x = elim (bool_of (number_at f (x * slot_size) 1)) [ true ↦ Some (val_at f (x * slot_size + 1)) | false ↦ None ]

-- one entry, or none
abbrev pub entry_if : {A : Type 0} → ℕ → Option A → Overlay A → Overlay A
entry_if x None m = m
entry_if x (Some a) m = (x, a) ∷ m

-- the entries of those of n names from x on that have something
unfoldable pub those : {A : Type 0} → (ℕ → Option A) → ℕ → ℕ → Overlay A
those slot x zero = []
those slot x (suc n) = entry_if x (slot x) (those slot (suc x) n)

-- the variables that are set, by name
unfoldable pub variables_in : List ℕ → Overlay Val
variables_in f = those (slot_at f) 0 name_limit

-- the variable x alone, if it is set
abbrev pub variable_at : List ℕ → ℕ → Overlay Val
variable_at f x = entry_if x (slot_at f x) []

-- "Variables, by name: u16, value": this body of a record
abbrev pub variable_size : ℕ
variable_size = 16
