-- The pending note, which a call that is not followed leaves: a flag, then the names taken as a step of a record has them, "count u16 of taken names,
-- each u16". Assumes nothing.
use Rattle.std.specs.Prelude.{Bool, true, false, List, [], ◌∷◌, ◌++◌, ℕ, ◌≤◌, ◌<◌, length, drop, Option, None, Some}
use Rattle.layout.specs.Number.{number_at}
use Rattle.layout.specs.Format.{Format, number, counted, bool_of}

-- a call has "up to 16 arguments"
abbrev pub taken_limit : ℕ
taken_limit = 16

abbrev pub names : Format (List ℕ)
names = counted 2 (number 2)

unfoldable pub names_bytes : List ℕ → List ℕ
names_bytes xs = names.write xs

-- the note of its part
unfoldable pub pending_in : List ℕ → Option (List ℕ)
pending_in p = elim (bool_of (number_at p 0 1)) [ true ↦ Some (names.read (drop 1 p)).0 | false ↦ None ]

-- whether there is a note, and the names that it has
abbrev pub noted : Option (List ℕ) → Bool
noted None = false
noted (Some xs) = true

abbrev pub taken : Option (List ℕ) → List ℕ
taken None = []
taken (Some xs) = xs

-- one name more, at the end
abbrev pub with_name : ℕ → Option (List ℕ) → Option (List ℕ)
with_name x None = None
with_name x (Some xs) = Some (xs ++ (x ∷ []))

-- no more names than there is room for
abbrev pub Few : Option (List ℕ) → Type 0
Few p = length (taken p) ≤ taken_limit

-- a note to which a name can be added
abbrev pub Open : Option (List ℕ) → Type 0
Open None = ⊥
Open (Some xs) = length xs < taken_limit
