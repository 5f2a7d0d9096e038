-- The head (document 01, "The files"): name u16, address u64, return type u16, parameters u8, then (name u16, type u16) for each variable. Assumes nothing.
use Rattle.std.specs.Prelude.{Bool, ◌&&◌, List, ℕ, ◌+◌, ◌-◌, ◌*◌, ◌/◌, ◌%◌, length, get_or, leb, ltb, eqb}
use Rattle.layout.specs.Number.{number_at}
use Rattle.files.specs.Items.{every}

-- a name or type "is below its table's count"
unfoldable pub variable_ok : List ℕ → ℕ → ℕ → ℕ → Bool
variable_ok b names types k = ltb (number_at b (k * 4 + 13) 2) names && ltb (number_at b (k * 4 + 15) 2) types

-- what stands before the variables: its name and return type are "below [their] table's count", "parameters u8 (at most 16)", and of the variables that
-- follow, whole ones only, there are as many
unfoldable pub fixed_ok : List ℕ → ℕ → ℕ → Bool
fixed_ok b names types =
    eqb ((length b - 13) % 4) 0 && ltb (number_at b 0 2) names && ltb (number_at b 10 2) types && leb (get_or b 12 0) 16 && leb (get_or b 12 0) ((length b - 13) / 4)

-- 4: 13 bytes, then the variables
unfoldable pub head_ok : List ℕ → ℕ → ℕ → Bool
head_ok b names types = leb 13 (length b) && fixed_ok b names types && every ((length b - 13) / 4) (variable_ok b names types)
