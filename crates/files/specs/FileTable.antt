-- The table that each file starts with (document 01, "The files"). Assumes nothing.
use Rattle.std.specs.Prelude.{Bool, ◌&&◌, List, ℕ, zero, suc, ◌+◌, ◌*◌, ◌≤◌, length, leb, eqb}
use Rattle.layout.specs.Number.{number_at}
use Rattle.files.specs.Bytes.{part}
use Rattle.files.specs.Items.{every}

-- "(offset u16 from the file's first byte, length u16) per body", after "a body count u16"
abbrev pub offset_of : List ℕ → ℕ → ℕ
offset_of f k = number_at f (k * 4 + 2) 2

abbrev pub length_of : List ℕ → ℕ → ℕ
length_of f k = number_at f (k * 4 + 4) 2

-- body k: so many bytes from its offset on
unfoldable pub body : List ℕ → ℕ → List ℕ
body f k = part (offset_of f k) (offset_of f k + length_of f k) f

-- the table tells of body k, and it lies in the file
pub record HasBody (f : List ℕ) (k : ℕ) : Type 0 where
  pub told : k * 4 + 6 ≤ length f
  pub within : offset_of f k + length_of f k ≤ length f

-- where body k of n has to start: past the table, and then past the body before it
unfoldable pub start_of : ℕ → List ℕ → ℕ → ℕ
start_of n f zero = n * 4 + 2
start_of n f (suc k) = offset_of f k + length_of f k

unfoldable pub body_ok : ℕ → List ℕ → ℕ → Bool
body_ok n f k = eqb (offset_of f k) (start_of n f k)

-- a file of n bodies: "bodies follow in that order without gaps to the end. Each of the three has at most 65,535 bytes"
unfoldable pub table_ok : ℕ → List ℕ → Bool
table_ok n f =
    leb (length f) 65535 && leb (n * 4 + 2) (length f) && eqb (number_at f 0 2) n && every n (body_ok n f) && eqb (start_of n f n) (length f)
