-- The overlay as bytes: entries in the record's own layout, ascending, one after the other, in a part of the workspace. Assumes nothing.
use Rattle.std.specs.Prelude.{ℕ, zero, suc, ◌+◌, ◌*◌, ◌≤◌, List, [], ◌∷◌, length, take, drop, slice_set}
use Rattle.layout.specs.Number.{number_at}
use Rattle.layout.specs.Format.{Format, number, pair, writes, reads}
use Rattle.memory.specs.Overlay.{Overlay, Cell, Ascending}

-- "Memory, by address: u64, byte."
unfoldable pub entry : Format (ℕ × Cell)
entry = pair (number 8) (number 1)

-- the Memory body of a record
abbrev pub memory_body : Overlay Cell → List ℕ
memory_body m = writes entry m

-- the bytes of an entry, and the most entries
abbrev pub entry_size : ℕ
entry_size = 9

abbrev pub limit : ℕ
limit = 4096

-- the first n entries of a list of bytes
unfoldable pub row_of : List ℕ → ℕ → Overlay Cell
row_of s n = (reads entry n s).0

pub record IsRow (s : List ℕ) (n : ℕ) : Type 0 where
  pub room : n * entry_size ≤ length s
  pub ascending : Ascending (row_of s n)

-- A part has a place for each entry, and then two bytes for the place of the first, so that entries can be put in before it too.
abbrev pub first_at : ℕ
first_at = limit * entry_size

abbrev pub part_size : ℕ
part_size = first_at + 2

-- the place of the first of n entries; no entries are anywhere
unfoldable pub first : List ℕ → ℕ → ℕ
first s zero = 0
first s (suc n) = number_at s first_at 2

unfoldable pub entries : List ℕ → ℕ → Overlay Cell
entries s n = row_of (drop (first s n * entry_size) s) n

-- the n entries of a part are an overlay, and the part has room for all
pub record Sorted (s : List ℕ) (n : ℕ) : Type 0 where
  pub room : part_size ≤ length s
  pub placed : first s n + n ≤ limit
  pub ascending : Ascending (entries s n)

-- the bytes of n entries from place i on
unfoldable pub piece : List ℕ → ℕ → ℕ → List ℕ
piece s i n = take (n * entry_size) (drop (i * entry_size) s)

-- the bytes of the entries from place i on replaced, their addresses left
unfoldable pub overwritten : List ℕ → ℕ → List ℕ → List ℕ
overwritten s i [] = s
overwritten s i (b ∷ bs) = overwritten (slice_set s (i * entry_size + 8) b) (suc i) bs
