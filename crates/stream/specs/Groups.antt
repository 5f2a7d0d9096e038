-- The groups of fields that a piece is stored by: what the code's own functions store. Assumes nothing.
use Rattle.std.specs.Prelude.{cond, eqb, List, ◌++◌, ℕ, ◌*◌, take, drop, Option}
use Rattle.value.specs.declared.Val.{Val}
use Rattle.layout.specs.Number.{le}
use Rattle.layout.specs.Format.{number, flag, pair}
use Rattle.value.specs.Encoding.{val}
use Rattle.definition.specs.Fields.{no_val, flag_and_number}
use Rattle.definition.specs.Record.{WroteFields}
use Rattle.stream.specs.declared.NotePiece.{NotePiece}
use Rattle.stream.specs.declared.NotePiece.TheVariants.{Nothing, Fields, Written, Unknown, NotFollowed}

-- "flag u8", then a u64: both 0 for none
unfoldable pub flagged_bytes : Option ℕ → List ℕ
flagged_bytes o = le 1 (flag_and_number o).0 ++ le 8 (flag_and_number o).1

-- a `read` up to its answer
unfoldable pub span_bytes : (address size : ℕ) → List ℕ
span_bytes address size = le 1 3 ++ (le 8 address ++ le 1 size)

-- a `call` up to its values
unfoldable pub callee_bytes : (name address depth : ℕ) → List ℕ
callee_bytes name address depth = le 1 4 ++ (le 2 name ++ (le 8 address ++ le 4 depth))

-- a step's address, block and statement
unfoldable pub place_bytes : Option ℕ → (block statement : ℕ) → List ℕ
place_bytes address block statement = le 1 (flag_and_number address).0 ++ (le 8 (flag_and_number address).1 ++ (le 4 block ++ le 4 statement))

-- what it wrote
unfoldable pub wrote_bytes : WroteFields → List ℕ
wrote_bytes w = (pair flag (pair (number 2) val)).write w

-- its note up to the taken names
unfoldable pub note_bytes : (note address count : ℕ) → Val → List ℕ
note_bytes note address count v = le 1 note ++ (le 8 address ++ (le 4 count ++ val.write v))

-- the same of a note that took so many names
abbrev pub head_bytes : NotePiece → ℕ → List ℕ
head_bytes Nothing taken = note_bytes 0 0 0 no_val
head_bytes (Fields address count) taken = note_bytes 1 address count no_val
head_bytes (Written address v) taken = note_bytes 2 address 0 v
head_bytes Unknown taken = note_bytes 3 0 0 no_val
head_bytes NotFollowed taken = note_bytes (cond (eqb taken 0) 4 5) 0 0 no_val

-- the first names of a list that stands in bytes behind its own count
unfoldable pub names_bytes : (count : ℕ) → List ℕ → List ℕ
names_bytes count names = le 2 count ++ take (2 * count) (drop 2 names)

-- a stop up to its address, and from its number on
unfoldable pub cause_bytes : (kind reason : ℕ) → Option ℕ → List ℕ
cause_bytes kind reason address = le 1 kind ++ (le 1 reason ++ (le 1 (flag_and_number address).0 ++ le 8 (flag_and_number address).1))

unfoldable pub named_bytes : (number node name : ℕ) → Val → List ℕ
named_bytes number node name v = le 8 number ++ (le 4 node ++ (le 2 name ++ val.write v))
