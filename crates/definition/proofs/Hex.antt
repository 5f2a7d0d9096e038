-- Bytes as the examples write them, and the lines of a text. Each record and listing of an example is, byte for byte, what the Rust original gives, built
-- unchanged, for the same three files, or, where a type is a bool, what the second reading gives (docs/DEFINITION.md says how they were made;
-- oracle/tests/examples.rs compares them). Assumes nothing.
use mathlib.Core.Bool.{true, false, ◌&&◌}
use mathlib.Core.List.{List, [], ◌∷◌, ◌++◌}
use Prim.Native.Nat.{ℕ, ◌+◌, ◌-◌, ◌*◌}
use Prim.Native.String.{String}
use lib.Dec.{leb}
use Rattle.layout.specs.Text.{text}

-- the digits among some characters, `0` to `9` and `a` to `f`
abbrev pub digits_in : List ℕ → List ℕ
digits_in [] = []
digits_in (c ∷ cs) = elim (leb 48 c && leb c 57) [
  | true ↦ (c - 48) ∷ digits_in cs
  | false ↦ elim (leb 97 c && leb c 102) [ true ↦ (c - 87) ∷ digits_in cs | false ↦ digits_in cs ]
]

abbrev pub bytes_of : List ℕ → List ℕ
bytes_of [] = []
bytes_of (a ∷ []) = a ∷ []
bytes_of (a ∷ b ∷ ds) = (16 * a + b) ∷ bytes_of ds

-- rows of digits, two to a byte; what is no digit, as a space, is passed over. Rows of a routine: its table, names, types, head, nodes, statements, blocks
-- with their cases; of a record: its pairs, stop, counts, steps, variables, memory, questions
abbrev pub hex : List String → List ℕ
hex [] = []
hex (row ∷ rows) = bytes_of (digits_in (text row)) ++ hex rows

-- each line with its end
abbrev pub lines : List String → List ℕ
lines [] = []
lines (l ∷ ls) = text l ++ (text "\n" ++ lines ls)

-- ---- what most examples share

-- a world without names, symbols and regions
abbrev pub no_world : List ℕ
no_world = hex ("0300  0e00 0000  0e00 0000  0e00 0000" ∷ [])

-- 20 steps, depth 8 and no argument
abbrev pub twenty_steps : List ℕ
twenty_steps = hex ("0100  0600 0800  14000000 08000000" ∷ [])
