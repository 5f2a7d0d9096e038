-- The parts of a lent workspace while a routine runs: what is written to memory, the variables, the pending note, the registers, then tables made once at
-- the start, and questions. Assumes nothing.
use Rattle.std.specs.Prelude.{List, ℕ, ◌+◌, take, drop}
use Rattle.memory.specs.Entries.{part_size}
use Rattle.definition.specs.Run.{workspace_needed}

-- a shorter workspace is refused
abbrev pub workspace_size : ℕ
workspace_size = workspace_needed

-- so many elements from an index on
abbrev pub part : {A : Type 0} → ℕ → ℕ → List A → List A
part at size s = take size (drop at s)

-- ---- what changes as the routine runs: where each part starts, and its bytes

abbrev pub memory_size : ℕ
memory_size = part_size

abbrev pub frame_place : ℕ
frame_place = memory_size

abbrev pub frame_size : ℕ
frame_size = 8192

abbrev pub note_place : ℕ
note_place = frame_place + frame_size

abbrev pub note_size : ℕ
note_size = 40

-- entries of address and byte
unfoldable pub memory_part : List ℕ → List ℕ
memory_part w = take memory_size w

-- 512 slots of 16 bytes
unfoldable pub frame_part : List ℕ → List ℕ
frame_part w = part frame_place frame_size w

unfoldable pub note_part : List ℕ → List ℕ
note_part w = part note_place note_size w

abbrev pub registers_place : ℕ
registers_place = note_place + note_size

abbrev pub registers_size : ℕ
registers_size = 144

-- what an evaluation hands on
unfoldable pub registers_part : List ℕ → List ℕ
registers_part w = part registers_place registers_size w

-- ---- what stays

abbrev pub tables_place : ℕ
tables_place = registers_place + registers_size

-- where each starts in the tables, and its bytes
abbrev pub declared_size : ℕ
declared_size = 512

abbrev pub types_place : ℕ
types_place = declared_size

abbrev pub types_size : ℕ
types_size = 1024

abbrev pub symbols_place : ℕ
symbols_place = types_place + types_size

abbrev pub symbols_size : ℕ
symbols_size = 1024

abbrev pub regions_place : ℕ
regions_place = symbols_place + symbols_size

abbrev pub regions_size : ℕ
regions_size = 2522

abbrev pub blocks_place : ℕ
blocks_place = regions_place + regions_size

abbrev pub blocks_size : ℕ
blocks_size = 10920

abbrev pub tables_size : ℕ
tables_size = blocks_place + blocks_size

unfoldable pub tables : List ℕ → List ℕ
tables w = part tables_place tables_size w

-- the parts of the tables t of a workspace: a code for each name, two for each type, and three indexes
unfoldable pub declared_part : List ℕ → List ℕ
declared_part t = take declared_size t

unfoldable pub types_part : List ℕ → List ℕ
types_part t = part types_place types_size t

unfoldable pub symbols_part : List ℕ → List ℕ
symbols_part t = part symbols_place symbols_size t

unfoldable pub regions_part : List ℕ → List ℕ
regions_part t = part regions_place regions_size t

unfoldable pub blocks_part : List ℕ → List ℕ
blocks_part t = part blocks_place blocks_size t

-- ---- the questions that the first pass asks, as far as they fit

abbrev pub questions_place : ℕ
questions_place = tables_place + tables_size

unfoldable pub questions_part : List ℕ → List ℕ
questions_part w = drop questions_place w
