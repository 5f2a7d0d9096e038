-- The index of symbols: for each name of the routine, in two bytes, 0 or 1 more than the number of the world's symbol of that name. Assumes nothing.
use Rattle.std.specs.Prelude.{◌≡◌, true, List, [], ℕ, zero, suc, ◌+◌, ◌*◌, ◌≤◌, ◌<◌, length, get_or, Option, None, Some}
use Rattle.layout.specs.Number.{number_at}
use Rattle.layout.specs.Format.{whole}
use Rattle.files.specs.Names.{before, names_in}
use Rattle.files.specs.WorldFile.{symbols_ok}
use Rattle.files.specs.Refusal.{names_of}
use Rattle.files.specs.Program.{texts_in}
use Rattle.files.specs.World.{Symbol, symbol, symbol_of, address_in, size_in}
use Rattle.index.specs.declared.symbols.Cursor.{Cursor}
use Rattle.index.specs.Places.{place_from, text_size}
use Rattle.index.specs.Texts.{text_count}

-- the bytes of the index: two for each of at most 512 names
abbrev pub symbols_room : ℕ
symbols_room = 1024

-- the symbol of name n of the routine, whose names, and those of the world and its symbols, are bodies
abbrev pub symbol_named : (routine_names world_names symbols : List ℕ) → ℕ → Option Symbol
symbol_named R W S n = symbol_of (texts_in W) (whole symbol S) (get_or (texts_in R) n [])

-- symbol k: "name u16, size u8, address u64"
abbrev pub symbol_at : List ℕ → ℕ → Symbol
symbol_at b k = (number_at b (k * 11) 2, (number_at b (k * 11 + 2) 1, number_at b (k * 11 + 3) 8))

-- what an entry tells
abbrev pub entry_symbol : List ℕ → ℕ → Option Symbol
entry_symbol b zero = None
entry_symbol b (suc k) = Some (symbol_at b k)

-- where its symbol is
abbrev pub symbol_place : ℕ → Option ℕ
symbol_place zero = None
symbol_place (suc k) = Some (k * 11)

-- the entry that tells of a symbol by its number
abbrev pub entry_of : Option ℕ → ℕ
entry_of None = 0
entry_of (Some k) = suc k

-- the entry of a name, and its symbol, can be read
pub record SymbolInside (symbols part : List ℕ) (n : ℕ) : Type 0 where
  pub room : n * 2 + 2 ≤ length part
  pub inside : number_at part (n * 2) 2 * 11 ≤ length symbols

-- the part tells the symbol of each name of the routine
pub record SymbolsIndexed (routine_names world_names symbols part : List ℕ) : Type 0 where
  pub inside : (n : ℕ) → n < text_count routine_names → SymbolInside symbols part n
  pub tells : (n : ℕ) → n < text_count routine_names → entry_symbol symbols (number_at part (n * 2) 2) ≡ symbol_named routine_names world_names symbols n

-- the names and symbols of an accepted world
pub record Symbols (world_names symbols : List ℕ) : Type 0 where
  pub names : 1 ≤ names_in world_names
  pub good : symbols_ok symbols (names_of world_names) ≡ true
  pub short : length world_names < 65536
  pub few : length symbols < 65536

-- ---- answers, of whatever names the part is the index of

pub record AddressOf (symbols part : List ℕ) (n : ℕ) (r : Option ℕ) : Type 0 where
  pub is : (R W : List ℕ) → SymbolsIndexed R W symbols part → n < text_count R → r ≡ address_in (symbol_named R W symbols n)

pub record SizeOf (symbols part : List ℕ) (n : ℕ) (r : Option ℕ) : Type 0 where
  pub is : (R W : List ℕ) → SymbolsIndexed R W symbols part → n < text_count R → r ≡ size_in (symbol_named R W symbols n)

-- ---- the merge: both name lists ascend, and so do the symbols

-- the name of symbol k
abbrev pub name_of : (world_names symbols : List ℕ) → ℕ → List ℕ
name_of W S k = get_or (texts_in W) (number_at S (k * 11) 2) []

-- the first symbols have names before a name
pub record Passed (world_names symbols : List ℕ) (n : ℕ) (name : List ℕ) : Type 0 where
  pub each : (k : ℕ) → k < n → before (name_of world_names symbols k) name ≡ true

-- the search stands before a symbol, at the place of a name that does not come after that symbol's
pub record Standing (world_names symbols : List ℕ) (symbol name at : ℕ) : Type 0 where
  pub here : at ≡ place_from (text_size world_names) 0 name
  pub below : symbol * 11 < length symbols → name ≤ number_at symbols (symbol * 11) 2
  pub most : symbol * 11 ≤ length symbols

-- a name was sought, and a symbol of it found or not
pub record Sought (world_names symbols name : List ℕ) (c : Cursor) (found : Option ℕ) : Type 0 where
  pub standing : Standing world_names symbols c.symbol c.name c.at
  pub passed : Passed world_names symbols c.symbol name
  pub inside : entry_of found * 11 ≤ length symbols
  pub tells : entry_symbol symbols (entry_of found) ≡ symbol_of (texts_in world_names) (whole symbol symbols) name
