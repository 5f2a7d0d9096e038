-- What a world file gives to a question (document 01, "The files", World). A name asked by is read in the routine file. Assumes nothing.
use Rattle.std.specs.Prelude.{true, false, ◌&&◌, List, [], ◌∷◌, ℕ, zero, suc, ◌+◌, ◌-◌, length, get_or, leb, ltb, Option, None, Some}
use Rattle.files.specs.FileTable.{body}
use Rattle.layout.specs.Format.{Format, number, pair, counted, whole}
use Rattle.layout.specs.Text.{same}
use Rattle.files.specs.Program.{texts_in}

-- symbols: name u16, size u8, address u64
abbrev pub Symbol : Type 0
Symbol = ℕ × (ℕ × ℕ)

abbrev pub symbol : Format Symbol
symbol = pair (number 2) (pair (number 1) (number 8))

-- regions: address u64, length u32, bytes
abbrev pub Region : Type 0
Region = ℕ × List ℕ

abbrev pub region : Format Region
region = pair (number 8) (counted 4 (number 1))

-- the symbol whose name has the same bytes
unfoldable pub symbol_of : List (List ℕ) → List Symbol → List ℕ → Option Symbol
symbol_of names [] name = None
symbol_of names (s ∷ ss) name = elim (same (get_or names s.0 []) name) [ true ↦ Some s | false ↦ symbol_of names ss name ]

-- the byte at an address, if a region has it
unfoldable pub byte_at : List Region → ℕ → Option ℕ
byte_at [] a = None
byte_at (r ∷ rs) a =
    elim (leb r.0 a && ltb a (r.0 + length r.1)) [ true ↦ Some (get_or r.1 (a - r.0) 0) | false ↦ byte_at rs a ]

-- the unbroken bytes from an address on, at most n
unfoldable pub bytes_from : List Region → ℕ → ℕ → List ℕ
bytes_from rs zero a = []
bytes_from rs (suc n) a = elim (byte_at rs a) [ None ↦ [] | Some b ↦ b ∷ bytes_from rs n (suc a) ]

abbrev pub address_in : Option Symbol → Option ℕ
address_in None = None
address_in (Some s) = Some s.1.1

-- a number, where 0 says that there is none
abbrev pub unless_zero : ℕ → Option ℕ
unless_zero zero = None
unless_zero (suc n) = Some (suc n)

-- "`size_of` also for an untold size"
abbrev pub size_in : Option Symbol → Option ℕ
size_in None = None
size_in (Some s) = unless_zero s.1.0

-- the symbol of name n of the routine
abbrev pub symbol_for : List ℕ → List ℕ → ℕ → Option Symbol
symbol_for routine world n = symbol_of (texts_in (body world 0)) (whole symbol (body world 1)) (get_or (texts_in (body routine 0)) n [])

-- "`address_of` answers the address of the symbol whose name has the same bytes as the name asked by, `size_of` that symbol's size"
unfoldable pub symbol_address : (routine world : List ℕ) → (name : ℕ) → Option ℕ
symbol_address routine world n = address_in (symbol_for routine world n)

unfoldable pub symbol_size : (routine world : List ℕ) → (name : ℕ) → Option ℕ
symbol_size routine world n = size_in (symbol_for routine world n)

-- "`read` answers the unbroken bytes from the address on, at most the length asked"
unfoldable pub image_bytes : (world : List ℕ) → (address size : ℕ) → List ℕ
image_bytes world a n = bytes_from (whole region (body world 2)) n a
