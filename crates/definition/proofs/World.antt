-- What a world file gives fits its fields in a record, whatever the file holds (`world_fits`). Assumes nothing.
use mathlib.Core.Bool.{Bool, true, false, ◌&&◌}
use mathlib.Core.List.{List, [], ◌∷◌}
use Rattle.std.specs.Prelude.{Option, None, Some}
use Prim.Native.Nat.{ℕ, zero, suc, ◌+◌, ◌-◌, ◌≤◌}
use native.Mathlib.Nat.{le_trans}
use native.Mathlib.Omega.{arith}
use lib.ListN.{length, get_or}
use lib.Dec.{leb, ltb, lit<, lit≤}
use Rattle.layout.specs.Each.{Each}
use Rattle.layout.specs.Format.{whole}
use Rattle.definition.specs.Question.{Asked, address_of, size_of, read_at, call_to, Question, cut}
use Rattle.files.specs.FileTable.{body}
use Rattle.files.specs.Program.{texts_in}
use Rattle.files.specs.World.{Symbol, symbol, Region, region, symbol_of, byte_at, bytes_from, address_in, unless_zero, size_in, symbol_for, symbol_address, symbol_size, image_bytes}
use Rattle.definition.specs.World.{world_of}
use Rattle.layout.specs.Text.{same}
use Rattle.layout.proofs.FormatLaws.{Below, number_sound, pair_sound, counted_sound, every_fits}
use Rattle.definition.proofs.Fields.{OptionFits, AnswerFits, cut_fits}

abbrev SymbolFits : Symbol → Type 0
SymbolFits s = Below 2 s.0 × (Below 1 s.1.0 × Below 8 s.1.1)

abbrev FoundFits : Option Symbol → Type 0
FoundFits None = Unit
FoundFits (Some s) = SymbolFits s

abbrev RegionFits : Region → Type 0
RegionFits r = Below 8 r.0 × (Below 4 (length r.1) × Each (Below 1) r.1)

symbols_fit : (bs : List ℕ) → Each SymbolFits (whole symbol bs)
symbols_fit bs = every_fits (pair_sound (number_sound 2) (pair_sound (number_sound 1) (number_sound 8))) (length bs) bs

regions_fit : (bs : List ℕ) → Each RegionFits (whole region bs)
regions_fit bs = every_fits (pair_sound (number_sound 8) (counted_sound (number_sound 1) 4)) (length bs) bs

found_fits : (names : List (List ℕ)) (ss : List Symbol) (name : List ℕ) → Each SymbolFits ss → FoundFits (symbol_of names ss name)
unfolding symbol_of
found_fits names [] name h = tt
found_fits names (s ∷ ss) name h = go (same (get_or names s.0 []) name) (found_fits names ss name h.1)
  where
    go : (b : Bool) → FoundFits (symbol_of names ss name) → FoundFits (elim b [ true ↦ Some s | false ↦ symbol_of names ss name ])
    go true f = h.0
    go false f = f

address_fits : (o : Option Symbol) → FoundFits o → OptionFits (address_in o)
address_fits None h = tt
address_fits (Some s) h = h.1.1

told_fits : (n : ℕ) → Below 1 n → OptionFits (unless_zero n)
told_fits zero h = tt
told_fits (suc n) h = le_trans h (lit≤ tt)

size_fits : (o : Option Symbol) → FoundFits o → OptionFits (size_in o)
size_fits None h = tt
size_fits (Some s) h = told_fits s.1.0 h.1.0

abbrev ByteFits : Option ℕ → Type 0
ByteFits None = Unit
ByteFits (Some b) = Below 1 b

get_d_fits : (bs : List ℕ) (i : ℕ) → Each (Below 1) bs → Below 1 (get_or bs i 0)
get_d_fits [] i h = lit< tt
get_d_fits (b ∷ bs) zero h = h.0
get_d_fits (b ∷ bs) (suc i) h = get_d_fits bs i h.1

byte_fits : (rs : List Region) (a : ℕ) → Each RegionFits rs → ByteFits (byte_at rs a)
unfolding byte_at
byte_fits [] a h = tt
byte_fits (r ∷ rs) a h = go (leb r.0 a && ltb a (r.0 + length r.1)) (byte_fits rs a h.1)
  where
    go : (b : Bool) → ByteFits (byte_at rs a) → ByteFits (elim b [ true ↦ Some (get_or r.1 (a - r.0) 0) | false ↦ byte_at rs a ])
    go true f = get_d_fits r.1 (a - r.0) h.0.1.1
    go false f = f

bytes_fit : (rs : List Region) (n a : ℕ) → Each RegionFits rs → (length (bytes_from rs n a) ≤ n) × Each (Below 1) (bytes_from rs n a)
unfolding bytes_from
bytes_fit rs zero a h = (omega arith, tt)
bytes_fit rs (suc n) a h = go (byte_at rs a) (byte_fits rs a h) (bytes_fit rs n (suc a) h)
  where
    go : (o : Option ℕ) → ByteFits o → (length (bytes_from rs n (suc a)) ≤ n) × Each (Below 1) (bytes_from rs n (suc a))
        → (length {A = ℕ} (elim o [ None ↦ [] | Some b ↦ b ∷ bytes_from rs n (suc a) ]) ≤ suc n)
        × Each (Below 1) (elim o [ None ↦ [] | Some b ↦ b ∷ bytes_from rs n (suc a) ])
    go None f g = (omega arith, tt)
    go (Some b) f g = (omega arith, (f, g.1))

pub world_fits : (routine world : List ℕ) (κ : Asked) (q : Question κ) → AnswerFits κ (world_of routine world κ (cut κ q))
unfolding world_of symbol_address symbol_size image_bytes
world_fits routine world address_of n =
    address_fits (symbol_for routine world _) (found_fits (texts_in (body world 0)) (whole symbol (body world 1)) _ (symbols_fit (body world 1)))
world_fits routine world size_of n =
    size_fits (symbol_for routine world _) (found_fits (texts_in (body world 0)) (whole symbol (body world 1)) _ (symbols_fit (body world 1)))
world_fits routine world read_at q =
    let b = bytes_fit (whole region (body world 2)) (cut read_at q).size (cut read_at q).address (regions_fit (body world 2)) in
    (omega (arith, b.0, (cut_fits read_at q).1), b.1)
world_fits routine world call_to q = tt
