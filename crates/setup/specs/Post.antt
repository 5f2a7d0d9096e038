-- What the functions that make a workspace ready ensure. Assumes nothing.
use Rattle.std.specs.Prelude.{◌≡◌, true, false, List, [], map, ℕ, ◌≤◌, ◌<◌, length, get_or, Option, None}
use Rattle.layout.specs.Text.{text, same}
use Rattle.value.specs.declared.Ty.{Ty}
use Rattle.value.specs.declared.Val.{Val}
use Rattle.value.specs.Value.{type, known_val, cast_to}
use Rattle.spelling.specs.Spelling.{type_of}
use Rattle.files.specs.Program.{Program, texts_in, program_of}
use Rattle.files.specs.Call.{limits_in}
use Rattle.definition.specs.Walk.{declared_in}
use Rattle.index.specs.Texts.{text_count}
use Rattle.index.specs.Symbols.{SymbolsIndexed}
use Rattle.index.specs.Regions.{RegionsIndexed}
use Rattle.index.specs.Blocks.{BlocksIndexed}
use Rattle.workspace.specs.Parts.{tables, symbols_part, regions_part, blocks_part}
use Rattle.workspace.specs.Types.{type_at, pointee_at, declared_at}
use Rattle.workspace.specs.View.{view, fresh, Fit, Changes}
use Rattle.workspace.specs.Post.{Kept, SameTypes}
use Rattle.hosting.specs.declared.Facts.{Facts}
use Rattle.hosting.specs.Scene.{pointee}
use Rattle.hosting.specs.Routine.{returns_as, is_name, Named}
use Rattle.setup.specs.Heads.{variables, Typed, starting, ending}

-- ---- texts

-- the number of the name that has the text, if one has
pub record Finds (names wanted : List ℕ) (r : Option ℕ) : Type 0 where
  pub is : (x : ℕ) → x < 65536 → same (get_or (texts_in names) x []) wanted ≡ is_name r x

-- what is done with a value that a routine of a return type gives
pub record Returning (returns : List ℕ) (r : Option Ty) : Type 0 where
  pub is : (v : Val) → ◌≡◌ {A = Val} (elim (same returns (text "void")) [ true ↦ v | false ↦ cast_to v (type_of returns) ]) (returns_as r v)

-- the facts of a program of so many blocks
pub record Knows (P : Program) (blocks : ℕ) (f : Facts) : Type 0 where
  pub count : f.blocks ≡ blocks
  pub named : Named f P

-- ---- tables

-- the first n types of the table are put; past the last, what no text spells
pub record Spells (body : List ℕ) (n : ℕ) (w w' : List ℕ) : Type 0 where
  pub kept : Kept w w'
  pub types : (i : ℕ) → i < n → type_at (tables w') i ≡ type_of (get_or (texts_in body) i [])
  pub pointees : (i : ℕ) → i < n → pointee_at (tables w') i ≡ pointee (get_or (texts_in body) i [])
  pub declared : (x : ℕ) → declared_at (tables w') x ≡ declared_at (tables w) x

-- after the first m types of a table, those up to n are put, where the texts are at most m: what no text spells
pub record Unspelled (m n : ℕ) (w w' : List ℕ) : Type 0 where
  pub size : length w' ≡ length w
  pub spells : (body w₀ : List ℕ) → text_count body ≤ m → Spells body m w₀ w → Spells body n w₀ w'

-- the types of the routine are all that is in a workspace
pub record TypesSet (routine w : List ℕ) : Type 0 where
  pub holds : view w 0 ≡ fresh
  pub fit : Fit w 0
  pub declared : (x : ℕ) → declared_at (tables w) x ≡ None
  pub types : (i : ℕ) → i < 512 → type_at (tables w) i ≡ type_of (get_or (program_of routine).types i [])
  pub pointees : (i : ℕ) → i < 512 → pointee_at (tables w) i ≡ pointee (get_or (program_of routine).types i [])

-- the first n variables of a head are declared, where none was, with the types that the table spells
pub record DeclaresSome (head : List ℕ) (n : ℕ) (w w' : List ℕ) : Type 0 where
  pub kept : Kept w w'
  pub types : (i : ℕ) → type_at (tables w') i ≡ type_at (tables w) i
  pub pointees : (i : ℕ) → pointee_at (tables w') i ≡ pointee_at (tables w) i
  pub declared : (types : List (List ℕ)) → Typed types (tables w) → ((x : ℕ) → declared_at (tables w) x ≡ None) → (x : ℕ) → declared_at (tables w') x ≡ declared_in types (variables head n) x

-- the indexes of symbols and of regions are made, the latter with so many entries
pub record Indexes (names world_names symbols regions w w' : List ℕ) (count : ℕ) : Type 0 where
  pub kept : Kept w w'
  pub same : SameTypes (tables w) (tables w')
  pub symbols_are : SymbolsIndexed names world_names symbols (symbols_part (tables w'))
  pub regions_are : RegionsIndexed regions (regions_part (tables w')) count

-- the index of blocks is made
pub record IndexesBlocks (blocks w w' : List ℕ) (count : ℕ) : Type 0 where
  pub kept : Kept w w'
  pub same : SameTypes (tables w) (tables w')
  pub symbols : symbols_part (tables w') ≡ symbols_part (tables w)
  pub regions : regions_part (tables w') ≡ regions_part (tables w)
  pub blocks_are : BlocksIndexed blocks (blocks_part (tables w')) count

-- ---- variables

-- no variable is set and there is no note
pub record Empties (w w' : List ℕ) : Type 0 where
  pub holds : view w' 0 ≡ fresh
  pub fit : Fit w' 0
  pub tables : tables w' ≡ tables w
  pub size : length w' ≡ length w

-- the arguments of a call's body, of 64 bits signed
abbrev pub arguments_in : List ℕ → List Val
arguments_in b = map (λ a. known_val a (type 64 true)) (limits_in b).arguments

-- the first n parameters are set, with the types that the table spells
pub record StartsSome (head call : List ℕ) (n : ℕ) (w w' : List ℕ) : Type 0 where
  pub size : length w' ≡ length w
  pub same : tables w' ≡ tables w
  pub changes : (types : List (List ℕ)) → Typed types (tables w) → Changes w (starting types head n (arguments_in call)) w'

-- those of the first n variables that were not set are unknown
pub record EndsSome (head : List ℕ) (n : ℕ) (w w' : List ℕ) : Type 0 where
  pub size : length w' ≡ length w
  pub same : tables w' ≡ tables w
  pub changes : (types : List (List ℕ)) → Typed types (tables w) → Changes w (ending types head n) w'
