-- What a run is in: the bytes that the code is given, and what they stand for. Assumes nothing.
use Rattle.std.specs.Prelude.{◌≡◌, true, false, List, [], ℕ, ◌+◌, ◌*◌, ◌<◌, ◌≤◌, length, get_or, Option, None, Some}
use Rattle.value.specs.declared.Ty.{Ty}
use Rattle.spelling.specs.Spelling.{type_of, ends_star, before_star}
use Rattle.layout.specs.Format.{whole}
use Rattle.files.specs.Nodes.{kind_of, ref_of}
use Rattle.files.specs.World.{region, address_in, size_in, bytes_from}
use Rattle.definition.specs.Question.{World, address_of, size_of, read_at}
use Rattle.definition.specs.Evaluate.{Env, type_or}
use Rattle.definition.specs.Walk.{follow_at}
use Rattle.index.specs.Texts.{text_count}
use Rattle.index.specs.Symbols.{SymbolInside, SymbolsIndexed, symbol_named}
use Rattle.index.specs.Regions.{RegionsIndexed}
use Rattle.workspace.specs.Parts.{tables, symbols_part, regions_part}
use Rattle.workspace.specs.Types.{type_at, pointee_at, declared_at}
use Rattle.workspace.specs.View.{Fit}
use Rattle.hosting.specs.declared.Reads.{Reads}
use Rattle.hosting.specs.declared.How.{How}
use Rattle.hosting.specs.declared.Counts.{Counts}

-- the nodes of the routine, the world's symbols and regions, and how the run goes
pub record Given : Type 0 where
  pub nodes : List ℕ
  pub symbols : List ℕ
  pub regions : List ℕ
  pub how : How

abbrev pub given : List ℕ → List ℕ → List ℕ → How → Given
given n s r h = record { nodes = n; symbols = s; regions = r; how = h }

-- what an evaluation reads, and how the run goes
abbrev pub given_in : Reads → How → Given
given_in r = given r.nodes.now r.symbols.now r.regions.now

-- ---- what the code reads by

-- the symbol of each Var's name can be read
pub record SymbolsRead (nodes symbols t : List ℕ) : Type 0 where
  pub inside : (n : ℕ) → n * 20 + 20 ≤ length nodes → kind_of nodes n ≡ 1 → SymbolInside symbols (symbols_part t) (ref_of nodes n)

-- what is pointed at is no wider than a load can be
pub record Narrow (t : List ℕ) : Type 0 where
  pub narrow : (i : ℕ) → i < 512 → (type_or (pointee_at t i)).bits ≤ 64

-- the workspace is long enough and in order, and its tables can be read by
pub record Ready (g : Given) (w : List ℕ) (a : Counts) : Type 0 where
  pub fit : Fit w a.stored
  pub narrow : Narrow (tables w)
  pub symbols : SymbolsRead g.nodes g.symbols (tables w)
  pub regions : RegionsIndexed g.regions (regions_part (tables w)) g.how.regions

-- ---- what they tell

-- what an evaluation is in, and the world that it asks
pub record Scene : Type 0 where
  pub env : Env
  pub world : World

-- what a type of the routine points at
abbrev pub pointee : List ℕ → Option Ty
pointee text = elim (ends_star text) [ true ↦ Some (type_of (before_star text)) | false ↦ None ]

-- the tables t tell the types and declarations of a scene, and with the symbols and regions its world
pub record Meant (g : Given) (x : Scene) (t : List ℕ) : Type 0 where
  pub types : (i : ℕ) → i < 512 → type_at t i ≡ type_of (get_or x.env.types i [])
  pub pointees : (i : ℕ) → i < 512 → pointee_at t i ≡ pointee (get_or x.env.types i [])
  pub declared : (n : ℕ) → n < 512 → declared_at t n ≡ x.env.declared n
  pub follow : x.env.follow ≡ follow_at g.how.depth
  -- of the names of a routine and of a world
  pub routine_names : List ℕ
  pub world_names : List ℕ
  pub symbols : SymbolsIndexed routine_names world_names g.symbols (symbols_part t)
  pub named : (n : ℕ) → n * 20 + 20 ≤ length g.nodes → kind_of g.nodes n ≡ 1 → ref_of g.nodes n < text_count routine_names
  pub addresses : (n : ℕ) → x.world address_of n ≡ address_in (symbol_named routine_names world_names g.symbols n)
  pub sizes : (n : ℕ) → x.world size_of n ≡ size_in (symbol_named routine_names world_names g.symbols n)
  pub images : (a n : ℕ) → x.world read_at (record { address = a; size = n }) ≡ bytes_from (whole region g.regions) n a
