-- What accepted files tell the code that runs them: its trees, the facts of its routine, and what the tables of a workspace stand for. Assumes nothing.
use mathlib.Core.Path.{◌≡◌, refl, sym}
use mathlib.Core.Bool.{Bool, true}
use mathlib.Core.List.{List, [], ◌++◌}
use Rattle.std.specs.Prelude.{None}
use Prim.Native.Nat.{ℕ, zero, suc, ◌+◌, ◌*◌, ◌≤◌, ◌<◌}
use native.Mathlib.Omega.{arith}
use lib.ListN.{length, get_or}
use Rattle.layout.specs.Format.{whole}
use Rattle.files.specs.FileTable.{body}
use Rattle.files.specs.Nodes.{kind_of, ref_of, root_ok}
use Rattle.files.specs.Program.{tree_at, program_of}
use Rattle.files.specs.Refusal.{names_of, types_of, routine_refusal, constant_refusal}
use Rattle.files.specs.World.{region, symbol_of, byte_at, bytes_from, symbol_address, symbol_size, image_bytes}
use Rattle.files.proofs.Accepted.{routine, routine_nodes, constant, statement_root, block_root}
use Rattle.files.proofs.Shapes.{var_name}
use Rattle.definition.specs.Walk.{declared_in}
use Rattle.definition.specs.World.{world_of}
use Rattle.definition.specs.Constant.{nothing, constant_env}
use Rattle.index.specs.Texts.{text_count}
use Rattle.index.specs.Symbols.{SymbolsIndexed}
use Rattle.index.specs.Blocks.{BlocksIndexed}
use Rattle.index.proofs.TextPlaces.{names_count, types_count}
use Rattle.index.proofs.Accepted.{names_read, types_read, routine_names_lem, routine_types, routine_statements, routine_block}
use Rattle.workspace.specs.Parts.{symbols_part}
use Rattle.workspace.specs.Types.{type_at, pointee_at, declared_at}
use Rattle.spelling.specs.Spelling.{type_of}
use Rattle.hosting.specs.declared.Facts.{Facts}
use Rattle.hosting.specs.Stands.{Stands}
use Rattle.hosting.specs.Scene.{pointee, SymbolsRead, Meant}
use Rattle.hosting.specs.Routine.{Rooted, Told}
use Rattle.hosting.specs.Setting.{how_of, given_of, scene_of, constant_given}
use Rattle.setup.specs.Post.{Knows}
use Rattle.setup.proofs.Standing.{root_stands}

module _ (r : List ℕ) (h : routine_refusal r ≡ 0) where
  -- "at most 512" names and types
  pub few_names : names_of (body r 0) ≤ 512
  few_names = omega (arith, (routine_names_lem r h).few, names_count (body r 0) (names_read r h))

  pub few_types : types_of (body r 1) ≤ 512
  few_types = omega (arith, (routine_types r h).few, types_count (body r 1) (types_read r h))

  -- ---- trees

  pub stands_at : (n : ℕ) → root_ok (body r 3) n ≡ true → Stands (body r 3) n (tree_at (body r 3) n)
  stands_at = root_stands (routine_nodes r h) few_names few_types

  pub rooted : {part : List ℕ} {count : ℕ} → BlocksIndexed (body r 5) part count → Rooted (body r 3) (body r 4) (body r 5) part count
  rooted all = record {
    indexed = all;
    dealt = λ k l. omega (arith, routine_statements r h all k l);
    roots = λ k l. stands_at _ (statement_root (body r 3) (body r 4) (routine r h).bodies.stated k (omega arith));
    ends = λ k l g. stands_at _ (block_root (body r 3) (body r 5) _ (routine_block r h all k l) g);
  }

  -- ---- names

  -- a Var's name is one of the routine's
  pub var_named : (n : ℕ) → n * 20 + 20 ≤ length (body r 3) → kind_of (body r 3) n ≡ 1 → ref_of (body r 3) n < text_count (body r 0)
  var_named n l k = omega (arith, var_name (routine_nodes r h) n (omega arith) k, names_count (body r 0) (names_read r h))

  pub symbols_read : (W S t : List ℕ) → SymbolsIndexed (body r 0) W S (symbols_part t) → SymbolsRead (body r 3) S t
  symbols_read W S t all = record { inside = λ n l k. all.inside (ref_of (body r 3) n) (var_named n l k) }

pub constant_stands : (r : List ℕ) (n : ℕ) → constant_refusal r n ≡ 0 → Stands (body r 3) n (tree_at (body r 3) n)
constant_stands r n h = let c = constant r n h in stands_at r c.routine n c.root

pub told : (r : List ℕ) {count : ℕ} {f : Facts} → Knows (program_of r) count f → Told (body r 3) (body r 4) (body r 5) f (program_of r)
unfolding program_of
told r k = record { spelled = refl; named = k.named }

-- ---- what the tables stand for

no_bytes : (n a : ℕ) → bytes_from (whole region []) n a ≡ []
unfolding bytes_from byte_at
no_bytes zero a = refl
no_bytes (suc n) a = refl

module _ (r : List ℕ) (t : List ℕ)
    (types : (i : ℕ) → i < 512 → type_at t i ≡ type_of (get_or (program_of r).types i []))
    (pointees : (i : ℕ) → i < 512 → pointee_at t i ≡ pointee (get_or (program_of r).types i []))
    (h : routine_refusal r ≡ 0) where
  pub meant : (w : List ℕ) → ((x : ℕ) → x < 512 → declared_at t x ≡ declared_in (program_of r).types ((program_of r).parameters ++ (program_of r).locals) x)
      → SymbolsIndexed (body r 0) (body w 0) (body w 1) (symbols_part t) → (regions depth : ℕ) (second : Bool) → Meant (given_of r w (how_of depth regions second)) (scene_of r w depth) t
  unfolding world_of symbol_address symbol_size image_bytes
  meant w declared symbols regions depth second = record {
    types = types;
    pointees = pointees;
    declared = declared;
    follow = refl;
    routine_names = body r 0;
    world_names = body w 0;
    symbols = symbols;
    named = var_named r h;
    addresses = λ n. refl;
    sizes = λ n. refl;
    images = λ a n. refl;
  }

  -- the same for `constant_value`
  pub constant_meant : ((x : ℕ) → declared_at t x ≡ None) → SymbolsIndexed (body r 0) [] [] (symbols_part t) → (regions : ℕ)
      → Meant (constant_given r regions) (record { env = constant_env (program_of r); world = nothing }) t
  unfolding symbol_of
  constant_meant declared symbols regions = record {
    types = types;
    pointees = pointees;
    declared = λ n l. declared n;
    follow = refl;
    routine_names = body r 0;
    world_names = [];
    symbols = symbols;
    named = var_named r h;
    addresses = λ n. refl;
    sizes = λ n. refl;
    images = λ a n. sym (no_bytes n a);
  }
