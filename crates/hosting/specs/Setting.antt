-- What setting up a workspace ensures: its tables, made of a routine and a world once, and the variables at the start and at the end of a run.
-- Assumes nothing.
use Rattle.std.specs.Prelude.{◌≡◌, Bool, true, false, List, [], map, ℕ, length, None}
use Rattle.value.specs.Value.{type, known_val}
use Rattle.memory.specs.Overlay.{Overlay}
use Rattle.value.specs.declared.Val.{Val}
use Rattle.files.specs.FileTable.{body}
use Rattle.files.specs.Program.{program_of}
use Rattle.files.specs.Call.{limits_of}
use Rattle.definition.specs.World.{world_of}
use Rattle.definition.specs.Walk.{env_of, variables_at_start, variables_at_end}
use Rattle.definition.specs.Constant.{nothing, constant_env}
use Rattle.index.specs.Regions.{RegionsIndexed}
use Rattle.workspace.specs.Parts.{tables, regions_part, blocks_part, questions_part}
use Rattle.workspace.specs.View.{View, view, Fit}
use Rattle.hosting.specs.declared.How.{How}
use Rattle.hosting.specs.declared.Indexed.{Indexed}
use Rattle.hosting.specs.Scene.{Given, given, Scene, Narrow, SymbolsRead, Meant}
use Rattle.hosting.specs.Routine.{Rooted, Told}

abbrev pub how_of : (depth regions : ℕ) → Bool → How
how_of depth regions second = record { depth = depth; regions = regions; second = second }

-- the bodies that the code of a run reads
abbrev pub given_of : (routine world : List ℕ) → How → Given
given_of routine world how = given (body routine 3) (body world 1) (body world 2) how

-- what the files tell
abbrev pub scene_of : (routine world : List ℕ) → (depth : ℕ) → Scene
scene_of routine world depth = record { env = env_of (program_of routine) depth; world = world_of routine world }

-- the tables of a workspace are those of a routine and a world
pub record Tabled (routine world w : List ℕ) (x : Indexed) : Type 0 where
  pub narrow : Narrow (tables w)
  pub symbols : SymbolsRead (body routine 3) (body world 1) (tables w)
  pub regions : RegionsIndexed (body world 2) (regions_part (tables w)) x.regions
  pub meant : (depth : ℕ) (second : Bool) → Meant (given_of routine world (how_of depth x.regions second)) (scene_of routine world depth) (tables w)
  pub rooted : Rooted (body routine 3) (body routine 4) (body routine 5) (blocks_part (tables w)) x.facts.blocks
  pub told : Told (body routine 3) (body routine 4) (body routine 5) x.facts (program_of routine)

-- no memory, no note, and some variables
abbrev pub fresh_view : Overlay Val → View
fresh_view vs = record { variables = vs; memory = []; pending = None }

-- a run with a call can start: its parameters are set
pub record Started (routine call w₀ w : List ℕ) : Type 0 where
  pub fit : Fit w 0
  pub holds : view w 0 ≡ fresh_view (variables_at_start (program_of routine) (map (λ a. known_val a (type 64 true)) (limits_of call).arguments))
  pub tables : tables w ≡ tables w₀
  pub size : length w ≡ length w₀

abbrev pub with_variables : Overlay Val → View → View
with_variables vs v = record { variables = vs; memory = v.memory; pending = v.pending }

-- the declared names that were never set are unknown
pub record Finished (routine w₀ w : List ℕ) : Type 0 where
  pub holds : (stored : ℕ) → view w stored ≡ with_variables (variables_at_end (program_of routine) (view w₀ stored).variables) (view w₀ stored)
  pub fit : (stored : ℕ) → Fit w₀ stored → Fit w stored
  pub tables : tables w ≡ tables w₀
  pub size : length w ≡ length w₀
  pub questions : questions_part w ≡ questions_part w₀

-- ---- `constant_value`: no world, no variable

abbrev pub constant_given : (routine : List ℕ) → (regions : ℕ) → Given
constant_given routine regions = given (body routine 3) [] [] (how_of 0 regions false)

pub record ConstantTabled (routine w : List ℕ) (count : ℕ) : Type 0 where
  pub narrow : Narrow (tables w)
  pub symbols : SymbolsRead (body routine 3) [] (tables w)
  pub regions : RegionsIndexed [] (regions_part (tables w)) count
  pub meant : Meant (constant_given routine count) (record { env = constant_env (program_of routine); world = nothing }) (tables w)
  pub fit : Fit w 0
  pub holds : view w 0 ≡ fresh_view []
