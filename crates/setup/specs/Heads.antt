-- The variables that a head tells, and what is done with each of them. Assumes nothing.
use Rattle.std.specs.Prelude.{◌≡◌, List, [], ℕ, ◌+◌, ◌-◌, ◌*◌, ◌/◌, ◌<◌, ◌≤◌, length, get_or, Option, None, Some}
use Rattle.layout.specs.Number.{number_at}
use Rattle.value.specs.declared.Ty.{Ty}
use Rattle.value.specs.declared.Val.{Val}
use Rattle.value.specs.Value.{unknown_val, cast_to}
use Rattle.spelling.specs.Spelling.{type_of}
use Rattle.memory.specs.Overlay.{Overlay, find, store}
use Rattle.files.specs.Program.{Variable, listed, variable_at}
use Rattle.definition.specs.Walk.{parameters_set, unset_added}
use Rattle.workspace.specs.Types.{type_at, Coded}
use Rattle.workspace.specs.View.{View}
use Rattle.hosting.specs.Setting.{with_variables}
use Rattle.setup.specs.declared.head.Named.{Named}

-- how many variables a head has, and how many of them are parameters
abbrev pub variable_count : List ℕ → ℕ
variable_count head = (length head - 13) / 4

abbrev pub parameter_count : List ℕ → ℕ
parameter_count head = get_or head 12 0

-- the first so many of them
abbrev pub variables : List ℕ → ℕ → List Variable
variables head n = listed (variable_at head) 0 n

-- the head of an accepted routine: "at most 512" names and types
pub record Heads (head : List ℕ) : Type 0 where
  pub room : 13 ≤ length head
  pub few : parameter_count head ≤ variable_count head
  pub names : (k : ℕ) → k < variable_count head → number_at head (k * 4 + 13) 2 < 512
  pub types : (k : ℕ) → k < variable_count head → number_at head (k * 4 + 15) 2 < 512

-- variable k, as the code reads it
pub record Reads (head : List ℕ) (k : ℕ) (v : Named) : Type 0 where
  pub name : v.name ≡ number_at head (k * 4 + 13) 2
  pub named : v.name < 512
  pub type : v.ty ≡ number_at head (k * 4 + 15) 2
  pub typed : v.ty < 512

-- the tables spell the types
pub record Typed (types : List (List ℕ)) (t : List ℕ) : Type 0 where
  pub is : (i : ℕ) → i < 512 → type_at t i ≡ type_of (get_or types i [])

-- and can tell one to be declared
pub record AllCoded (t : List ℕ) : Type 0 where
  pub coded : (i : ℕ) → i < 512 → Coded (type_at t i)

-- ---- what is done with them

-- an argument cast to a type; one that is missing is unknown
abbrev pub argument_if : Option Val → Ty → Val
argument_if None t = unknown_val t
argument_if (Some a) t = cast_to a t

-- a name that is not set is unknown
abbrev pub added_if : Option Val → ℕ → Ty → Overlay Val → Overlay Val
added_if (Some v) x t m = m
added_if None x t m = store x (unknown_val t) m

abbrev pub adding : ℕ → Ty → View → View
adding x t v = with_variables (added_if (find x v.variables) x t v.variables) v

-- the first n parameters are set, and the first n variables that are not set are unknown
abbrev pub starting : List (List ℕ) → List ℕ → ℕ → List Val → View → View
starting types head n arguments v = with_variables (parameters_set types (variables head n) arguments v.variables) v

abbrev pub ending : List (List ℕ) → List ℕ → ℕ → View → View
ending types head n v = with_variables (unset_added types (variables head n) v.variables) v
