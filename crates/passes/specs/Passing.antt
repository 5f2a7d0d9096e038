-- What a pass over a routine leaves, told by what the definition's run comes to. Assumes nothing.
use Rattle.std.specs.Prelude.{◌≡◌, Bool, true, false, List, ℕ, ◌≤◌, ◌<◌, length}
use Rattle.std.proofs.lemmas.List.Edits.{sets}
use Rattle.files.specs.Program.{program_of}
use Rattle.files.specs.Call.{limits_of}
use Rattle.definition.specs.State.{Out, run}
use Rattle.definition.specs.Statements.{Stop}
use Rattle.definition.specs.World.{world_of}
use Rattle.definition.specs.Record.{Ran, steps_body, questions_body, record_bytes}
use Rattle.definition.specs.Run.{acts, start, stop_of, address_limit}
use Rattle.workspace.specs.Parts.{tables, questions_part}
use Rattle.workspace.specs.View.{view, Fit}
use Rattle.stream.specs.Stream.{Counted, Streamed}
use Rattle.hosting.specs.declared.Tally.{Tally}
use Rattle.hosting.specs.declared.Counts.{Counts}
use Rattle.hosting.specs.declared.Stop as code
use Rattle.hosting.specs.declared.Stop.TheVariants.{Returned, Steps, Unknown, NoBlock, NoBlocks, NoReturn, Halted}
use Rattle.hosting.specs.declared.Short.{Short}
use Rattle.hosting.specs.declared.Short.TheVariants.{Full, Why}
use Rattle.hosting.specs.Ending.{Ending, ended, short}
use Rattle.hosting.specs.Runs.{Kept}
use Rattle.stream.specs.Bodies.{steps_place}

-- ---- before a pass

abbrev pub none_yet : ℕ → Tally
none_yet limit = record { recorded = 0; asked = 0; left = limit; entered = 0; steps = 0 }

abbrev pub start_counts : ℕ → Counts
start_counts limit = record { stored = 0; tally = none_yet limit }

-- ---- after it

-- the cursor of the stream that a pass writes, and all that goes into it: in the first pass the steps, in the second the questions
abbrev pub cursor_in : Bool → Tally → ℕ
cursor_in false t = t.recorded
cursor_in true t = t.asked

abbrev pub either_of : {A : Type 0} → Bool → A → A → A
either_of false steps questions = steps
either_of true steps questions = questions

-- bytes were sent up to a cursor, and what was there before them became what is there now
pub record Beside (now : List ℕ) (at : ℕ) (bytes : List ℕ) : Type 0 where
  pub before : List ℕ
  pub size : length now ≡ length before
  pub streamed : Streamed before now at bytes

-- the first pass keeps the questions beside the tables
abbrev pub BesideIf : Bool → List ℕ → ℕ → List ℕ → Type 0
BesideIf false now at bytes = Beside now at bytes
BesideIf true now at bytes = Unit

-- the workspace w with the counts a keeps the questions of the run R, if they fit
abbrev pub Keeps : Ran → List ℕ → Counts → Type 0
Keeps R w a = Beside (questions_part w) a.tally.asked (questions_body R.questions)

-- the workspace w with the counts a holds what the run R came to
pub record Holds (R : Ran) (w : List ℕ) (a : Counts) : Type 0 where
  pub entered : a.tally.entered ≡ R.entered
  pub recorded : a.tally.steps ≡ R.recorded
  pub fit : Fit w a.stored
  pub variables : (view w a.stored).variables ≡ R.variables
  pub memory : (view w a.stored).memory ≡ R.memory
  pub steps : Counted a.tally.recorded (steps_body R.steps)
  pub questions : Counted a.tally.asked (questions_body R.questions)

-- it stopped by s, and the part out, which was old, holds the stream of the pass
pub record Passed (R : Ran) (second : Bool) (old : List ℕ) (s : Stop) (w out : List ℕ) (a : Counts) : Type 0 where
  pub stop : R.stop ≡ s
  pub holds : Holds R w a
  pub part : Streamed old out (cursor_in second a.tally) (either_of second (steps_body R.steps) (questions_body R.questions))
  pub beside : BesideIf second (questions_part w) a.tally.asked (questions_body R.questions)

-- a pass ended; or the run has written too many addresses
abbrev pub PassedIf : Ran → Bool → List ℕ → Ending Stop → List ℕ → List ℕ → Counts → Type 0
PassedIf R second old (ended s) w out a = Passed R second old s w out a
PassedIf R second old (short y) w out a = address_limit < length R.memory

-- the tables stay as they were in the workspace w₀
pub record Passes (R : Ran) (second : Bool) (old w₀ : List ℕ) (e : Ending Stop) (w out : List ℕ) (a : Counts) : Type 0 where
  pub comes : PassedIf R second old e w out a
  pub tables : Kept e (tables w ≡ tables w₀)

-- the definition's run, its variables as the walk left them
unfoldable pub walked_of : Out Stop → Ran
walked_of o = record {
  stop = stop_of o.end;
  entered = o.after.budget.entered;
  recorded = o.after.budget.recorded;
  steps = o.after.steps;
  variables = o.after.variables;
  memory = o.after.memory;
  questions = o.log;
}

unfoldable pub out_of : (routine world call : List ℕ) → Out Stop
out_of routine world call = run (world_of routine world) (acts (program_of routine) (limits_of call)) (start (program_of routine) (limits_of call))

-- the walk alone
pub record WalksOf (routine world call : List ℕ) (second : Bool) (old w₀ : List ℕ) (e : Ending Stop) (w out : List ℕ) (a : Counts) : Type 0 where
  pub comes : PassedIf (walked_of (out_of routine world call)) second old e w out a
  pub tables : Kept e (tables w ≡ tables w₀)

-- ---- whether the workspace had no room

abbrev pub without_room : Short → Bool
without_room Full = true
without_room (Why r n) = false

unfoldable pub full_of : code.Stop → Bool
full_of (Returned v) = false
full_of Steps = false
full_of (Unknown at s) = without_room s
full_of (NoBlock b) = false
full_of NoBlocks = false
full_of (NoReturn at) = false
full_of (Halted at target) = false

-- ---- the buffer

-- the run R's steps stand in the buffer, if its record has room there
pub record FirstPassed (R : Ran) (record₀ : List ℕ) (s : Stop) (record₁ w : List ℕ) (a : Counts) : Type 0 where
  pub stop : R.stop ≡ s
  pub holds : Holds R w a
  pub keeps : Keeps R w a
  pub written : length (record_bytes R) ≤ length record₀ → record₁ ≡ sets record₀ steps_place (steps_body R.steps)

abbrev pub FirstPassedIf : Ran → List ℕ → Ending Stop → List ℕ → List ℕ → Counts → Type 0
FirstPassedIf R record₀ (ended s) record₁ w a = FirstPassed R record₀ s record₁ w a
FirstPassedIf R record₀ (short y) record₁ w a = address_limit < length R.memory

pub record FirstPasses (R : Ran) (record₀ w₀ : List ℕ) (e : Ending Stop) (record₁ w : List ℕ) (a : Counts) : Type 0 where
  pub comes : FirstPassedIf R record₀ e record₁ w a
  pub tables : Kept e (tables w ≡ tables w₀)

-- its questions stand in the buffer too, from place q on
pub record QuestionsPut (R : Ran) (record₀ : List ℕ) (q : ℕ) (record₁ w : List ℕ) (a : Counts) : Type 0 where
  pub holds : Holds R w a
  pub written : record₁ ≡ sets record₀ q (questions_body R.questions)
