-- The defined run of a routine file with a world file and a call file, its record, and the number that it gives (the Rust's `run` and `run_with`;
-- document 01, "From the input", "From the state"). Assumes nothing.
use Rattle.std.specs.Prelude.{◌≡◌, true, false, ◌||◌, List, map, ℕ, zero, suc, length, ltb, None}
use Rattle.value.specs.Value.{type, known_val}
use Rattle.files.specs.Call.{Limits, limits_of}
use Rattle.files.specs.Program.{Program, program_of}
use Rattle.files.specs.Refusal.{Fault, fault, files_fault}
use Rattle.definition.specs.Question.{World}
use Rattle.definition.specs.Act.{Act, End, gave, stopped}
use Rattle.definition.specs.State.{State, fresh, Out, run}
use Rattle.definition.specs.Statements.{Stop, Unknown}
use Rattle.definition.specs.Walk.{walk_all, env_of, variables_at_start, variables_at_end}
use Rattle.definition.specs.World.{world_of}
use Rattle.definition.specs.Record.{Ran, record_bytes}

-- ---- the run

-- what a run does, and where it starts: "at depth 0 with empty memory and arguments of 64 bits signed"
unfoldable pub acts : Program → Limits → Act Stop
acts P l = walk_all P (env_of P l.depth) l.steps

unfoldable pub start : Program → Limits → State
start P l = fresh l.steps (variables_at_start P (map (λ a. known_val a (type 64 true)) l.arguments))

-- the walk itself does not end short (proofs/Walked.antt): what ends a statement or a terminator short is its stop
abbrev pub stop_of : End Stop → Stop
stop_of (gave s) = s
stop_of (stopped x) = Unknown None x

unfoldable pub ran_of : Program → Out Stop → Ran
ran_of P o = record {
  stop = stop_of o.end;
  entered = o.after.budget.entered;
  recorded = o.after.budget.recorded;
  steps = o.after.steps;
  variables = variables_at_end P o.after.variables;
  memory = o.after.memory;
  questions = o.log;
}

-- the run of a program in a world
unfoldable pub ran_in : World → Program → Limits → Ran
ran_in w P l = ran_of P (run w (acts P l) (start P l))

unfoldable pub ran : (routine world call : List ℕ) → Ran
ran routine world call = ran_in (world_of routine world) (program_of routine) (limits_of call)

-- the defined record
unfoldable pub record_of : (routine world call : List ℕ) → List ℕ
record_of routine world call = record_bytes (ran routine world call)

-- ---- how a call ends, and its number

pub data Verdict : Type 0 where
  -- 1 to 9, 20, 30 and 31: nothing is touched
  refused : Fault → Verdict
  -- 21 and 22: both buffers are zero throughout
  cleared : (number : ℕ) → Verdict
  accepted : Verdict

abbrev pub number_for : Verdict → ℕ
number_for (refused f) = f.number
number_for (cleared n) = n
number_for accepted = 0

-- "20 workspace under 65,536 bytes"
abbrev pub workspace_needed : ℕ
workspace_needed = 65536

-- "21 the defined run writes over 4,096 distinct addresses"
abbrev pub address_limit : ℕ
address_limit = 4096

-- "22 not 21, and the defined record is longer than its buffer or than 4,294,967,295 bytes"
unfoldable pub from_state : (addresses bytes buffer : ℕ) → Verdict
from_state addresses bytes buffer =
    elim (ltb address_limit addresses) [
      | true ↦ cleared 21
      | false ↦ elim (ltb buffer bytes || ltb 4294967295 bytes) [ true ↦ cleared 22 | false ↦ accepted ]
    ]

-- what refuses the input, then 20, then what the run comes to
unfoldable pub verdict : (routine world call : List ℕ) → (buffer workspace : ℕ) → Verdict
verdict routine world call buffer workspace =
    let f = files_fault routine world call in
    elim f.number [
      | suc n ↦ refused f
      | zero ↦ elim (ltb workspace workspace_needed) [
        | true ↦ refused (fault 20)
        | false ↦ from_state (length (ran routine world call).memory) (length (record_of routine world call)) buffer
      ]
    ]

unfoldable pub number : (routine world call : List ℕ) → (buffer workspace : ℕ) → ℕ
number routine world call buffer workspace = number_for (verdict routine world call buffer workspace)

-- "A run is accepted if no refusal number applies to it"
abbrev pub Accepted : (routine world call : List ℕ) → (buffer workspace : ℕ) → Type 0
Accepted routine world call buffer workspace = number routine world call buffer workspace ≡ 0
