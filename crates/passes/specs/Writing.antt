-- Lengths and places of a record's bodies, as the code computes them. Assumes nothing.
use Rattle.std.specs.Prelude.{◌≡◌, Bool, ◌&&◌, List, ◌++◌, ℕ, ◌+◌, ◌*◌, ◌≤◌, ◌<◌, length, drop, leb}
use Rattle.std.proofs.lemmas.List.Edits.{sets}
use Rattle.definition.specs.Statements.{Stop}
use Rattle.memory.specs.Entries.{memory_body}
use Rattle.definition.specs.Record.{Ran, stop_body, counts_body, steps_body, variables_body, questions_body, record_bytes}
use Rattle.workspace.specs.View.{view, Fit}
use Rattle.stream.specs.declared.Lengths.{Lengths}
use Rattle.stream.specs.Bodies.{stop_place, counts_place, steps_place, pairs_of, lengths_of, last_end}
use Rattle.hosting.specs.declared.Tally.{Tally}
use Rattle.hosting.specs.declared.Counts.{Counts}
use Rattle.hosting.specs.declared.Stop as code
use Rattle.hosting.specs.Ending.{ended}
use Rattle.hosting.specs.Walking.{stop_end}
use Rattle.passes.specs.Passing.{Holds, Keeps}

-- the lengths by the counts a and the workspace w: those of the two streams are their cursors
pub record Measured (w : List ℕ) (a : Counts) (l : Lengths) : Type 0 where
  pub steps : l.steps ≡ a.tally.recorded
  pub variables : l.variables ≡ length (view w a.stored).variables * 16
  pub memory : l.memory ≡ a.stored * 9
  pub questions : l.questions ≡ a.tally.asked
  pub few : l.variables ≤ 8192
  pub little : l.memory ≤ 36864

-- "longer than its buffer or than 4,294,967,295 bytes" is refused
unfoldable pub fits_in : Lengths → ℕ → Bool
fits_in l n = leb (last_end l) 4294967295 && leb (last_end l) n

-- the lengths are those of the run R's bodies, whose record has room in a buffer of n bytes
pub record Exact (R : Ran) (l : Lengths) (n : ℕ) : Type 0 where
  pub steps : l.steps ≡ length (steps_body R.steps)
  pub variables : l.variables ≡ length (variables_body R.variables)
  pub memory : l.memory ≡ length (memory_body R.memory)
  pub questions : l.questions ≡ length (questions_body R.questions)
  pub whole : last_end l ≡ length (record_bytes R)
  pub in_buffer : last_end l ≤ n
  pub in_length : last_end l ≤ 4294967295

-- the Stop body of what ended a run with so many units
pub record PutsStop (limit : ℕ) (stop : code.Stop) (record₀ record₁ : List ℕ) : Type 0 where
  pub bytes : (s : Stop) → stop_end limit stop ≡ ended s → record₁ ≡ sets record₀ stop_place (stop_body s)

-- the Stop and Counts bodies
pub record PutsFixed (limit : ℕ) (stop : code.Stop) (t : Tally) (record₀ record₁ : List ℕ) : Type 0 where
  pub bytes : (s : Stop) → stop_end limit stop ≡ ended s → record₁ ≡ sets (sets record₀ stop_place (stop_body s)) counts_place (counts_body t.entered t.steps)

-- bodies of these lengths can be written from the workspace w with the counts a, in a buffer of n bytes
pub record Laid (w : List ℕ) (a : Counts) (l : Lengths) (n : ℕ) : Type 0 where
  pub fit : Fit w a.stored
  pub variables : l.variables ≡ length (view w a.stored).variables * 16
  pub memory : l.memory ≡ a.stored * 9
  pub units : a.tally.entered + a.tally.steps < 4294967296
  pub in_buffer : last_end l ≤ n
  pub in_length : last_end l ≤ 4294967295

-- all bodies but those of the streams, and the pairs
pub record PutsBodies (limit : ℕ) (stop : code.Stop) (w : List ℕ) (a : Counts) (l : Lengths) (record₀ record₁ : List ℕ) : Type 0 where
  pub bytes : (s : Stop) → stop_end limit stop ≡ ended s
      → record₁ ≡ sets (sets (sets (sets (sets record₀ stop_place (stop_body s)) counts_place (counts_body a.tally.entered a.tally.steps)) (steps_place + l.steps) (variables_body (view w a.stored).variables))
      (steps_place + l.steps + l.variables) (memory_body (view w a.stored).memory)) 0 (pairs_of stop_place (lengths_of l))

-- the run R ended in the workspace w by the stop x, with so many units at most
pub record Ended (R : Ran) (limit : ℕ) (x : code.Stop) (w : List ℕ) (a : Counts) : Type 0 where
  pub holds : Holds R w a
  pub keeps : Keeps R w a
  pub stop : stop_end limit x ≡ ended R.stop

-- if the steps stood in the buffer, and then the old bytes, the record does
pub record Completes (R : Ran) (record₀ record₁ : List ℕ) : Type 0 where
  pub written : (old : List ℕ) → record₀ ≡ sets old steps_place (steps_body R.steps) → record₁ ≡ record_bytes R ++ drop (length (record_bytes R)) old
