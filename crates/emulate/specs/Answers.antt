-- How a call of `run` ends, told from where its first pass left the buffers. Assumes nothing.
use Rattle.std.specs.Prelude.{◌≡◌, List, ℕ, ◌≤◌, length, Result, Ok, Err}
use Rattle.std.proofs.lemmas.List.Edits.{sets}
use Rattle.files.specs.declared.refusal.Refusal.{Refusal}
use Rattle.files.specs.Refusal.{fault_of}
use Rattle.definition.specs.Record.{steps_body}
use Rattle.definition.specs.Run.{ran, record_of}
use Rattle.definition.specs.Answered.{Answered}
use Rattle.stream.specs.Bodies.{steps_place}

-- the length of a record; where a run is refused, the node that the refusal tells
abbrev pub length_in : Result ℕ Refusal → ℕ
length_in (Ok l) = l
length_in (Err r) = (fault_of r).node

-- what `run` gives, from where the first pass left the buffer and the workspace
pub record AnswersFrom (routine world call record₁ workspace₁ : List ℕ) (n l : ℕ) (record₂ workspace₂ : List ℕ) : Type 0 where
  pub answered : (record₀ workspace₀ : List ℕ) → length record₁ ≡ length record₀ → length workspace₁ ≡ length workspace₀
      → (length (record_of routine world call) ≤ length record₀ → record₁ ≡ sets record₀ steps_place (steps_body (ran routine world call).steps))
      → Answered routine world call record₀ workspace₀ n l record₂ workspace₂
