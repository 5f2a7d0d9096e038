-- The record of an accepted run. Assumes nothing.
use Rattle.std.specs.Prelude.{◌≡◌, List, ℕ, ◌+◌, ◌*◌, ◌≤◌, length}
use Rattle.layout.specs.Number.{number_at}
use Rattle.definition.specs.Record.{body_at}
use Rattle.definition.specs.Run.{number, record_of, workspace_needed}
use Rattle.text.specs.Read.{StopThere}
use Rattle.text.specs.Left.{StepsLeft, VariablesLeft}

-- pair i is there, and the body that it locates
pub record Located (bytes : List ℕ) (i : ℕ) : Type 0 where
  pub told : 8 * i + 8 ≤ length bytes
  pub within : number_at bytes (8 * i) 4 + number_at bytes (8 * i + 4) 4 ≤ length bytes

-- a record whose stop, steps and variables name what is among the first n
pub record Listable (n : ℕ) (bytes : List ℕ) : Type 0 where
  pub stop_at : Located bytes 0
  pub steps_at : Located bytes 2
  pub variables_at : Located bytes 3
  pub stop : StopThere n (body_at bytes 0)
  pub steps : StepsLeft n (body_at bytes 2)
  pub variables : VariablesLeft n (body_at bytes 3)

-- the bytes are the record of the routine's run in some world and call, with the buffers that the listing lends
pub record RunOf (routine bytes : List ℕ) : Type 0 where
  pub world : List ℕ
  pub call : List ℕ
  pub accepted : number routine world call 65536 workspace_needed ≡ 0
  pub is : bytes ≡ record_of routine world call
