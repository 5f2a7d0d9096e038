-- What a stop is in the record's numbers. Assumes nothing.
use Rattle.std.specs.Prelude.{◌≡◌, ℕ}
use Rattle.definition.specs.Statements as statements
use Rattle.definition.specs.Record.{stop_body}
use Rattle.stream.specs.declared.StopPiece.{StopPiece}
use Rattle.stream.specs.Bodies.{stop_bytes, stop_from}
use Rattle.hosting.specs.declared.Stop.{Stop}
use Rattle.hosting.specs.Ending.{ended}
use Rattle.hosting.specs.Walking.{stop_end}

-- the piece has the bytes of the stop that a run with so many units ended with
pub record Tells (limit : ℕ) (stop : Stop) (p : StopPiece) : Type 0 where
  pub bytes : (s : statements.Stop) → stop_end limit stop ≡ ended s → stop_bytes (stop_from p) ≡ stop_body s
