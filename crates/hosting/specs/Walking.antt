-- How a walk ends, and what walking a whole routine ensures. Assumes nothing.
use Rattle.std.specs.Prelude.{List, ℕ, Option, None, Some}
use Rattle.files.specs.Program.{Program}
use Rattle.definition.specs.Act.{Why}
use Rattle.definition.specs.Statements as statements
use Rattle.definition.specs.Walk.{walk_all}
use Rattle.hosting.specs.declared.Counts.{Counts}
use Rattle.hosting.specs.declared.Facts.{Facts}
use Rattle.hosting.specs.declared.Stop.{Stop}
use Rattle.hosting.specs.declared.Stop.TheVariants.{Returned, Steps, Unknown, NoBlock, NoBlocks, NoReturn, Halted}
use Rattle.hosting.specs.declared.Walked.{Walked}
use Rattle.hosting.specs.Scene.{Given}
use Rattle.hosting.specs.Ending.{Ending, ended, short, short_of}
use Rattle.hosting.specs.Runs.{Runs}
use Rattle.hosting.specs.Routine.{Told}

abbrev pub unknown_end : Option ℕ → Option Why → Ending statements.Stop
unknown_end at None = short None
unknown_end at (Some y) = ended (statements.Unknown at y)

-- why a run with so many units stopped, or that the workspace had no room
abbrev pub stop_end : ℕ → Stop → Ending statements.Stop
stop_end limit (Returned v) = ended (statements.Returned v)
stop_end limit Steps = ended (statements.Steps limit)
stop_end limit (Unknown at s) = unknown_end at (short_of s)
stop_end limit (NoBlock b) = ended (statements.NoBlock b)
stop_end limit NoBlocks = ended statements.NoBlocks
stop_end limit (NoReturn at) = ended (statements.NoReturn at)
stop_end limit (Halted at target) = ended (statements.Halted at target)

-- the routine is walked from block 0, with so many units
pub record WalksAll (g : Given) (statements blocks : List ℕ) (f : Facts) (limit : ℕ) (w₀ o₀ : List ℕ) (a₀ : Counts) (r : Walked) (w o : List ℕ) : Type 0 where
  pub runs : (P : Program) → Told g.nodes statements blocks f P
      → Runs g (λ x. walk_all P x.env limit) w₀ o₀ a₀ (stop_end limit r.stop) w o r.at
