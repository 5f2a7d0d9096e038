-- A statement's step as the code tells it. Assumes nothing.
use Rattle.definition.specs.Act.{Step, Pending}
use Rattle.definition.specs.Evaluate as ev
use Rattle.definition.specs.Statements as statements
use Rattle.stream.specs.declared.StepPiece.{StepPiece}
use Rattle.hosting.specs.declared.Did.{Did}
use Rattle.outcomes.specs.declared.steps.Site.{Site}

abbrev pub piece_of : Site → Did → StepPiece
piece_of s d = record { address = s.address; block = s.block; statement = s.statement; wrote = d.wrote }

-- the definition's step of what was done, with the pending note
abbrev pub step_as : Site → ev.Did → Pending → Step
step_as s d p = record { address = s.address; block = s.block; statement = s.statement; wrote = d.wrote; note = statements.note_of d.note p }
