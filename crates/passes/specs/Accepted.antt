-- What the definition says of accepted files: the run, and the units that it may spend. Assumes nothing.
use Rattle.std.specs.Prelude.{ℕ}
use Rattle.files.specs.Call.{limits_of}
use Rattle.definition.specs.Record.{Ran}
use Rattle.definition.specs.Run.{ran}
use Rattle.passes.specs.declared.accepted.Accepted.{Accepted}

abbrev pub ran_of : Accepted → Ran
ran_of f = ran f.routine.bytes.now f.world.bytes.now f.call.bytes.now

abbrev pub steps_of : Accepted → ℕ
steps_of f = (limits_of f.call.bytes.now).steps
