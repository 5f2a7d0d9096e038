use Rattle.operations.proofs.Answering.{cast_gives}
use Rattle.std.proofs.Common.{rules}
use Rattle.operations.proofs.values.cast.Goals as goal

pub returns : goal.returns
returns c = search (rules, cast_gives)
