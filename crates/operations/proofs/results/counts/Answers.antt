use Rattle.operations.proofs.Answering.{counts_is}
use Rattle.std.proofs.Common.{rules}
use Rattle.operations.proofs.results.counts.Goals as goal

pub returns : goal.returns
returns c = search (rules, counts_is)
