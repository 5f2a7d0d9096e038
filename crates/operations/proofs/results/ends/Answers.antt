use Rattle.operations.proofs.Answering.{gives_short}
use Rattle.operations.proofs.results.ends.Goals as goal

pub returns : goal.returns
returns c = gives_short c.coded-code.ensures c.set_word.ensures c.set_word-2.ensures
