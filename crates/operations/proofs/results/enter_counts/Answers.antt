use Rattle.operations.proofs.Answering.{enters_counts}
use Rattle.operations.proofs.results.enter_counts.Goals as goal

pub returns : goal.returns
returns c = enters_counts c.set_word.ensures c.set_word-2.ensures c.set_word-3.ensures c.set_word-4.ensures c.set_word-5.ensures c.set_word-6.ensures
