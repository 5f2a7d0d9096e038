use Rattle.operations.proofs.Answering.{tells_place}
use Rattle.operations.proofs.results.tells.Goals as goal

pub returns : goal.returns
returns c = tells_place c.from.ensures c.set_word.ensures c.set_word-2.ensures
