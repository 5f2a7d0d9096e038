use Rattle.outcomes.proofs.Paying.{pays_block, pays_statement}
use Rattle.outcomes.proofs.units.pay.Goals as goal
use Rattle.outcomes.proofs.units.pay.Goals.{then-block, else-block}

pub returns : goal.returns
returns c = elim c.if-block.branch [
  | then-block w ↦ pays_block c.requires.balanced.1 c.word-rest.ensures c.set_word.ensures c.word-more.ensures c.set_word-2.ensures w.if-block.true w.spent-is
  | else-block w ↦ pays_statement c.requires.balanced.1 c.word-rest.ensures c.set_word.ensures c.word-more.ensures c.set_word-2.ensures w.if-block.false w.spent-is
]
