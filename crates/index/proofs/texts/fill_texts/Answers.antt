-- `fill_texts` meets its contract. The loop's invariant: the text before which it stands is numbered by how many entries are made, and they are right.
-- Assumes nothing. (Named on the function, by `using`, the law of its end is not found beside the others: the search stops at its limits.)
use Rattle.std.proofs.Common.{arith, rules}
use Rattle.index.proofs.TextIndex.{texts_few, text_fits, text_filled, texts_filled}
use Rattle.index.proofs.texts.fill_texts.Goals as goal

pub put-requires-clause-inside : goal.put-requires-clause-inside
put-requires-clause-inside c = omega (arith, texts_few c.requires.0 c.loop-text.invariant.0 c.next.new.self.rest.now c.in-Some.ensures.steps, c.loop-text.invariant.0.room)

pub overflow_add-at-in-loop-text : goal.overflow_add-at-in-loop-text
overflow_add-at-in-loop-text c =
    let short = text_fits c.requires.0 c.loop-text.invariant.0 c.next.new.self.rest.now c.in-Some.ensures.steps (search rules) in
    search rules

pub loop-text-preserved : goal.loop-text-preserved
loop-text-preserved c = (text_filled c.requires.0 c.loop-text.invariant.0 c.next.new.self.rest.now c.in-Some.ensures.steps (search rules) c.put.ensures, search rules)

pub returns : goal.returns
returns c = texts_filled c.requires.0 c.loop-text.invariant.0 c.in-None.ensures.steps.0
