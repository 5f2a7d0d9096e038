-- `fill_texts` meets its contract. The loop's invariant: the text before which it stands is numbered by how many entries are made, and they are right.
-- Assumes nothing.
use mathlib.Core.Path.{◌≡◌}
use lib.ListN.{length}
use Rattle.index.proofs.TextIndex.{Filling}
use Rattle.index.proofs.texts.fill_texts.Given as goal

abbrev pub invariant-loop-text : goal.invariant-loop-text
invariant-loop-text l = Filling l.body l.part l.text-iterator.rest.now l.at l.count × (length l.part ≡ length l.initial.part)
