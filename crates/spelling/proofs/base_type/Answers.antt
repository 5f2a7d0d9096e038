-- `spelling::base_type` meets its contract: the words come from the pieces, all but those that are dropped.
-- Assumes nothing.
use Rattle.std.proofs.Common.{rules, Bool, ap, ◌∙◌}
use borrow.Author.Tests.{tests}
use lib.Dec.{eqb}
use mathlib.Core.Bool.{not}
use Rattle.std.proofs.lemmas.Iterator.{YieldsList}
use Rattle.std.proofs.lemmas.Iterator.Consumers.{YieldsList-at, YieldsList-from_filter}
use Rattle.std.proofs.lemmas.Iterator.Splits.{YieldsList-from_slice_split}
use Rattle.spelling.specs.Spelling.{dropped, base_of, pieces, named}
use Rattle.spelling.proofs.base_type.Goals as goal

pub returns : goal.returns
returns c =
    let s = c.args.s.now in
    c.named.ensures (base_of (pieces s)) (YieldsList.runs (YieldsList-from_filter {v = λ x. x.now} {ys = pieces s} _ (λ w. not (dropped w))
    (YieldsList-at c.filter-words.ensures.source (YieldsList-from_slice_split _ (λ b. eqb b 32) s c.split.ensures.rest c.split.ensures.done c.split.ensures.closure (λ x b q k. search (rules, tests))))
    c.filter-words.ensures.closure (λ x b q k. search (rules, tests))))
    ∙ ap (λ (u : Bool). named u (base_of (pieces s))) c.has_unsigned.ensures
