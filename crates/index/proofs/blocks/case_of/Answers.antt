-- `case_of` meets its contract: the chain reads the cases one after another, and the first that has the value is found. Assumes nothing.
use Rattle.std.proofs.Common.{◌+◌, rules}
use native.Mathlib.Omega.{arith}
use borrow.Author.Tests.{tests}
use Rattle.std.proofs.lemmas.Iterator.{YieldsList-from_range, YieldsList-from_map}
use Rattle.std.proofs.lemmas.Iterator.Search.{find_from_yields_List}
use Rattle.index.proofs.BlockFields.{case_read, has, case_found}
use Rattle.index.proofs.blocks.case_of.Goals as goal

pub returns : goal.returns
returns c =
    let b = c.args.blocks.now in
    let i = c.args.start + 24 in
    case_found b i c.args.value c.args.count c.find.result
    (find_from_yields_List (has b i c.args.value) _ _ c.find.result c.find.ensures.ran
    (YieldsList-from_map _ (case_read b i c.args.value) (YieldsList-from_range 0 _ c.args.count c.map.ensures.source (omega arith)) c.map.ensures.closure (λ x r q k. search rules))
    (λ x t q k. search (rules, tests)))
    (search rules)
