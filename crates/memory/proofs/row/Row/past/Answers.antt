-- `past` meets its contract: the first of the entries from one on that comes after the address is at its rank; where none is, all come before. Assumes nothing.
use Rattle.std.proofs.Common.{suc, ◌<◌, ◌≤◌, ◌∙◌, rules}
use native.Mathlib.Omega.{arith}
use borrow.Author.Tests.{tests}
use Rattle.std.proofs.lemmas.Iterator.{first_from_Range}
use Rattle.memory.specs.Overlay.{rank}
use Rattle.memory.proofs.OverlayLaws.{rank_most}
use Rattle.memory.proofs.SearchLaws.{is_past, not_past, first_past}
use Rattle.memory.proofs.row.Row.past.Goals as goal

pub returns : goal.returns
returns c =
    let m = c.args.self.now in
    let k = rank (suc c.args.last) m in
    c.unwrap_or.ensures
    ∙ first_past k c.args.from c.len-count.result c.find.result c.requires (omega (arith, c.len-count.ensures.len, rank_most (suc c.args.last) m))
    (first_from_Range _ _ _ c.find.result (λ i. k ≤ i) (λ i. i < k) c.find.ensures.ran
    (λ x q t. search (rules, tests, not_past))
    (λ x q t. (search rules, search (rules, tests, is_past))))
