use Rattle.memory.proofs.SearchLaws.{near}
use Rattle.memory.proofs.row.Row.lower.Goals as goal

pub near-requires : goal.near-requires
near-requires c =
    near c.args.self.now c.len-count.ensures.row c.args.address _ _ _ _ _ c.len-count.ensures.len c.if-count-eq0.false c.address-first.ensures c.address-last.ensures c.if-address-first.false c.if-last-address.false c.min-most.ensures c.min.ensures
