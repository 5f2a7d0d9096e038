use Rattle.std.proofs.Common.{rules, arith, ℕ, ◌≡◌, ◌+◌, ◌-◌, ◌*◌, List, ◌++◌, take, drop, ap, ◌∙◌}
use Rattle.layout.proofs.StoreLaws.{each_byte}
use Rattle.memory.specs.Entries.{entry_size}
use Rattle.memory.proofs.PartLaws.{copied}
use Rattle.memory.proofs.copy_out.Goals as goal

pub returns : goal.returns
returns c =
    let from = c.first_of-from.result * entry_size in
    let size = c.args.count * entry_size in
    let w : from + size - from ≡ size = omega arith in
    ap (λ (l : List ℕ). l ++ drop size c.args.out.now)
    (copied c.args.part.now _ c.args.count c.first_of-from.result c.first_of-from.ensures c.requires.sorted
    (each_byte c.args.part.now (λ i. search rules)) (c.copy_from_slice.ensures.after ∙ ap (λ k. take k (drop from c.args.part.now)) w))
