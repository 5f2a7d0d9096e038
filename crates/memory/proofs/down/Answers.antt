use Rattle.memory.specs.Entries.{entry_size}
use Rattle.memory.proofs.MoveLaws.{lowered_more}
use Rattle.std.proofs.Common.{ℕ, ◌+◌, ◌*◌, List, get_or, set, ap, ◌∙◌, arith, length-set}
use Rattle.memory.proofs.down.Goals as goal

pub loop-k-preserved : goal.loop-k-preserved
loop-k-preserved g c = let l = c.loop-k in
    let by = g.row.PLACES * entry_size in (
      ap (λ (t : List ℕ). set t l.k (get_or t (l.k + by) 0)) l.invariant.0 ∙ lowered_more c.args.part.now by l.k (omega arith),
      length-set l.part l.k (get_or l.part (l.k + by) 0) ∙ l.invariant.1,
    )
