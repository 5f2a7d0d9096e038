use Rattle.memory.specs.Entries.{entry_size, overwritten}
use Rattle.memory.proofs.WriteLaws.{over_turn, over_none, low_bytes}
use Rattle.std.proofs.Common.{◌+◌, ◌*◌, refl, take, ap, ◌∙◌, length-set}
use Rattle.memory.proofs.overwrite.Goals as goal

pub loop-k-preserved : goal.loop-k-preserved
loop-k-preserved c = let l = c.loop-k in
    let x = c.args in (
      over_turn l.part (take x.run.bytes c.to_le_bytes-bytes.result) x.i l.k _ c.loop-k-test.true refl ∙ l.invariant.0,
      length-set l.part ((x.i + l.k) * entry_size + 8) _ ∙ l.invariant.1,
    )

pub returns : goal.returns
returns c = let x = c.args in
    over_none c.loop-k.part (take x.run.bytes c.to_le_bytes-bytes.result) (x.i + c.loop-k.k) c.loop-k.k c.loop-k-test.false ∙ c.loop-k.invariant.0
    ∙ ap (overwritten x.part.now x.i) (ap (take x.run.bytes) c.to_le_bytes-bytes.ensures ∙ low_bytes x.run.bytes x.run.number x.run.few)
