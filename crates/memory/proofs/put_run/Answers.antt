use Rattle.memory.specs.Overlay.{run_of}
use Rattle.memory.specs.Entries.{entry, entry_size}
use Rattle.memory.proofs.WriteLaws.{run_turn, run_none, low_bytes}
use Rattle.layout.specs.Format.{writes}
use Rattle.std.proofs.Common.{◌+◌, ◌*◌, List, ℕ, refl, take, ap, ◌∙◌}
use lib.Seq.{sets}
use Rattle.memory.proofs.put_run.Goals as goal

pub loop-k-preserved : goal.loop-k-preserved
loop-k-preserved c = let l = c.loop-k in
    let x = c.args in (
      run_turn l.part c.put_entry.new.part (take x.run.bytes c.to_le_bytes-bytes.result) x.i l.k x.run.address _ c.loop-k-test.true refl c.put_entry.ensures ∙ l.invariant.0,
      c.put_entry.auto.part ∙ l.invariant.1,
    )

pub returns : goal.returns
returns c = let x = c.args in
    let l = c.loop-k in
    run_none l.part (take x.run.bytes c.to_le_bytes-bytes.result) ((x.i + l.k) * entry_size) l.k (x.run.address + l.k) c.loop-k-test.false ∙ l.invariant.0
    ∙ ap (λ (bs : List ℕ). sets x.part.now (x.i * entry_size) (writes entry (run_of x.run.address bs))) (ap (take x.run.bytes) c.to_le_bytes-bytes.ensures ∙ low_bytes x.run.bytes x.run.number x.run.few)
