use Rattle.std.proofs.lemmas.Result.{err_from_is_err_and}
use Rattle.std.proofs.Common.{◌≡◌, ◌+◌, ◌-◌, ◌%◌, ◌^◌, length, ap, ◌∙◌, arith}
use Rattle.memory.proofs.RunLaws.{stored_full, stored_count, all_full, each_turn, each_full, each_none}
use Rattle.memory.specs.Entries.{entries}
use Rattle.memory.specs.Overlay.{store}
use Rattle.memory.proofs.store_each.Goals as goal

pub returns-in_err-n : goal.returns-in_err-n
returns-in_err-n c = let l = c.loop-i in
    let x = c.args in
    let m = entries l.part l.n in
    let e = err_from_is_err_and c.from_residual.result c.from_residual.ensures.1 in
    let full = stored_full (store ((x.address + l.i) % 2 ^ 64) (l.left % 256) m) l.part c.store.new.part c.store.result _ c.store.ensures c.in_err-n.was in
    all_full _ _ _ e.0 e.1 (omega (arith, each_full m x.address x.bytes l.i l.left c.loop-i-test.true full, ap length l.invariant.1))

pub loop-i-preserved : goal.loop-i-preserved
loop-i-preserved c = let l = c.loop-i in
    let x = c.args in
    let m = entries l.part l.n in
    let h = stored_count (store ((x.address + l.i) % 2 ^ 64) (l.left % 256) m) l.part c.store.new.part c.store.result c.in_ok-n.n c.store.ensures c.in_ok-n.was in (
      h.sorted,
      each_turn m x.address x.bytes l.i l.left c.loop-i-test.true (entries c.store.new.part c.in_ok-n.n) h.same ∙ l.invariant.1,
      c.store.auto.part ∙ l.invariant.2,
    )

pub returns : goal.returns
returns c = let l = c.loop-i in
    let x = c.args in
    let e : x.bytes - l.i ≡ 0 = omega arith in
    record { sorted = l.invariant.0; same = each_none (x.address + l.i) (x.bytes - l.i) l.left (entries l.part l.n) e ∙ l.invariant.1 }
