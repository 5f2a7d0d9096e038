use Rattle.memory.specs.Overlay.{to_byte, find}
use Rattle.memory.proofs.OverlayLaws.{rank_most}
use Rattle.memory.proofs.LoadLaws.{one_or_none, next_byte, after, load_turn, load_stop, load_last}
use Rattle.layout.specs.Number.{le}
use Rattle.std.proofs.Common.{◌+◌, ◌-◌, ◌^◌, sym, ◌∙◌, add-one, arith}
use Rattle.memory.proofs.row.Row.load_each.Goals as goal

pub returns-in_err-byte : goal.returns-in_err-byte
returns-in_err-byte c = let l = c.loop-i in
    let x = c.args in
    let m = x.self.now in
    let image = le l.left.count l.left.number in
    let none = sym (next_byte (to_byte (find l.here m)) _ _ image c.find_at-own.ensures.byte c.first.ensures) ∙ sym c.or.ensures ∙ c.in_err-byte.was in
    c.from_residual.ensures ∙ sym (sym l.invariant.3 ∙ load_stop m image x.address x.bytes l.i l.number l.here c.loop-i-test.true l.invariant.1 none)

pub overflow_add-place : goal.overflow_add-place
overflow_add-place c = record { fits = omega (arith, c.find_at-own.ensures.row.short, c.loop-i.invariant.0, rank_most c.loop-i.here c.args.self.now, one_or_none c.is_some.result) }

pub loop-i-preserved : goal.loop-i-preserved
loop-i-preserved c = let l = c.loop-i in
    let x = c.args in
    let m = x.self.now in
    let image = le l.left.count l.left.number in
    let got = sym (next_byte (to_byte (find l.here m)) _ _ image c.find_at-own.ensures.byte c.first.ensures) ∙ sym c.or.ensures ∙ c.in_ok-byte.was in (
      after m c.find_at-own.ensures.row.ascending l.here l.place _ (omega arith) l.invariant.0 _ c.find_at-own.ensures.byte _ c.is_some.ensures c.after-place.ensures,
      omega (arith, l.invariant.1),
      rw (add-one l.i) c.joined-number.ensures.1,
      load_turn m image x.address x.bytes l.i l.number l.here c.loop-i-test.true l.invariant.1 (le c.rest-left.result.count c.rest-left.result.number) c.joined-number.result c.in_ok-byte.byte (omega arith) got c.joined-number.ensures.0 c.rest-left.ensures
          ∙ l.invariant.3,
    )

pub returns : goal.returns
returns c = let l = c.loop-i in
    let x = c.args in
    sym (sym l.invariant.3 ∙ load_last x.self.now (le l.left.count l.left.number) (x.address + l.i) (x.bytes - l.i) l.number (256 ^ l.i) (omega arith))
