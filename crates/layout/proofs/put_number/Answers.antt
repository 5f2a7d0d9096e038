use Rattle.layout.specs.Number.{le, put_number}
use Rattle.layout.proofs.NumberLaws.{le_from, take_le, length_le}
use Rattle.layout.proofs.StoreLaws.{part_stored}
use Rattle.std.proofs.Common.{◌≡◌, ◌+◌, ◌-◌}
use native.Mathlib.Nat.{pow-zero, div-one}
use lib.ListN.{take}
use mathlib.Core.Path.{ap, ◌∙◌}
use borrow.Rule.Slice.PartMut.{put_mid}
use Rattle.layout.proofs.put_number.Goals as goal

pub returns : goal.returns
unfolding put_number
returns c =
    let n = c.args.count in
    let i = c.args.at in
    let v = c.args.v in
    let e : c.copy_from_slice.new.self ≡ le n v =
    c.copy_from_slice.ensures.after ∙ ap (take n) (c.to_le_bytes-bytes.ensures ∙ le_from 8 0 v ∙ ap (le 8) (rw (pow-zero, div-one))) ∙ take_le n 8 v c.requires.width in
    ap (put_mid i (i + n - i) c.args.s.now) e ∙ part_stored c.args.s.now (le n v) i n c.requires.inside (length_le n v)
