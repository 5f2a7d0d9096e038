use Rattle.memory.proofs.LoadLaws.{shifted, joined_lt}
use Rattle.std.proofs.Common.{ℕ, suc, ◌+◌, ap, arith, lit<}
use native.Mathlib.Nat.{pow-le-pow_right}
use Rattle.memory.proofs.row.joined.Goals as goal

pub overflow_add-result : goal.overflow_add-result
overflow_add-result c = let x = c.args in
    omega (arith, shifted x.i 1 x.byte (omega arith) (omega arith), joined_lt x.i x.number x.byte c.requires.1 (omega arith), pow-le-pow_right {n = 256} (lit< tt) {i = suc x.i} {j = 8} (omega arith))

pub returns : goal.returns
returns c = let x = c.args in
    let e = shifted x.i 1 x.byte (omega arith) (omega arith) in
    (ap (λ (y : ℕ). x.number + y) e, omega (arith, e, joined_lt x.i x.number x.byte c.requires.1 (omega arith)))
