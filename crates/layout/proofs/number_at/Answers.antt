use Rattle.std.proofs.Common.{arith, ◌≡◌, ◌+◌, ◌<◌, ◌-◌, length, ℕ, List, ◌++◌}
use Rattle.std.proofs.lemmas.List.{drop-replicate, take_all, length-replicate}
use Rattle.std.specs.Int.{w64, from_le_bytes}
use Rattle.layout.specs.Number.{number_at, num}
use Rattle.layout.specs.Each.{Bytes}
use Rattle.layout.proofs.NumberLaws.{num_from, num_above, number_at_lt}
use Rattle.layout.proofs.StoreLaws.{each_byte, each_take, each_drop, each_zero, all_append}
use lib.ListN.{take, drop, replicate, length-take, length-drop, length-append}
use mathlib.Core.Path.{ap, ap₂, ◌∙◌}
use Rattle.layout.proofs.number_at.Goals as goal

pub returns-clause-number : goal.returns-clause-number
unfolding number_at
returns-clause-number c =
    let n = c.args.count in
    let s = drop c.args.at c.args.s.now in
    let part = take n s in
    let buffer = part ++ replicate (8 - n) 0 in
    let w : c.args.at + n - c.args.at ≡ n = omega arith in
    let filled : c.copy_from_slice.new.self ++ drop n (replicate 8 0) ≡ buffer =
    ap₂ (λ (x y : List ℕ). x ++ y) (c.copy_from_slice.ensures.after ∙ ap (λ k. take k s) w) (drop-replicate {X = ℕ} n 8 0) in
    let l : length buffer ≡ 8 =
    omega (arith, length-append part (replicate (8 - n) 0), length-take n s, length-drop c.args.at c.args.s.now, length-replicate {A = ℕ} (8 - n) 0) in
    let bytes : Bytes buffer =
    all_append (λ b. b < 256) part (replicate (8 - n) 0) (each_take n s (each_drop c.args.at c.args.s.now (each_byte c.args.s.now (λ i. omega (arith, c.type_inv.s i))))) (each_zero (8 - n)) in
    c.from_le_bytes.ensures
    ∙ ap (from_le_bytes w64) filled
    ∙ num_from buffer 7 (omega (arith, l)) bytes
    ∙ ap num (take_all 8 buffer (omega arith))
    ∙ num_above part (8 - n)

pub returns-clause-small : goal.returns-clause-small
returns-clause-small c = rw (returns-clause-number c) (number_at_lt c.args.s.now c.args.at c.args.count)
