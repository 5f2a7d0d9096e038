use Rattle.std.proofs.Common.{ℕ, ◌*◌, ◌%◌, ◌^◌, sym, ap, ◌∙◌, one-mul, arith, lit<, shl_exact}
use Rattle.memory.proofs.LoadLaws.{low_bytes}
use Rattle.memory.proofs.row.low_bytes.Goals as goal

pub returns-then-bytes-lt8 : goal.returns-then-bytes-lt8
returns-then-bytes-lt8 c = let x = c.args in
    ap (λ (k : ℕ). x.number % k) (shl_exact {a = 1} 1 (8 * x.bytes) 64 (lit< tt) (omega arith) ∙ one-mul (2 ^ (8 * x.bytes))) ∙ sym (low_bytes x.bytes x.number)
