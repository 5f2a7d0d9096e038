use native.Mathlib.Omega.{arith}
use Rattle.passes.proofs.Buffer.{length_part}
use borrow.Author.Rules.{rules}
use Rattle.passes.proofs.first_pass.Goals as goal

pub pass-requires : goal.pass-requires
pass-requires c = record { workspace_long = (search rules, omega (arith, length_part c.args.buffer.now c.min-start.result (omega arith))); tabled = search rules }
