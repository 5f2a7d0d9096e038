use Rattle.std.proofs.Common.{◌+◌, arith, leb-true}
use Rattle.memory.proofs.RowLaws.{none_there}
use Rattle.memory.proofs.row.Row.untouched.Goals as goal

pub returns-then-len-at : goal.returns-then-len-at
returns-then-len-at c h = none_there c.args.self.now c.args.address c.args.bytes c.args.at c.requires (omega (arith, c.in-Some.ensures)) (λ l. absurd (omega (arith, c.len.ensures.len)))

pub returns-else-len-at : goal.returns-else-len-at
returns-else-len-at c h = none_there c.args.self.now c.args.address c.args.bytes c.args.at c.requires (omega (arith, c.in-Some.ensures))
    (λ _. (c.address.result, (c.address.ensures, omega (arith, c.in-Some.ensures, leb-true c.in-Some.end c.address.result h))))
