use mathlib.Core.Path.{ap, sym}
use native.Mathlib.Omega.{arith}
use lib.ListN.{length}
use Rattle.text.proofs.DigitLaws.{digits_last, digits_count}
use Rattle.text.proofs.numerals.Base.count.Goals as goal

pub returns-then-number-eq0-clause-is : goal.returns-then-number-eq0-clause-is
returns-then-number-eq0-clause-is c = sym (ap length (digits_last 63 c.args.self.of c.args.number (omega (arith, c.args.self.low, c.if-number-eq0.true))))

pub returns-else-number-eq0-clause-is : goal.returns-else-number-eq0-clause-is
returns-else-number-eq0-clause-is c =
    let ilog = c.ilog.ensures in
    omega (arith, digits_count 64 c.args.self.of c.args.number c.ilog.result c.args.self.low ilog.power_le ilog.next_power_gt ilog.bound)
