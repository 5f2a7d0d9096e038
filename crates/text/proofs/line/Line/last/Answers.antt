use borrow.Author.Rules.{rules}
use mathlib.Core.Path.{refl}
use native.Mathlib.Omega.{arith}
use Rattle.text.proofs.DigitLaws.{length_last, filled_all, filled_more, filled_end}
use Rattle.text.proofs.line.Line.last.Goals as goal

pub loop-k-init : goal.loop-k-init
loop-k-init c = (filled_all, omega (arith, c.requires, length_last c.args.count c.args.base.of c.args.number))

pub loop-k-preserved : goal.loop-k-preserved
loop-k-preserved c = (filled_more c.loop-k.k c.args.base.of c.loop-k.rest (search rules) c.last.ensures c.loop-k.invariant.0 refl refl refl, search rules)

pub returns : goal.returns
returns c = filled_end c.loop-k.k c.args.base.of c.loop-k.rest c.args.count c.args.number (search rules) c.loop-k.invariant.0 refl refl refl
