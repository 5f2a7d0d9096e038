use Rattle.std.proofs.Common.{rules, tests, arith, refl, ◌-◌, ◌/◌, length}
use Rattle.std.proofs.lemmas.Iterator.{YieldsList-from_range}
use Rattle.files.specs.Head.{variable_ok}
use Rattle.files.proofs.ItemLaws.{every_all}
use Rattle.files.proofs.HeadLaws.{head_good}
use Rattle.files.proofs.head.check.Goals as goal

pub returns : goal.returns
returns c =
    let all = every_all (variable_ok c.args.b.now c.args.bounds.names c.args.bounds.types) ((length c.args.b.now - 13) / 4) _ _ _ c.all.ensures.ran (YieldsList-from_range 0 _ _ refl (omega arith)) (λ x t q k. search (rules, tests)) in
    head_good _ _ _ (omega arith) _ _ c.check_fixed.ensures c.if-not-check_fixed.false all
