use Rattle.std.proofs.Common.{rules, tests, arith, refl, ◌/◌, length}
use Rattle.std.proofs.lemmas.Iterator.{YieldsList-from_range}
use Rattle.files.specs.Blocks.{statement_ok}
use Rattle.files.proofs.ItemLaws.{every_all}
use Rattle.files.proofs.BlockLaws.{statements_good}
use Rattle.files.proofs.blocks.check_statements.Goals as goal

pub returns : goal.returns
returns c =
    let all = every_all (statement_ok c.args.nodes.now c.args.b.now) (length c.args.b.now / 13) _ _ _ c.all.ensures.ran (YieldsList-from_range 0 _ _ refl (omega arith)) (λ x t q k. search (rules, tests)) in
    statements_good _ _ (omega arith) _ all
