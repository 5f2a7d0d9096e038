use mathlib.Core.Path.{refl, sym, ◌∙◌}
use Prim.Native.Nat.{◌/◌}
use lib.ListN.{length}
use Rattle.std.proofs.Common.{rules, tests, arith}
use Rattle.std.proofs.lemmas.Iterator.{YieldsList-from_range}
use Rattle.std.proofs.lemmas.Iterator.Adapters.{option_map_id}
use Rattle.std.proofs.lemmas.Iterator.Search.{find_from_yields_List}
use Rattle.files.proofs.FaultLaws.{faulty}
use Rattle.files.proofs.nodes.first_faulty.Goals as goal

pub returns : goal.returns
returns c =
    sym (option_map_id c.find.result)
    ∙ find_from_yields_List (faulty c.args.b.now c.args.bounds.names c.args.bounds.types) _ _ c.find.result c.find.ensures.ran (YieldsList-from_range 0 _ (length c.args.b.now / 20) refl (omega arith)) (λ x t q k. search (rules, tests))
