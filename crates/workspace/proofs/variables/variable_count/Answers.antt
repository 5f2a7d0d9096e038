use Rattle.std.proofs.Common.{refl, ◌∙◌, rules}
use Rattle.std.proofs.lemmas.Iterator.{YieldsList-from_range}
use Rattle.std.proofs.lemmas.Iterator.Consumers.{YieldsList-at, YieldsList-from_filter, count_from_yields_List}
use Rattle.workspace.specs.Parts.{frame_part}
use Rattle.workspace.proofs.CopyLaws.{is_set, set_all}
use Rattle.workspace.proofs.variables.variable_count.Goals as goal

pub returns : goal.returns
returns c =
    let f = frame_part c.args.ws.now in
    count_from_yields_List c.filter.result c.count.result c.count.ensures.ran
    (YieldsList-from_filter _ (is_set f) (YieldsList-at c.filter.ensures.source (YieldsList-from_range 0 512 512 refl refl)) c.filter.ensures.closure (λ x b q k. search rules))
    ∙ set_all f
