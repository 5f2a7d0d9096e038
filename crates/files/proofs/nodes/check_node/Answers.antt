use borrow.Author.Tests.{lt-ltb}
use Rattle.files.specs.Nodes.{field_ok}
use Rattle.files.proofs.KindLaws.{kind_there, same_bound}
use Rattle.files.proofs.nodes.check_node.Goals as goal

pub returns : goal.returns
unfolding field_ok
returns c =
    let n = c.kind_number.result in
    let k = kind_there n c.in-Ok.kind _ c.in-Ok.ensures in
    simp (c.is_below-below.ensures, c.value-v.ensures, c.width-w.ensures, c.reference-r.ensures.0, c.flag-f.ensures, c.from-rule.ensures, k.1, ← c.kind_number.ensures, lt-ltb n 20 k.0, same_bound)
