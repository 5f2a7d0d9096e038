use mathlib.Core.Path.{◌∙◌}
use Rattle.machine.proofs.Noting.{gives_other, numbered_noted}
use Rattle.files.specs.Nodes.{kind_of}
use Rattle.files.proofs.KindLaws.{no_such}
use Rattle.std.specs.Prelude.{is_some}
use mathlib.Core.Path.{refl}
use Rattle.machine.proofs.execute.Goals as goal

pub returns : goal.returns
returns c = gives_other refl (no_such c.is.ensures c.if-is.false) c.evaluate-ok.ensures.0 (c.noted.ensures ∙ numbered_noted c.kind.result (kind_of c.args.reads.now.nodes.now c.args.n) (is_some c.evaluate-ok.result) c.evaluate-ok.new.ws c.kind.ensures)
