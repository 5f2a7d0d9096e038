use Rattle.std.proofs.Common.{ap, ◌∙◌}
use Rattle.workspace.specs.Parts.{tables}
use Rattle.workspace.specs.Types.{type_at}
use Rattle.operations.proofs.values.type_of.Goals as goal

pub returns : goal.returns
returns c = c.type_of.ensures ∙ ap (type_at (tables c.args.ws.now)) c.reference.ensures.0
