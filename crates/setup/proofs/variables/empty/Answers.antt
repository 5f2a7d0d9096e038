-- `empty` meets its contract. Assumes nothing.
use Rattle.setup.proofs.EmptyLaws.{empties}
use Rattle.setup.proofs.variables.empty.Goals as goal

pub returns : goal.returns
returns c = empties c.args.ws.now c.fill.new.self c.requires (c.fill.ensures.after (λ y e. e))
