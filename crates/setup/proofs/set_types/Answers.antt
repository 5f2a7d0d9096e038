-- `set_types` meets its contract. Assumes nothing.
use Rattle.setup.proofs.BodyFacts.{types_texts}
use Rattle.setup.proofs.Readying.{types_set, types_size_lem}
use borrow.Author.Rules.{rules}
use Rattle.setup.proofs.set_types.Goals as goal

pub put_types-requires : goal.put_types-requires
put_types-requires c = (types_texts _ c.args.routine.accepted c.types.ensures, search rules)

pub returns : goal.returns
returns c = let w = c.args.ws.now in
    let z = c.fill.new.self in
    let zero = c.fill.ensures.after (λ y e. e) in
    (types_set c.args.routine.bytes.now w z c.requires zero c.types.ensures c.put_types.ensures, types_size_lem c.args.routine.bytes.now w z c.requires zero c.types.ensures c.put_types.ensures)
