use Rattle.outcomes.proofs.Indexing.{index_told, index_placed}
use Rattle.outcomes.proofs.units.place_of.Goals as goal

pub block-requires : goal.block-requires
block-requires c = index_told c.args.ws.now c.requires.block_told

pub returns : goal.returns
returns c = index_placed c.args.ws.now c.block.ensures
