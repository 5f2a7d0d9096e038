-- A spot of the walk: the block has the statement that it is before. Assumes nothing.
use Rattle.std.specs.Prelude.{◌≡◌, List, ℕ, ◌<◌, Some}
use Rattle.layout.specs.Number.{number_at}
use Rattle.index.specs.declared.blocks.Place.{Place}
use Rattle.index.specs.Blocks.{block_start}
use Rattle.outcomes.specs.declared.leads.Spot.{Spot}

-- the block has statement k
pub record Here (blocks : List ℕ) (p : Place) (k : ℕ) : Type 0 where
  pub below : k < number_at blocks p.start 2

-- a place of the walk: one before a statement has it
pub record PlacedAt (blocks : List ℕ) (count : ℕ) (s : Spot) : Type 0 where
  pub block : (k : ℕ) → s.statement ≡ Some k → s.block < count
  pub here : (k : ℕ) → s.statement ≡ Some k → k < number_at blocks (block_start blocks s.block) 2
