-- What is known of the block at a place. Assumes nothing.
use Rattle.std.specs.Prelude.{List, ℕ, ◌+◌, ◌*◌, ◌≤◌, length, get_or}
use Rattle.layout.specs.Number.{number_at}
use Rattle.files.specs.Program.{tree_at}
use Rattle.index.specs.declared.blocks.Place.{Place}
use Rattle.index.specs.Blocks.{BlockInside}
use Rattle.hosting.specs.Stands.{Stands}
use Rattle.outcomes.specs.Sorts.{RootsOf}

-- it is in the body, and its statements are in theirs
pub record Dealt (statements blocks : List ℕ) (p : Place) : Type 0 where
  pub inside : BlockInside blocks p.start
  pub dealt : (p.first + number_at blocks p.start 2) * 13 ≤ length statements

pub record Placing (nodes statements blocks : List ℕ) (p : Place) : Type 0 where
  pub dealt : Dealt statements blocks p
  pub roots : RootsOf nodes statements
  pub root : 2 ≤ get_or blocks (p.start + 2) 0 → Stands nodes (number_at blocks (p.start + 12) 4) (tree_at nodes (number_at blocks (p.start + 12) 4))
