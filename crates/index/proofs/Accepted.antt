-- What accepted files give to the indexes. Assumes nothing.
use mathlib.Core.Path.{◌≡◌}
use mathlib.Core.Bool.{true}
use mathlib.Core.List.{List}
use Prim.Native.Nat.{ℕ, ◌+◌, ◌/◌, ◌≤◌, ◌<◌}
use native.Mathlib.Omega.{arith}
use borrow.Author.Tests.{leb-true}
use lib.ListN.{length}
use Rattle.layout.specs.Number.{number_at}
use Rattle.files.specs.Names.{names_in, types_in}
use Rattle.files.specs.FileTable.{body}
use Rattle.files.specs.Blocks.{block_ok, blocks_in}
use Rattle.files.proofs.Accepted.{routine, world, body_short}
use Rattle.files.specs.Refusal.{world_ok, routine_refusal}
use Rattle.index.specs.Texts.{Texts}
use Rattle.index.specs.Blocks.{block_start, block_first, Blocks, BlocksIndexed}
use Rattle.index.specs.Symbols.{Symbols}
use Rattle.index.specs.Regions.{Regions}
use Rattle.index.proofs.TextPlaces.{names_texts, types_texts}
use Rattle.index.proofs.BlockPlaces.{blocks_accepted, block_statements, block_good, block_before}
use Rattle.index.proofs.RegionPlaces.{regions_accepted}

-- ---- a routine whose number is 0

module _ (r : List ℕ) (h : routine_refusal r ≡ 0) where
  pub names_read : 1 ≤ names_in (body r 0)
  names_read = leb-true _ _ (routine r h).bodies.named

  pub types_read : 1 ≤ types_in (body r 1)
  types_read = leb-true _ _ (routine r h).bodies.typed

  blocks_read : 1 ≤ blocks_in (body r 3) (length (body r 4) / 13) (body r 5)
  blocks_read = leb-true _ _ (routine r h).bodies.blocked

  pub routine_names_lem : Texts (body r 0)
  routine_names_lem = names_texts (body r 0) names_read (body_short r 0)

  pub routine_types : Texts (body r 1)
  routine_types = types_texts (body r 1) types_read (body_short r 1)

  pub routine_blocks : Blocks (body r 5)
  routine_blocks = blocks_accepted (body r 3) (body r 5) (length (body r 4) / 13) blocks_read (omega (arith, body_short r 4)) (body_short r 5)

  -- the statements of a block are among all, and its test holds
  module _ {part : List ℕ} {n : ℕ} (all : BlocksIndexed (body r 5) part n) (k : ℕ) (l : k < n) where
    pub routine_statements : block_first (body r 5) k + number_at (body r 5) (block_start (body r 5) k) 2 ≤ length (body r 4) / 13
    routine_statements = block_statements (body r 3) (body r 5) (length (body r 4) / 13) blocks_read k (block_before (body r 5) n k all.full l)

    pub routine_block : block_ok (body r 3) (body r 5) (block_start (body r 5) k) ≡ true
    routine_block = block_good (body r 3) (body r 5) (length (body r 4) / 13) blocks_read k (block_before (body r 5) n k all.full l)

-- ---- a world that is accepted

module _ (w : List ℕ) (h : world_ok w ≡ true) where
  pub world_symbols : Symbols (body w 0) (body w 1)
  world_symbols = let t = world w h in record { names = leb-true _ _ t.named; good = t.symbols; short = body_short w 0; few = body_short w 1 }

  pub world_regions : Regions (body w 2)
  world_regions = regions_accepted (body w 2) (leb-true _ _ (world w h).regions) (body_short w 2)
