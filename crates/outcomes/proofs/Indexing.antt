-- The index of blocks read where it lies in the workspace. Assumes nothing.
use mathlib.Core.Path.{sym, subst}
use mathlib.Core.List.{List}
use Prim.Native.Nat.{ℕ, ◌+◌}
use lib.ListN.{take, drop}
use Rattle.index.specs.declared.blocks.Place.{Place}
use Rattle.index.specs.Blocks.{BlockTold, Placed}
use Rattle.workspace.specs.Parts.{tables_place, blocks_place, blocks_size, tables, blocks_part}
use Rattle.workspace.proofs.LendLaws.{blocks_lent}

-- ---- the index where it lies

abbrev lent : List ℕ → List ℕ
lent w = take blocks_size (drop (tables_place + blocks_place) w)

pub index_told : (w : List ℕ) {k : ℕ} → BlockTold (blocks_part (tables w)) k → BlockTold (lent w) k
index_told w {k} h = subst (λ (p : List ℕ). BlockTold p k) (sym (blocks_lent w)) h

pub index_placed : (w : List ℕ) {k : ℕ} {r : Place} → Placed (lent w) k r → Placed (blocks_part (tables w)) k r
index_placed w {k} {r} h = subst (λ (p : List ℕ). Placed p k r) (blocks_lent w) h
