-- The three indexes made in their parts of the workspace. Assumes nothing.
use mathlib.Core.Path.{◌≡◌, sym, subst, ◌∙◌}
use mathlib.Core.List.{List}
use Prim.Native.Nat.{ℕ, ◌+◌, ◌≤◌}
use native.Mathlib.Omega.{arith}
use lib.ListN.{length}
use borrow.Rule.Slice.PartMut.{put_mid, mid_of}
use Rattle.index.specs.Symbols.{SymbolsIndexed}
use Rattle.index.specs.Regions.{RegionsIndexed}
use Rattle.index.specs.Blocks.{BlocksIndexed}
use Rattle.workspace.specs.Parts.{workspace_size, tables_place, symbols_place, symbols_size, regions_place, regions_size, blocks_place, blocks_size}
use Rattle.workspace.proofs.LendLaws.{symbols_back, regions_back, blocks_back}
use Rattle.setup.specs.Post.{Indexes, IndexesBlocks}
use Rattle.setup.proofs.Following.{kept_then, types_then}

pub indexes : (w s t : List ℕ) {names world_names symbols regions : List ℕ} {count : ℕ} → workspace_size ≤ length w
    → length s ≡ length (mid_of (tables_place + symbols_place) symbols_size w) → SymbolsIndexed names world_names symbols s
    → length t ≡ length (mid_of (tables_place + regions_place) regions_size (put_mid (tables_place + symbols_place) symbols_size w s)) → RegionsIndexed regions t count
    → Indexes names world_names symbols regions w (put_mid (tables_place + regions_place) regions_size (put_mid (tables_place + symbols_place) symbols_size w s) t) count
indexes w s t {names} {world_names} {symbols} {regions} {count} room p f q g =
    let a = symbols_back w s room p in
    let v = put_mid (tables_place + symbols_place) symbols_size w s in
    let b = regions_back v t (omega (arith, a.kept.size)) q in
    record {
      kept = kept_then a.kept b.kept;
      same = types_then a.same b.same;
      symbols_are = subst (SymbolsIndexed names world_names symbols) (sym (b.symbols ∙ a.symbols)) f;
      regions_are = subst (λ (l : List ℕ). RegionsIndexed regions l count) (sym b.regions) g;
    }

pub indexes_blocks : (w s : List ℕ) {blocks : List ℕ} {count : ℕ} → workspace_size ≤ length w → length s ≡ length (mid_of (tables_place + blocks_place) blocks_size w) → BlocksIndexed blocks s count
    → IndexesBlocks blocks w (put_mid (tables_place + blocks_place) blocks_size w s) count
indexes_blocks w s {blocks} {count} room p f =
    let a = blocks_back w s room p in
    record {
      kept = a.kept;
      same = a.same;
      symbols = a.symbols;
      regions = a.regions;
      blocks_are = subst (λ (l : List ℕ). BlocksIndexed blocks l count) (sym a.blocks) f;
    }
