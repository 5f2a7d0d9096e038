-- The walk of a routine from its start, and of one that has no block. Assumes nothing.
use mathlib.Core.Path.{◌≡◌, refl, sym, ap, ◌∙◌, subst}
use mathlib.Core.List.{List, [], ◌∷◌}
use Rattle.std.specs.Prelude.{None, Some, slice_get}
use Prim.Native.Nat.{ℕ, ◌<◌}
use native.Mathlib.Omega.{arith}
use Rattle.files.specs.Program.{Program, Block}
use Rattle.definition.specs.Act.{done, ◌>>=◌}
use Rattle.definition.specs.Evaluate.{Env}
use Rattle.definition.specs.Statements as statements
use Rattle.definition.specs.Walk as walk
use Rattle.index.specs.Blocks.{BlockTold}
use Rattle.workspace.specs.Parts.{tables, blocks_part}
use Rattle.hosting.specs.declared.Counts.{Counts}
use Rattle.hosting.specs.declared.How.{How}
use Rattle.hosting.specs.declared.Facts.{Facts}
use Rattle.hosting.specs.declared.Stop.{Stop}
use Rattle.hosting.specs.declared.Stop.TheVariants.{NoBlocks}
use Rattle.hosting.specs.Scene.{Given, given, Ready}
use Rattle.hosting.specs.Routine.{Rooted}
use Rattle.hosting.specs.Runs.{Runs}
use Rattle.hosting.specs.Walking.{stop_end, WalksAll}
use Rattle.hosting.proofs.Running.{acts, told, done_runs}
use Rattle.operations.specs.Registers.{counts_in, how_in}
use Rattle.operations.specs.Steps.{Enters}
use Rattle.operations.proofs.Entering.{enters_before}
use Rattle.outcomes.specs.Units.{Balanced}
use Rattle.machine.specs.Walk.{walk_on, WalksFrom}
use Rattle.machine.proofs.WalkLaws.{block_found_at, block_missing, finish}

-- ---- a block that the index tells

pub index_room : {nodes ss blocks part : List ℕ} {count k : ℕ} → Rooted nodes ss blocks part count → k < count → BlockTold part k
index_room all l = record { room = omega (arith, all.indexed.room, l) }

-- ---- a routine with no block, and one with some

no_blocks : (bs : List Block) → slice_get bs 0 ≡ None → bs ≡ []
no_blocks [] h = refl
no_blocks (b ∷ bs) h = absurd (let z : ◌≡◌ {A = ℕ} 0 1 = cc in omega arith)

walk_none : (P : Program) (E : Env) (limit : ℕ) → P.blocks ≡ [] → walk.walk_all P E limit ≡ done statements.NoBlocks
unfolding walk.walk_all walk.walk_from ◌>>=◌
walk_none P E limit e = ap (λ (bs : List Block). elim bs [ [] ↦ done (walk.stops statements.NoBlocks) | b ∷ bs ↦ walk.walk P E limit (walk.before 0) ] >>= finish limit) e

walk_some : (P : Program) (E : Env) (limit : ℕ) {b : Block} → slice_get P.blocks 0 ≡ Some b → walk.walk_all P E limit ≡ walk_on P E limit limit (walk.before 0)
unfolding walk.walk_all walk.walk_from
walk_some P E limit {b} e = go P.blocks e
  where
    go : (bs : List Block) → slice_get bs 0 ≡ Some b → (elim bs [ [] ↦ done (walk.stops statements.NoBlocks) | b ∷ bs ↦ walk.walk P E limit (walk.before 0) ] >>= finish limit) ≡ walk_on P E limit limit (walk.before 0)
    go [] h = absurd (let z : ◌≡◌ {A = ℕ} 0 1 = cc in omega arith)
    go (c ∷ cs) h = refl

pub walks_none : {g : Given} {ss blocks part : List ℕ} {f : Facts} {w o : List ℕ} {a : Counts} {limit : ℕ} → Rooted g.nodes ss blocks part f.blocks → f.blocks ≡ 0 → Ready g w a
    → WalksAll g ss blocks f limit w o a (record { stop = NoBlocks; at = a }) w o
walks_none {limit = limit} all z r = record {
  runs = λ P told. acts (λ x h. walk_none P x.env limit (no_blocks P.blocks (block_missing all P told 0 (omega arith)))) (done_runs (λ x. statements.NoBlocks) (λ x h. refl) r);
}

-- the walk from what was handed over is the walk from the registers
module _ {w₀ : List ℕ} {h : How} {a₀ : Counts} {w₁ : List ℕ} (en : Enters w₀ h a₀ w₁) where
  pub enters_rooted : {nodes ss blocks : List ℕ} {count : ℕ} → Rooted nodes ss blocks (blocks_part (tables w₀)) count → Rooted nodes ss blocks (blocks_part (tables w₁)) count
  enters_rooted {nodes} {ss} {blocks} {count} all = subst (λ (t : List ℕ). Rooted nodes ss blocks (blocks_part t) count) (sym en.aside.tables) all

  pub enters_balanced : Balanced a₀.tally → Balanced (counts_in w₁).tally
  enters_balanced b = subst (λ (c : Counts). Balanced c.tally) (sym en.counts) b

  pub walks_all : {nodes symbols regions ss blocks part : List ℕ} {f : Facts} {o₀ w o : List ℕ} {stop : Stop} {a : Counts} → Rooted nodes ss blocks part f.blocks → (f.blocks ≡ 0 → ⊥)
      → WalksFrom (given nodes symbols regions (how_in w₁)) ss blocks f w₁ o₀ stop w o → a ≡ counts_in w
      → WalksAll (given nodes symbols regions h) ss blocks f a₀.tally.left w₀ o₀ a₀ (record { stop = stop; at = a }) w o
  walks_all {nodes} {symbols} {regions} {o₀ = o₀} {w = w} {o = o} {stop = stop} all ne s is = record {
    runs = λ P t.
        acts (λ x m. walk_some P x.env a₀.tally.left (block_found_at all P t 0 (omega arith)) ∙ ap (λ (c : Counts). walk_on P x.env a₀.tally.left c.tally.left (walk.before 0)) (sym en.counts))
        (told refl is
        (enters_before en
        (subst (λ (z : How). Runs (given nodes symbols regions z) (λ x. walk_on P x.env a₀.tally.left (counts_in w₁).tally.left (walk.before 0)) w₁ o₀ (counts_in w₁) (stop_end a₀.tally.left stop) w o (counts_in w))
        en.how (s.runs P t a₀.tally.left))));
  }
