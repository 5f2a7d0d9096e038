-- Each root that an accepted routine names, as `program_of` reads it: the node body spells its tree. Assumes nothing.
use mathlib.Core.Path.{◌≡◌, refl, sym, ap, subst, ◌∙◌}
use mathlib.Core.Bool.{Bool, true, false, ◌&&◌}
use mathlib.Core.List.{List, [], ◌∷◌}
use Prim.Native.Nat.{ℕ, zero, suc, ◌+◌, ◌-◌, ◌/◌, ◌≤◌}
use native.Mathlib.Omega.{arith}
use borrow.Author.Tests.{leb-true, ltb-true}
use lib.Dec.{leb, ltb}
use lib.ListN.{length, get_or}
use Rattle.layout.specs.Each.{Each}
use Rattle.layout.specs.Number.{number_at}
use Rattle.files.specs.FileTable.{body}
use Rattle.files.specs.Items.{read_from}
use Rattle.files.specs.Nodes.{root_ok}
use Rattle.files.specs.Blocks.{statements_ok, cases_of, block_ok, block_items, blocks_in}
use Rattle.files.specs.Blocks as blocks
use Rattle.files.specs.Refusal.{routine_refusal}
use Rattle.files.specs.Program.{Node, Tree, place, tree_at, Statement, Terminator, returns, goto, branch, switch, Block, listed, statement_at, terminator_of, block_at, blocks_from, program_of}
use Rattle.files.specs.Spells.{At, node_at, Accepted}
use Rattle.files.proofs.BoolLaws.{each_true, only_there}
use Rattle.files.proofs.ItemLaws.{refused, goes}
use Rattle.files.proofs.Spelled.{fine_at}
use Rattle.files.proofs.Accepted.{routine, root_fine, statement_root, block_root}

-- the body spells a tree at the node that the tree tells
abbrev pub Spelt : List ℕ → Tree → Type 0
Spelt nodes t = At nodes (place t) t

abbrev pub EndSpelt : List ℕ → Terminator → Type 0
EndSpelt nodes returns = Unit
EndSpelt nodes (goto target) = Unit
EndSpelt nodes (branch address root taken next) = Spelt nodes root
EndSpelt nodes (switch address root cases) = Spelt nodes root

pub record BlockSpelt (nodes : List ℕ) (k : Block) : Type 0 where
  pub statements : Each (λ (s : Statement). Spelt nodes s.root) k.statements
  pub end : EndSpelt nodes k.terminator

place_is : {b : List ℕ} {n : ℕ} {t : Tree} → At b n t → place t ≡ n
place_is (node_at i d ks) = ap (λ (y : Node). y.place) d

module _ {b : List ℕ} {names types : ℕ} (a : Accepted b names types) where
  -- the tree at a root that 7 accepts
  pub root_spelt : (n : ℕ) → root_ok b n ≡ true → Spelt b (tree_at b n)
  root_spelt n h = let t = fine_at (root_fine a n h) in subst (λ (x : ℕ). At b x (tree_at b n)) (sym (place_is t)) t

-- ---- a block that the checks pass

pub record Dealt (nodes b : List ℕ) (left i : ℕ) : Type 0 where
  pub good : block_ok nodes b i ≡ true
  pub few : number_at b i 2 ≤ left
  pub size : blocks.block_at nodes b left i ≡ cases_of (get_or b (i + 2) 0) (number_at b (i + 16) 4) + 24

pub block_dealt : (nodes b : List ℕ) (left i : ℕ) → (blocks.block_at nodes b left i ≡ 0 → ⊥) → Dealt nodes b left i
unfolding blocks.block_at
block_dealt nodes b left i h =
    let k = cases_of (get_or b (i + 2) 0) (number_at b (i + 16) 4) in
    let t = leb 24 (length b - i) && leb (number_at b i 2) left && block_ok nodes b i && leb k (length b - (i + 24)) in
    let o = only_there t (k + 24) h in
    let e = each_true (leb 24 (length b - i)) (leb (number_at b i 2) left ∷ block_ok nodes b i ∷ leb k (length b - (i + 24)) ∷ []) o.0 in
    record { good = e.1.1.0; few = leb-true _ _ e.1.0; size = o.1 }

-- ---- blocks

module _ {nodes : List ℕ} {names types : ℕ} (a : Accepted nodes names types) (statements b : List ℕ) (stated : statements_ok nodes statements ≡ true) where
  listed_spelt : (k n : ℕ) → k + n ≤ length statements / 13 → Each (λ (s : Statement). Spelt nodes s.root) (listed (statement_at nodes statements) k n)
  unfolding listed
  listed_spelt k zero l = tt
  listed_spelt k (suc n) l = (root_spelt a _ (statement_root nodes statements stated k (omega arith)), listed_spelt (suc k) n (omega arith))

  end_spelt : (i kind : ℕ) → kind ≡ get_or b (i + 2) 0 → block_ok nodes b i ≡ true → EndSpelt nodes (terminator_of nodes b i kind)
  end_spelt i zero e g = tt
  end_spelt i (suc zero) e g = tt
  end_spelt i (suc (suc zero)) e g = root_spelt a _ (block_root nodes b i g (omega arith))
  end_spelt i (suc (suc (suc k))) e g = root_spelt a _ (block_root nodes b i g (omega arith))

  size : ℕ → ℕ
  size i = cases_of (get_or b (i + 2) 0) (number_at b (i + 16) 4) + 24

  some : (i : ℕ) → size i ≡ 0 → ⊥
  unfolding size
  some i q = omega arith

  sized : (left i : ℕ) → Dealt nodes b left i → blocks.block_at nodes b left i ≡ size i
  unfolding size
  sized left i d = d.size

  abbrev if : Bool → List Block → List Block
  if true l = l
  if false l = []

  blocks_turn : (f i k : ℕ) → blocks_from (suc f) nodes statements b i k ≡ if (ltb i (length b)) (block_at nodes statements b i k ∷ blocks_from f nodes statements b (i + size i) (k + number_at b i 2))
  unfolding blocks_from size
  blocks_turn f i k = go (ltb i (length b))
    where
      go : (t : Bool)
          → ◌≡◌ {A = List Block} (elim t [ true ↦ block_at nodes statements b i k ∷ blocks_from f nodes statements b (i + (cases_of (get_or b (i + 2) 0) (number_at b (i + 16) 4) + 24)) (k + number_at b i 2) | false ↦ [] ])
          (if t (block_at nodes statements b i k ∷ blocks_from f nodes statements b (i + (cases_of (get_or b (i + 2) 0) (number_at b (i + 16) 4) + 24)) (k + number_at b i 2)))
      go true = refl
      go false = refl

  no_block : (i k : ℕ) → blocks_from zero nodes statements b i k ≡ []
  unfolding blocks_from
  no_block i k = refl

  -- from a place where k statements are dealt and `left` are not
  blocks_spelt : (f left i k : ℕ) → k + left ≡ length statements / 13 → (read_from (block_items nodes b) (length b) left i ≡ 0 → ⊥)
      → Each (BlockSpelt nodes) (blocks_from f nodes statements b i k)
  blocks_spelt zero left i k s h = subst (Each (BlockSpelt nodes)) (sym (no_block i k)) tt
  blocks_spelt (suc f) left i k s h = subst (Each (BlockSpelt nodes)) (sym (blocks_turn f i k)) (go (ltb i (length b)) refl (blocks_spelt f (left - number_at b i 2) (i + size i) (k + number_at b i 2)))
    where
      go : (t : Bool) → ltb i (length b) ≡ t
          → (k + number_at b i 2 + (left - number_at b i 2) ≡ length statements / 13 → (read_from (block_items nodes b) (length b) (left - number_at b i 2) (i + size i) ≡ 0 → ⊥)
          → Each (BlockSpelt nodes) (blocks_from f nodes statements b (i + size i) (k + number_at b i 2)))
          → Each (BlockSpelt nodes) (if t (block_at nodes statements b i k ∷ blocks_from f nodes statements b (i + size i) (k + number_at b i 2)))
      go false e ih = tt
      go true e ih =
          let l = ltb-true i (length b) e in
          let z : blocks.block_at nodes b left i ≡ 0 → ⊥ = λ q. h (refused (block_items nodes b) (length b) left i l q) in
          let d = block_dealt nodes b left i z in (
            record { statements = listed_spelt k (number_at b i 2) (omega (arith, d.few)); end = end_spelt i (get_or b (i + 2) 0) refl d.good },
            ih (omega (arith, d.few))
                (λ q. h (goes (block_items nodes b) (length b) left i (size i) l (sized left i d) (some i) ∙ q)),
          )

-- each block of an accepted routine: a tree is spelled at each root of its statements, and at its terminator's
pub program_spelt : (r : List ℕ) → routine_refusal r ≡ 0 → Each (BlockSpelt (body r 3)) (program_of r).blocks
unfolding program_of blocks_in
program_spelt r h =
    let b = (routine r h).bodies in
    let n = length (body r 4) / 13 in
    blocks_spelt b.spelled (body r 4) (body r 5) b.stated (length (body r 5)) n 0 0 (omega arith)
    (λ q. omega (arith, q, leb-true 1 (read_from (block_items (body r 3) (body r 5)) (length (body r 5)) n 0) b.blocked))
