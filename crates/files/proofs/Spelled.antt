-- The tree that a node body spells at a node is the one that `tree_at` reads there, and so there is one only. Assumes nothing.
use mathlib.Core.Path.{◌≡◌, refl, sym, ap, ap₂, subst, ◌∙◌}
use mathlib.Core.Bool.{Bool, true, false}
use mathlib.Core.List.{List}
use Prim.Native.Nat.{ℕ, zero, suc, ◌+◌, ◌-◌, ◌*◌, ◌≤◌}
use native.Mathlib.Omega.{arith}
use lib.ListN.{length}
use lib.Dec.{ltb}
use borrow.Author.Tests.{lt-ltb, le-ltb}
use Rattle.files.specs.Nodes.{span_of}
use Rattle.files.specs.Program.{Tree, tree, Trees, nil, cons, tree_from, trees_from, tree_at}
use Rattle.files.specs.Spells.{At, node_at, KidsAt, no_kid, a_kid, Fine}

abbrev choose : Tree → Trees → Bool → Trees
choose t ts true = cons t ts
choose t ts false = nil

module _ (b : List ℕ) where
  kids_step : (f n e : ℕ) → trees_from (suc f) b n e ≡ choose (tree_from f b n) (trees_from f b (n + span_of b n) e) (ltb n e)
  unfolding trees_from
  kids_step f n e = go (ltb n e)
    where
      go : (x : Bool) → ◌≡◌ {A = Trees} (elim x [ true ↦ cons (tree_from f b n) (trees_from f b (n + span_of b n) e) | false ↦ nil ]) (choose (tree_from f b n) (trees_from f b (n + span_of b n) e) x)
      go true = refl
      go false = refl

  span_some : {n : ℕ} {t : Tree} → At b n t → 1 ≤ span_of b n
  span_some (node_at i d ks) = i.some

  mutual
    unfolding tree_from

    tree_spelled : {n : ℕ} {t : Tree} → At b n t → (f : ℕ) → 2 * span_of b n ≤ f → tree_from f b n ≡ t
    tree_spelled (node_at i d ks) zero h = absurd (omega (arith, i.some))
    tree_spelled (node_at i d ks) (suc f) h = ap₂ tree (sym d) (kids_spelled ks f (omega (arith, i.some)))

    kids_spelled : {n e : ℕ} {ts : Trees} → KidsAt b n e ts → (f : ℕ) → 2 * (e - n) + 1 ≤ f → trees_from f b n e ≡ ts
    kids_spelled (no_kid same) zero h = refl
    kids_spelled (no_kid {n} {e} same) (suc f) h =
        kids_step f n e ∙ ap (choose (tree_from f b n) (trees_from f b (n + span_of b n) e)) (le-ltb n e (omega arith))
    kids_spelled (a_kid {n} {e} l a ks) zero h = absurd (omega arith)
    kids_spelled (a_kid {n} {e} l a ks) (suc f) h =
        let s : 1 ≤ span_of b n = span_some a in
        kids_step f n e
        ∙ ap (choose (tree_from f b n) (trees_from f b (n + span_of b n) e)) (lt-ltb n e (omega arith))
        ∙ ap₂ cons (tree_spelled a f (omega arith)) (kids_spelled ks f (omega arith))

  pub spelled : {n : ℕ} {t : Tree} → At b n t → tree_at b n ≡ t
  unfolding tree_at
  spelled (node_at i d ks) = tree_spelled (node_at i d ks) (length b) (omega (arith, i.fits))

  -- one tree only
  pub spelled_once : {n : ℕ} {t u : Tree} → At b n t → At b n u → t ≡ u
  spelled_once a c = sym (spelled a) ∙ spelled c

-- where some tree is spelled, the one that `tree_at` reads is
pub fine_at : {b : List ℕ} {n : ℕ} → Fine b n → At b n (tree_at b n)
fine_at {b} {n} f = subst (At b n) (sym (spelled b f.spells)) f.spells
