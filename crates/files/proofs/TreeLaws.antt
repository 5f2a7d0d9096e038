-- What the tests of the trees show. Assumes nothing.
use mathlib.Core.Path.{◌≡◌, refl, sym, ap₂, ◌∙◌}
use mathlib.Core.Bool.{Bool, true, false, and-false}
use mathlib.Core.List.{List, [], ◌∷◌}
use Prim.Native.Nat.{ℕ, zero, suc, ◌+◌, ◌-◌, ◌*◌, ◌≤◌, ◌<◌}
use native.Mathlib.Nat.{not-suc-le-zero}
use native.Mathlib.Omega.{arith}
use borrow.Author.Tests.{le-leb, lt-leb, leb-true, leb-false}
use lib.Dec.{leb, eqb}
use lib.ListN.{length}
use Rattle.files.specs.Nodes.{kind_of, span_of, node_ok, placed_ok, count_ok, trees_from, trees}
use Rattle.files.proofs.BoolLaws.{each_true}

-- what a node that is as it must be has
pub record Placed (b : List ℕ) (depth parent n e : ℕ) : Type 0 where
  pub deep : 1 ≤ depth
  pub some : 1 ≤ span_of b n
  pub fits : span_of b n ≤ e - n
  pub placed : placed_ok (kind_of b n) parent ≡ true

pub node_placed : (b : List ℕ) (depth parent n e : ℕ) → node_ok b depth parent n e ≡ true → Placed b depth parent n e
node_placed b depth parent n e h =
    let t = each_true (leb 1 depth) (leb 1 (span_of b n) ∷ leb (span_of b n) (e - n) ∷ placed_ok (kind_of b n) parent ∷ []) h in
    record { deep = leb-true _ _ t.0; some = leb-true _ _ t.1.0; fits = leb-true _ _ t.1.1.0; placed = t.1.1.1.0 }

-- one turn: whether the list of trees ends, whether the first is placed, whether its children's number is right; the number where all do
abbrev pub turn : Bool → Bool → Bool → ℕ → ℕ → ℕ
turn true placed counted c rest = c + 1
turn false true true c rest = rest
turn false true false c rest = 0
turn false false counted c rest = 0

module _ (b : List ℕ) where
  pub one_turn : (f depth parent n e c : ℕ)
      → trees_from (suc f) b depth parent n e c
      ≡ turn (leb e n) (node_ok b depth parent n e) (count_ok (kind_of b n) (trees_from f b (depth - 1) (kind_of b n) (n + 1) (n + span_of b n) 0)) c (trees_from f b depth parent (n + span_of b n) e (c + 1))
  unfolding trees_from
  one_turn f depth parent n e c =
      go (leb e n) (node_ok b depth parent n e) (count_ok (kind_of b n) (trees_from f b (depth - 1) (kind_of b n) (n + 1) (n + span_of b n) 0))
    where
      go : (x y z : Bool)
          → ◌≡◌ {A = ℕ} (elim x [ true ↦ c + 1 | false ↦ elim y [ true ↦ elim z [ true ↦ trees_from f b depth parent (n + span_of b n) e (c + 1) | false ↦ 0 ] | false ↦ 0 ] ])
          (turn x y z c (trees_from f b depth parent (n + span_of b n) e (c + 1)))
      go true y z = refl
      go false true true = refl
      go false true false = refl
      go false false z = refl

  turn_same : (x y : Bool) (k c p q r s : ℕ) → (x ≡ false → y ≡ true → p ≡ q) → (x ≡ false → y ≡ true → r ≡ s) → turn x y (count_ok k p) c r ≡ turn x y (count_ok k q) c s
  turn_same true y k c p q r s f g = refl
  turn_same false true k c p q r s f g = ap₂ (λ (i j : ℕ). turn false true (count_ok k i) c j) (f refl refl) (g refl refl)
  turn_same false false k c p q r s f g = refl

  -- enough is enough
  more : (f depth parent n e c : ℕ) → e - n < f → trees_from (suc f) b depth parent n e c ≡ trees_from f b depth parent n e c
  more zero depth parent n e c h = absurd (not-suc-le-zero h)
  more (suc f) depth parent n e c h =
      one_turn (suc f) depth parent n e c
      ∙ turn_same (leb e n) (node_ok b depth parent n e) (kind_of b n) c _ _ _ _
      (λ p q. let r = node_placed b depth parent n e q in more f (depth - 1) (kind_of b n) (n + 1) (n + span_of b n) 0 (omega arith))
      (λ p q. let r = node_placed b depth parent n e q in more f depth parent (n + span_of b n) e (c + 1) (omega (arith, leb-false e n p)))
      ∙ sym (one_turn f depth parent n e c)

  -- of a parent it is asked no more than whether it is a StructInit
  same_parent_from : (f depth p q n e c : ℕ) → eqb p 17 ≡ eqb q 17 → trees_from f b depth p n e c ≡ trees_from f b depth q n e c
  unfolding trees_from
  same_parent_from zero depth p q n e c h = refl
  same_parent_from (suc f) depth p q n e c h =
      let placed : node_ok b depth p n e ≡ node_ok b depth q n e = rw h in
      one_turn f depth p n e c
      ∙ ap₂ (λ (y : Bool) (r : ℕ). turn (leb e n) y (count_ok (kind_of b n) (trees_from f b (depth - 1) (kind_of b n) (n + 1) (n + span_of b n) 0)) c r) placed (same_parent_from f depth p q (n + span_of b n) e (c + 1) h)
      ∙ sym (one_turn f depth q n e c)

  pub same_parent : (depth p q n e c : ℕ) → eqb p 17 ≡ eqb q 17 → trees b depth p n e c ≡ trees b depth q n e c
  unfolding trees
  same_parent depth p q n e c h = same_parent_from (suc (length b)) depth p q n e c h

-- all are read
module _ (b : List ℕ) (depth parent n e c : ℕ) where
  pub trees_end : e ≤ n → trees b depth parent n e c ≡ c + 1
  unfolding trees
  trees_end l = rw (one_turn b (length b) depth parent n e c, le-leb e n l)

-- at a place of a loop: the answer a is what the trees from there on give
module _ (b : List ℕ) (depth parent n e c a : ℕ) (h : a ≡ trees b depth parent n e c) where
  -- where the first tree's node is not as it must be
  unplaced : n < e → node_ok b depth parent n e ≡ false → 0 ≡ a
  unfolding trees
  unplaced l z = sym (h ∙ rw (one_turn b (length b) depth parent n e c, lt-leb e n l, z))

  module _ (s : ℕ) (es : s ≡ span_of b n) where
    module _ (k : ℕ) (ek : k ≡ kind_of b n) where
      pub trees_odd : n < e → (t : Bool) → t ≡ placed_ok k parent → t ≡ false → 0 ≡ a
      trees_odd l t et g = unplaced l (simp (← ek, ← et, g, and-false))

      module _ (l : n < e) (fits : e * 20 ≤ length b) (d : 1 ≤ depth) (s₁ : 1 ≤ s) (s₂ : s ≤ e - n) (p : Bool) (ep : p ≡ placed_ok k parent) (f : p ≡ true)
          (j : ℕ) (ej : j ≡ trees b (depth - 1) k (n + 1) (n + s) 0) (t : Bool) (et : t ≡ count_ok k j) where
        kids_same : trees_from (length b) b (depth - 1) k (n + 1) (n + s) 0 ≡ j
        unfolding trees
        kids_same = sym (more b (length b) (depth - 1) k (n + 1) (n + s) 0 (omega arith)) ∙ sym ej

        goes : a ≡ turn false true t c (trees_from (length b) b depth parent (n + s) e (c + 1))
        unfolding trees
        goes = h ∙ one_turn b (length b) depth parent n e c
            ∙ simp (lt-leb e n l, ← ek, ← es, kids_same, ← et, ← ep, f, le-leb _ _ d, le-leb _ _ s₁, le-leb _ _ s₂)

        pub trees_uncounted : t ≡ false → 0 ≡ a
        trees_uncounted g = sym (goes ∙ simp g)

        pub trees_on : t ≡ true → a ≡ trees b depth parent (n + s) e (c + 1)
        unfolding trees
        trees_on g = goes ∙ simp g (sym (more b (length b) depth parent (n + s) e (c + 1) (omega arith)))

-- the first one is refused at once
module _ (b : List ℕ) (depth parent n e c : ℕ) where
  pub trees_deep : n < e → depth < 1 → trees b depth parent n e c ≡ 0
  trees_deep l d = sym (unplaced b depth parent n e c _ refl l (simp (lt-leb _ _ d)))

  pub trees_empty : n < e → span_of b n < 1 → trees b depth parent n e c ≡ 0
  trees_empty l d = sym (unplaced b depth parent n e c _ refl l (simp (lt-leb _ _ d, and-false)))

  pub trees_long : n < e → e - n < span_of b n → trees b depth parent n e c ≡ 0
  trees_long l d = sym (unplaced b depth parent n e c _ refl l (simp (lt-leb _ _ d, and-false)))

-- a node that is its whole span has no children that could be wrong
pub no_kids : (b : List ℕ) (depth parent n s j : ℕ) → s ≤ 1 → j ≡ 1 → j ≡ trees b depth parent (n + 1) (n + s) 0
no_kids b depth parent n s j l e = e ∙ sym (trees_end b depth parent (n + 1) (n + s) 0 (omega arith))
