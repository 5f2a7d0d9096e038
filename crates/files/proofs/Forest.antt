-- From an accepted node body: at each node stands a tree that the bytes spell, with as many children as its kind has, each placed as it must be,
-- and no chain of more than 64 nodes. Assumes nothing.
use mathlib.Core.Path.{◌≡◌, refl, sym, ap, subst, ◌∙◌}
use mathlib.Core.Bool.{Bool, true, false}
use mathlib.Core.List.{List, [], ◌∷◌}
use Prim.Native.Nat.{ℕ, zero, suc, ◌+◌, ◌-◌, ◌*◌, ◌/◌, ◌%◌, ◌≤◌, ◌<◌}
use native.Mathlib.Nat.{not-suc-le-zero, max-le}
use native.Mathlib.Omega.{arith}
use borrow.Author.Tests.{leb-true, leb-false, ltb-true, ltb-false}
use lib.Dec.{leb, ltb, eqb}
use lib.ListN.{length}
use Rattle.files.specs.Nodes.{kind_of, span_of, node_ok, count_ok, trees_from, trees, trees_ok, rule_of, top}
use Rattle.files.specs.Program.{tree, Trees, nil, cons, node_of}
use Rattle.files.specs.Spells.{Inside, node_at, KidsAt, no_kid, a_kid, size, heights, Under, under_none, under_some}
use Rattle.std.proofs.lemmas.Bool.{and_parts}
use Rattle.files.proofs.BoolLaws.{each_true}
use Rattle.files.proofs.TreeLaws.{Placed, node_placed, turn, one_turn}

-- the trees side by side from n up to e, k of them, with no numbers in the way
data Forest (b : List ℕ) : ℕ → ℕ → ℕ → ℕ → ℕ → Type 0 where
  bare : {d p n e : ℕ} → n ≡ e → Forest b d p n e 0
  grown : {d p n e j k : ℕ} → n < e → Placed b d p n e → (rule_of (kind_of b n)).few ≤ j → j ≤ (rule_of (kind_of b n)).many
      → Forest b (d - 1) (kind_of b n) (n + 1) (n + span_of b n) j → Forest b d p (n + span_of b n) e k → Forest b d p n e (suc k)

-- what an answer that is no 0 says
record Grown (b : List ℕ) (d p n e c r : ℕ) : Type 0 where
  k : ℕ
  sum : r ≡ c + k
  forest : Forest b d p n e k

-- a number from 1 on is one more than another
record Pred (x : ℕ) : Type 0 where
  y : ℕ
  is : x ≡ suc y

pred_of : (x : ℕ) → 1 ≤ x → Pred x
pred_of zero h = absurd (not-suc-le-zero h)
pred_of (suc x) h = record { y = x; is = refl }

-- a turn that comes to more than 0
data Turned (x y z : Bool) (c rest r : ℕ) : Type 0 where
  over : x ≡ true → c + 1 ≡ suc r → Turned x y z c rest r
  onward : x ≡ false → y ≡ true → z ≡ true → rest ≡ suc r → Turned x y z c rest r

turned : (x y z : Bool) (c rest r : ℕ) → turn x y z c rest ≡ suc r → Turned x y z c rest r
turned true y z c rest r h = over refl h
turned false true true c rest r h = onward refl refl refl h
turned false true false c rest r h = absurd (omega arith)
turned false false z c rest r h = absurd (omega arith)

-- how many children the count that a kind accepts tells of
record Counted (k c : ℕ) : Type 0 where
  some : 1 ≤ c
  few : (rule_of k).few ≤ c - 1
  many : c - 1 ≤ (rule_of k).many

counted : (k c : ℕ) → count_ok k c ≡ true → Counted k c
counted k c h =
    let t = each_true (leb 1 c) (leb (rule_of k).few (c - 1) ∷ leb (c - 1) (rule_of k).many ∷ []) h in
    record { some = leb-true _ _ t.0; few = leb-true _ _ t.1.0; many = leb-true _ _ t.1.1.0 }

module _ (b : List ℕ) where
  none_left : (d p n e c r : ℕ) → trees_from zero b d p n e c ≡ suc r → ⊥
  unfolding trees_from
  none_left d p n e c r h = omega arith

  grow : (f d p n e c r : ℕ) → n ≤ e → trees_from f b d p n e c ≡ suc r → Grown b d p n e c r
  grow zero d p n e c r l h = absurd (none_left d p n e c r h)
  grow (suc f) d p n e c r l h =
      go (turned (leb e n) (node_ok b d p n e) (count_ok (kind_of b n) kids) c (trees_from f b d p (n + span_of b n) e (c + 1)) r (sym (one_turn b f d p n e c) ∙ h))
      (λ s. grow f (d - 1) (kind_of b n) (n + 1) (n + span_of b n) 0 s) (grow f d p (n + span_of b n) e (c + 1) r)
    where
      kids : ℕ
      kids = trees_from f b (d - 1) (kind_of b n) (n + 1) (n + span_of b n) 0

      go : Turned (leb e n) (node_ok b d p n e) (count_ok (kind_of b n) kids) c (trees_from f b d p (n + span_of b n) e (c + 1)) r
          → ((s : ℕ) → n + 1 ≤ n + span_of b n → kids ≡ suc s → Grown b (d - 1) (kind_of b n) (n + 1) (n + span_of b n) 0 s)
          → (n + span_of b n ≤ e → trees_from f b d p (n + span_of b n) e (c + 1) ≡ suc r → Grown b d p (n + span_of b n) e (c + 1) r)
          → Grown b d p n e c r
      go (over x s) below beside = record { k = 0; sum = omega arith; forest = let z : n ≡ e = omega (arith, leb-true e n x) in bare z }
      go (onward x y z s) below beside =
          let m = node_placed b d p n e y in
          let u = counted (kind_of b n) kids z in
          let w = pred_of kids u.some in
          let under = below w.y (omega (arith, m.some)) w.is in
          let after = beside (omega (arith, m.fits, leb-false e n x)) s in
          let few : (rule_of (kind_of b n)).few ≤ under.k = omega (arith, u.few, w.is, under.sum) in
          let many : under.k ≤ (rule_of (kind_of b n)).many = omega (arith, u.many, w.is, under.sum) in
          record { k = suc after.k; sum = omega (arith, after.sum); forest = grown (leb-false e n x) m few many under.forest after.forest }

-- what stands at a node of a forest
record Grows (b : List ℕ) (m c most : ℕ) : Type 0 where
  depth : ℕ
  parent : ℕ
  end : ℕ
  kids : ℕ
  within : end ≤ c
  shallow : depth ≤ most
  node : Placed b depth parent m end
  few : (rule_of (kind_of b m)).few ≤ kids
  many : kids ≤ (rule_of (kind_of b m)).many
  forest : Forest b (depth - 1) (kind_of b m) (m + 1) (m + span_of b m) kids

grows : {b : List ℕ} {d p n e k : ℕ} (c most : ℕ) → Forest b d p n e k → e ≤ c → d ≤ most → (m : ℕ) → n ≤ m → m < e → Grows b m c most
grows c most (bare q) l s m h g = absurd (omega arith)
grows {b} c most (grown {d} {p} {n} {e} {j} {k} l₁ nd fw mn kids rest) l s m h g =
    go (ltb n m) refl (ltb m (n + span_of b n)) refl (grows c most kids (omega (arith, nd.fits)) (omega arith) m) (grows c most rest l s m)
  where
    go : (t : Bool) → ltb n m ≡ t → (u : Bool) → ltb m (n + span_of b n) ≡ u → (n + 1 ≤ m → m < n + span_of b n → Grows b m c most) → (n + span_of b n ≤ m → m < e → Grows b m c most)
        → Grows b m c most
    go true q true r below beside = below (omega (arith, ltb-true n m q)) (ltb-true _ _ r)
    go true q false r below beside = beside (ltb-false _ _ r) g
    go false q u r below beside =
        let e₁ : n ≡ m = omega (arith, ltb-false n m q) in
        subst (λ (x : ℕ). Grows b x c most) e₁
        (record { depth = d; parent = p; end = e; kids = j; within = l; shallow = s; node = nd; few = fw; many = mn; forest = kids })

-- ---- from a forest to trees

-- k trees from n up to e
record Row (b : List ℕ) (d p n e k : ℕ) : Type 0 where
  row : Trees
  spells : KidsAt b n e row
  counts : size row ≡ k
  high : heights row ≤ d
  placed : Under p row

module _ (b : List ℕ) (c : ℕ) (room : c * 20 ≤ length b) where
  inside : (d p n e : ℕ) → Placed b d p n e → n < e → e ≤ c → Inside b n
  inside d p n e nd l h = record { some = nd.some; fits = omega (arith, nd.fits) }

  planted : {d p n e k : ℕ} → Forest b d p n e k → e ≤ c → Row b d p n e k
  unfolding size heights
  planted {d} {p} {n} {e} (bare q) h = record { row = nil; spells = no_kid q; counts = refl; high = omega arith; placed = under_none }
  planted (grown {d} {p} {n} {e} {j} {k} l nd fw mn kids rest) h =
      let under = planted kids (omega (arith, nd.fits)) in
      let beside = planted rest h in
      let fits : n + span_of b n ≤ e = omega (arith, nd.fits) in
      let up : suc (heights under.row) ≤ d = omega (arith, under.high, nd.deep) in
      record {
        row = cons (tree (node_of b n) under.row) beside.row;
        spells = a_kid fits (node_at (inside d p n e nd l h) refl under.spells) beside.spells;
        counts = ap suc beside.counts;
        high = max-le up beside.high;
        placed = under_some nd.placed beside.placed;
      }

-- what stands at a node of an accepted body
pub record Stands (b : List ℕ) (n : ℕ) : Type 0 where
  pub inside : Inside b n
  pub kids : Trees
  pub spells : KidsAt b (n + 1) (n + span_of b n) kids
  pub few : (rule_of (kind_of b n)).few ≤ size kids
  pub many : size kids ≤ (rule_of (kind_of b n)).many
  pub placed : Under (kind_of b n) kids
  pub high : heights kids < 64

pub stands : (b : List ℕ) → trees_ok b ≡ true → (n : ℕ) → n < length b / 20 → Stands b n
unfolding trees_ok trees
stands b h n l =
    let c = length b / 20 in
    let t = and_parts (eqb (length b % 20) 0) (leb 1 (trees_from (suc (length b)) b 64 top 0 c 0)) h in
    let p = pred_of (trees_from (suc (length b)) b 64 top 0 c 0) (leb-true _ _ t.1) in
    let w = grow b (suc (length b)) 64 top 0 c 0 p.y (omega arith) p.is in
    let g = grows c 64 w.forest (omega arith) (omega arith) n (omega arith) l in
    let r = planted b c (omega arith) g.forest (omega (arith, g.node.fits, g.within, l)) in
    record {
      inside = record { some = g.node.some; fits = omega (arith, g.node.fits, g.within, l) };
      kids = r.row;
      spells = r.spells;
      few = omega (arith, g.few, r.counts);
      many = omega (arith, g.many, r.counts);
      placed = r.placed;
      high = omega (arith, r.high, g.node.deep, g.shallow);
    }
