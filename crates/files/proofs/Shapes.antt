-- What an evaluator at a node of an accepted body asks: how many children it has and where they stand, over `At b n t`, and what its fields can be.
-- Assumes nothing.
use mathlib.Core.Path.{◌≡◌, refl, subst, ◌∙◌}
use mathlib.Core.Bool.{Bool, true, false, not, ◌&&◌, ◌||◌, false≢true}
use mathlib.Core.List.{List, [], ◌∷◌}
use Prim.Native.Nat.{ℕ, ◌+◌, ◌*◌, ◌/◌, ◌≤◌, ◌<◌}
use native.Mathlib.Omega.{arith}
use borrow.Author.Tests.{leb-true, ltb-true, eqb-true, ne_eqb}
use lib.Dec.{leb, ltb, eqb}
use lib.ListN.{length}
use Rattle.files.specs.Nodes.{kind_of, flag_of, ref_of, width_of, value_of, placed_ok, rule_of, ref_below, field_ok, fields_ok}
use Rattle.files.specs.Program.{Node, Tree, tree, Trees, cons, node_of}
use Rattle.files.specs.Spells.{Inside, next, At, node_at, KidsAt, no_kid, a_kid, Accepted, size, Under, under_some}
use Rattle.files.proofs.BoolLaws.{each_true}
use Rattle.files.proofs.ItemLaws.{every_at}
use Rattle.files.proofs.Spelled.{spelled_once}
use Rattle.files.proofs.Forest.{Stands, stands}

-- ---- a node at which a tree is spelled

pub at_inside : {b : List ℕ} {n : ℕ} {t : Tree} → At b n t → Inside b n
at_inside (node_at i d ks) = i

-- its fields can be read
pub at_room : {b : List ℕ} {n : ℕ} {t : Tree} → At b n t → n * 20 + 20 ≤ length b
at_room a = let i = at_inside a in omega (arith, i.some, i.fits)

pub at_node : {b : List ℕ} {n : ℕ} {t : Tree} → At b n t → n < length b / 20
at_node a = omega (arith, at_room a)

-- ---- where a child may stand

-- what a child is placed under tells whether it is a field
pub under_next : {b : List ℕ} {p n : ℕ} {t : Tree} {ts us : Trees} → At b n t → us ≡ cons t ts → Under p us → (placed_ok (kind_of b n) p ≡ true) × Under p ts
under_next {b} {p} {n} {t} {ts} at e u = go at (subst (Under p) e u)
  where
    go : {x : Tree} → At b n x → Under p (cons x ts) → (placed_ok (kind_of b n) p ≡ true) × Under p ts
    go (node_at i d ks) (under_some q v) = (subst (λ (y : Node). placed_ok y.kind p ≡ true) d q, v)

pub placed_field : (k p : ℕ) → placed_ok k p ≡ true → p ≡ 17 → k ≡ 18
placed_field k p h q = go (eqb k 18) refl (rw (q, eqb k 18) at h)
  where
    go : (x : Bool) → eqb k 18 ≡ x → ((x && true) || (not x && false)) ≡ true → k ≡ 18
    go true e g = eqb-true k 18 e
    go false e g = eqb-true k 18 (e ∙ g)

pub placed_other : (k p : ℕ) → placed_ok k p ≡ true → (p ≡ 17 → ⊥) → k ≡ 18 → ⊥
placed_other k p h f q = false≢true (rw (q, ne_eqb p 17 f) at h)

-- ---- the shapes

pub record AnyKids (b : List ℕ) (n : ℕ) (t : Tree) : Type 0 where
  pub kids : Trees
  pub is : t ≡ tree (node_of b n) kids
  pub at : KidsAt b (n + 1) (next b n) kids
  pub few : (rule_of (kind_of b n)).few ≤ size kids
  pub many : size kids ≤ (rule_of (kind_of b n)).many
  pub placed : Under (kind_of b n) kids

-- a callee, then up to 16 arguments
pub record CallKids (b : List ℕ) (n : ℕ) (t : Tree) : Type 0 where
  pub callee : Tree
  pub arguments : Trees
  pub is : t ≡ tree (node_of b n) (cons callee arguments)
  pub at_callee : At b (n + 1) callee
  pub at_arguments : KidsAt b (next b (n + 1)) (next b n) arguments
  pub few : size arguments ≤ 16

module _ {b : List ℕ} {n : ℕ} {t : Tree} where
  as_call : {ts : Trees} → t ≡ tree (node_of b n) ts → KidsAt b (n + 1) (next b n) ts → 1 ≤ size ts → size ts ≤ 17 → CallKids b n t
  unfolding size
  as_call e (no_kid z) h m = absurd (omega arith)
  as_call e (a_kid {t = x} {ts = xs} w a ks) h m = record { callee = x; arguments = xs; is = e; at_callee = a; at_arguments = ks; few = omega arith }

-- ---- the shapes of the kinds

module _ {b : List ℕ} {names types : ℕ} (a : Accepted b names types) {n : ℕ} {t : Tree} (at : At b n t) where
  here : Stands b n
  here = stands b a.trees n (at_node at)

  same : t ≡ tree (node_of b n) here.kids
  same = spelled_once b at (node_at here.inside refl here.spells)

  -- 15, and any kind: so many children, back to back
  pub any_kids : AnyKids b n t
  any_kids = record { kids = here.kids; is = same; at = here.spells; few = here.few; many = here.many; placed = here.placed }

  sized : (k : ℕ) → kind_of b n ≡ k → ((rule_of k).few ≤ size any_kids.kids) × (size any_kids.kids ≤ (rule_of k).many)
  sized k e = (rw e at any_kids.few, rw e at any_kids.many)

  pub call_kids : kind_of b n ≡ 14 → CallKids b n t
  unfolding rule_of
  call_kids e = as_call any_kids.is any_kids.at (sized 14 e).0 (sized 14 e).1

-- ---- the fields

pub record FieldsOf (b : List ℕ) (names types n : ℕ) : Type 0 where
  pub kind : kind_of b n < 20
  pub flag : flag_of b n ≤ (rule_of (kind_of b n)).flag
  pub ref : ref_of b n < ref_below (rule_of (kind_of b n)).ref names types
  pub narrow : (rule_of (kind_of b n)).narrow ≤ width_of b n
  pub wide : width_of b n ≤ (rule_of (kind_of b n)).wide
  pub value : value_of b n ≤ (rule_of (kind_of b n)).value

module _ {b : List ℕ} {names types : ℕ} (a : Accepted b names types) (n : ℕ) (l : n < length b / 20) where
  pub fields_of_lem : FieldsOf b names types n
  unfolding fields_ok field_ok
  fields_of_lem =
      let r = rule_of (kind_of b n) in
      let t = each_true (ltb (kind_of b n) 20)
      (leb (flag_of b n) r.flag ∷ ltb (ref_of b n) (ref_below r.ref names types) ∷ leb r.narrow (width_of b n) ∷ leb (width_of b n) r.wide ∷ leb (value_of b n) r.value ∷ [])
      (every_at (field_ok b names types) (length b / 20) n a.fields l) in
      record {
        kind = ltb-true _ _ t.0;
        flag = leb-true _ _ t.1.0;
        ref = ltb-true _ _ t.1.1.0;
        narrow = leb-true _ _ t.1.1.1.0;
        wide = leb-true _ _ t.1.1.1.1.0;
        value = leb-true _ _ t.1.1.1.1.1.0;
      }

  pub constant_width : kind_of b n ≡ 0 → (1 ≤ width_of b n) × (width_of b n ≤ 8)
  unfolding rule_of
  constant_width e = (rw e at fields_of_lem.narrow, rw e at fields_of_lem.wide)

  pub var_name : kind_of b n ≡ 1 → ref_of b n < names
  unfolding rule_of
  var_name e = rw e at fields_of_lem.ref

  pub cast_type : kind_of b n ≡ 8 → ref_of b n < types
  unfolding rule_of
  cast_type e = rw e at fields_of_lem.ref

  pub field_type : kind_of b n ≡ 18 → ref_of b n < types
  unfolding rule_of
  field_type e = rw e at fields_of_lem.ref
