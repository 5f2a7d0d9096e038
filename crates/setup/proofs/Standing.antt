-- The trees of an accepted node body, as the machine evaluates them: each node's children are as many as its kind has. Assumes nothing.
use mathlib.Core.Path.{◌≡◌, refl, sym, ap, ap₂, subst}
use mathlib.Core.Bool.{true}
use mathlib.Core.List.{List}
use Prim.Native.Nat.{ℕ, zero, suc, ◌+◌, ◌≤◌, ◌<◌}
use native.Mathlib.Omega.{arith}
use Rattle.files.specs.Nodes.{kind_of, ref_of, width_of, span_of, rule_of, root_ok}
use Rattle.files.specs.Program.{Node, Tree, tree, Trees, nil, cons, node_of, tree_at}
use Rattle.files.specs.Spells as spells
use Rattle.files.specs.Spells.{Inside, next, At, node_at, Accepted, size, Under}
use Rattle.files.proofs.Accepted.{root_fine, root_no_field}
use Rattle.files.proofs.Spelled.{fine_at}
use Rattle.files.proofs.Shapes.{at_inside, at_node, under_next, placed_field, placed_other, any_kids, fields_of_lem, constant_width, var_name, cast_type, field_type}
use Rattle.hosting.specs.Stands.{Stands, stands, Shape, a_constant, a_var, a_register, a_text, a_function, an_always, a_never, a_decided, a_cast, a_deref, an_address, a_ternary, a_binary, an_assign, a_call, an_intrinsic, a_leave, a_give, a_struct, a_plain, KidsAt, no_kid, a_kid, FieldsAt, no_field, a_field}

-- ---- children side by side that are as many as a kind has

module _ {b : List ℕ} {n k : ℕ} where
  as_leaf : {m e : ℕ} {ts : Trees} → KidsAt b m e ts → m ≡ n + 1 → e ≡ next b n → size ts ≤ 0 → (span_of b n ≡ 1 → Shape b k n nil) → Shape b k n ts
  unfolding size
  as_leaf no_kid p q z f = f (omega arith)
  as_leaf (a_kid l h ks) p q z f = absurd (omega arith)

  as_one : {m e : ℕ} {ts : Trees} → KidsAt b m e ts → m ≡ n + 1 → e ≡ next b n → 1 ≤ size ts → size ts ≤ 1
      → ((a : Tree) → Stands b (n + 1) a → next b (n + 1) ≡ next b n → Shape b k n (cons a nil)) → Shape b k n ts
  unfolding size
  as_one no_kid p q y z f = absurd (omega arith)
  as_one (a_kid l h no_kid) p q y z f = f _ (rw p at h) (rw p at q)
  as_one (a_kid l h (a_kid l₂ h₂ ks)) p q y z f = absurd (omega arith)

  as_two : {m e : ℕ} {ts : Trees} → KidsAt b m e ts → m ≡ n + 1 → e ≡ next b n → 2 ≤ size ts → size ts ≤ 2
      → ((a c : Tree) → Stands b (n + 1) a → Stands b (next b (n + 1)) c → next b (next b (n + 1)) ≡ next b n → Shape b k n (cons a (cons c nil))) → Shape b k n ts
  unfolding size
  as_two no_kid p q y z f = absurd (omega arith)
  as_two (a_kid l h no_kid) p q y z f = absurd (omega arith)
  as_two (a_kid l h (a_kid l₂ h₂ no_kid)) p q y z f = f _ _ (rw p at h) (rw p at h₂) (rw p at q)
  as_two (a_kid l h (a_kid l₂ h₂ (a_kid l₃ h₃ ks))) p q y z f = absurd (omega arith)

  as_three : {m e : ℕ} {ts : Trees} → KidsAt b m e ts → m ≡ n + 1 → e ≡ next b n → 3 ≤ size ts → size ts ≤ 3
      → ((a c d : Tree) → Stands b (n + 1) a → Stands b (next b (n + 1)) c → Stands b (next b (next b (n + 1))) d → next b (next b (next b (n + 1))) ≡ next b n → Shape b k n (cons a (cons c (cons d nil)))) → Shape b k n ts
  unfolding size
  as_three no_kid p q y z f = absurd (omega arith)
  as_three (a_kid l h no_kid) p q y z f = absurd (omega arith)
  as_three (a_kid l h (a_kid l₂ h₂ no_kid)) p q y z f = absurd (omega arith)
  as_three (a_kid l h (a_kid l₂ h₂ (a_kid l₃ h₃ no_kid))) p q y z f = f _ _ _ (rw p at h) (rw p at h₂) (rw p at h₃) (rw p at q)
  as_three (a_kid l h (a_kid l₂ h₂ (a_kid l₃ h₃ (a_kid l₄ h₄ ks)))) p q y z f = absurd (omega arith)

  as_call : {m e : ℕ} {ts : Trees} → KidsAt b m e ts → m ≡ n + 1 → e ≡ next b n → 1 ≤ size ts → size ts ≤ 17
      → ((a : Tree) (us : Trees) → Stands b (n + 1) a → KidsAt b (next b (n + 1)) (next b n) us → size us ≤ 16 → Shape b k n (cons a us)) → Shape b k n ts
  unfolding size
  as_call no_kid p q y z f = absurd (omega arith)
  as_call (a_kid {ts = us} l h ks) p q y z f = f _ us (rw p at h) (rw (p, q) at ks) (omega arith)

  as_return : {m e : ℕ} {ts : Trees} → KidsAt b m e ts → m ≡ n + 1 → e ≡ next b n → size ts ≤ 1 → (span_of b n ≡ 1 → Shape b k n nil)
      → ((a : Tree) → 1 < span_of b n → Stands b (n + 1) a → next b (n + 1) ≡ next b n → Shape b k n (cons a nil)) → Shape b k n ts
  unfolding size
  as_return no_kid p q z f g = f (omega arith)
  as_return (a_kid l h no_kid) p q z f g = g _ (omega arith) (rw p at h) (rw p at q)
  as_return (a_kid l h (a_kid l₂ h₂ ks)) p q z f g = absurd (omega arith)

-- ---- a node with its children

-- what the files know of the fields of node n, of a kind, and of its children; and these stand
record Parts (b : List ℕ) (k n : ℕ) (ts : Trees) : Type 0 where
  kind : k < 20
  few : (rule_of k).few ≤ size ts
  many : size ts ≤ (rule_of k).many
  width : k ≡ 0 → width_of b n ≤ 8
  name : k ≡ 1 → ref_of b n < 512
  type : k ≡ 8 → ref_of b n < 512
  no_field : k ≡ 18 → ⊥
  kids : (k ≡ 17 → ⊥) → KidsAt b (n + 1) (next b n) ts
  fields : k ≡ 17 → FieldsAt b (n + 1) (next b n) ts

abbrev six : ℕ → ℕ
six k = suc (suc (suc (suc (suc (suc k)))))

module _ {b : List ℕ} {n : ℕ} {ts : Trees} where
  leafy : {k : ℕ} → Parts b k n ts → k < 17 → (rule_of k).many ≡ 0 → (span_of b n ≡ 1 → Shape b k n nil) → Shape b k n ts
  leafy p l z f = as_leaf (p.kids (λ q. omega arith)) refl refl (omega (arith, p.many, z)) f

  upper : (k : ℕ) → Parts b (six (six k)) n ts → Shape b (six (six k)) n ts
  unfolding rule_of
  upper zero p = as_two (p.kids (λ q. omega arith)) refl refl p.few p.many (λ x y. a_binary)
  upper (suc zero) p = as_two (p.kids (λ q. omega arith)) refl refl p.few p.many (λ x y. an_assign)
  upper (suc (suc zero)) p = as_call (p.kids (λ q. omega arith)) refl refl p.few p.many (λ x y. a_call)
  upper (suc (suc (suc zero))) p = an_intrinsic (p.kids (λ q. omega arith))
  upper (suc (suc (suc (suc zero)))) p = as_return (p.kids (λ q. omega arith)) refl refl p.many a_leave (λ x. a_give)
  upper (suc (suc (suc (suc (suc zero))))) p = a_struct (p.fields refl)
  upper (suc (suc (suc (suc (suc (suc zero)))))) p = absurd (p.no_field refl)
  upper (suc (suc (suc (suc (suc (suc (suc zero))))))) p = as_leaf (p.kids (λ q. omega arith)) refl refl p.many a_plain
  upper (suc (suc (suc (suc (suc (suc (suc (suc k)))))))) p = absurd (omega (arith, p.kind))

  middle : (k : ℕ) → Parts b (six k) n ts → Shape b (six k) n ts
  unfolding rule_of
  middle zero p = leafy p (omega arith) refl a_never
  middle (suc zero) p = leafy p (omega arith) refl a_decided
  middle (suc (suc zero)) p = as_one (p.kids (λ q. omega arith)) refl refl p.few p.many (λ x. a_cast (p.type refl))
  middle (suc (suc (suc zero))) p = as_one (p.kids (λ q. omega arith)) refl refl p.few p.many (λ x. a_deref)
  middle (suc (suc (suc (suc zero)))) p = as_one (p.kids (λ q. omega arith)) refl refl p.few p.many (λ x. an_address)
  middle (suc (suc (suc (suc (suc zero))))) p = as_three (p.kids (λ q. omega arith)) refl refl p.few p.many (λ x y z. a_ternary)
  middle (suc (suc (suc (suc (suc (suc k)))))) p = upper k p

  -- the shape of a node of kind k
  shaped : (k : ℕ) → Parts b k n ts → Shape b k n ts
  unfolding rule_of
  shaped zero p = leafy p (omega arith) refl (λ s. a_constant s (p.width refl))
  shaped (suc zero) p = leafy p (omega arith) refl (λ s. a_var s (p.name refl))
  shaped (suc (suc zero)) p = leafy p (omega arith) refl a_register
  shaped (suc (suc (suc zero))) p = leafy p (omega arith) refl a_text
  shaped (suc (suc (suc (suc zero)))) p = leafy p (omega arith) refl a_function
  shaped (suc (suc (suc (suc (suc zero))))) p = leafy p (omega arith) refl an_always
  shaped (suc (suc (suc (suc (suc (suc k)))))) p = middle k p

under_root : Tree → Trees
under_root (tree d ts) = ts

-- a field's one child
record UnderField (b : List ℕ) (n : ℕ) (ts : Trees) : Type 0 where
  kid : Tree
  is : ts ≡ cons kid nil
  there : Stands b (n + 1) kid
  ends : next b (n + 1) ≡ next b n

record Field (b : List ℕ) (n : ℕ) (t : Tree) : Type 0 where
  under : Tree
  is : t ≡ tree (node_of b n) (cons under nil)
  inside : Inside b n
  there : Stands b (n + 1) under
  ends : next b (n + 1) ≡ next b n

one_under : {b : List ℕ} {n m e : ℕ} {ts : Trees} → KidsAt b m e ts → m ≡ n + 1 → e ≡ next b n → 1 ≤ size ts → size ts ≤ 1 → UnderField b n ts
unfolding size
one_under no_kid p q y z = absurd (omega arith)
one_under (a_kid {t = t} l h no_kid) p q y z = record { kid = t; is = refl; there = rw p at h; ends = rw p at q }
one_under (a_kid l h (a_kid l₂ h₂ ks)) p q y z = absurd (omega arith)

module _ {b : List ℕ} {names types : ℕ} (a : Accepted b names types) (few_names : names ≤ 512) (few_types : types ≤ 512) where
  module _ {n : ℕ} {d : Node} {ts : Trees} (at : At b n (tree d ts)) where
    same_kids : (any_kids a at).kids ≡ ts
    unfolding under_root
    same_kids = sym (ap under_root (any_kids a at).is)

    placed : Under (kind_of b n) ts
    placed = subst (Under (kind_of b n)) same_kids (any_kids a at).placed

    few : (rule_of (kind_of b n)).few ≤ size ts
    few = rw same_kids at (any_kids a at).few

    many : size ts ≤ (rule_of (kind_of b n)).many
    many = rw same_kids at (any_kids a at).many

    parts : (kind_of b n ≡ 18 → ⊥) → ((kind_of b n ≡ 17 → ⊥) → KidsAt b (n + 1) (next b n) ts) → (kind_of b n ≡ 17 → FieldsAt b (n + 1) (next b n) ts) → Parts b (kind_of b n) n ts
    parts f ks fs = let l = at_node at in record {
      kind = (fields_of_lem a n l).kind;
      few = few;
      many = many;
      width = λ q. (constant_width a n l q).1;
      name = λ q. omega (arith, var_name a n l q);
      type = λ q. omega (arith, cast_type a n l q);
      no_field = f;
      kids = ks;
      fields = fs;
    }

    one_field : kind_of b n ≡ 18 → KidsAt b (n + 1) (next b n) ts → UnderField b n ts
    unfolding rule_of
    one_field e ks = one_under ks refl refl (rw e at few) (rw e at many)

  mutual
    tree_stands : {n : ℕ} {t : Tree} → At b n t → (kind_of b n ≡ 18 → ⊥) → Stands b n t
    tree_stands (node_at {n} {d} {ts} i q ks) f =
        let at : At b n (tree d ts) = node_at i q ks in
        subst (λ (x : Node). Stands b n (tree x ts)) (sym q)
        (stands i (shaped (kind_of b n) (parts at f (λ o. kids_stand ks (placed at) o) (λ o. fields_stand ks (placed at) o))))

    kids_stand : {p n e : ℕ} {ts : Trees} → spells.KidsAt b n e ts → Under p ts → (p ≡ 17 → ⊥) → KidsAt b n e ts
    kids_stand (spells.no_kid {n} {e} same) u o = subst (λ (x : ℕ). KidsAt b n x nil) same no_kid
    kids_stand {p} (spells.a_kid {n} {e} {t} {ts} w at ks) u o =
        let v = under_next at refl u in
        a_kid {n = n} {e = e} (omega (arith, (at_inside at).some)) (tree_stands at (placed_other (kind_of b n) p v.0 o)) (kids_stand ks v.1 o)

    field_stands : {n : ℕ} {t : Tree} → At b n t → kind_of b n ≡ 18 → Field b n t
    field_stands (node_at {n} {d} {ts} i q ks) k =
        let at : At b n (tree d ts) = node_at i q ks in
        let g = one_field at k (kids_stand ks (placed at) (λ z. omega (arith, z, k))) in
        record { under = g.kid; is = ap₂ tree q g.is; inside = i; there = g.there; ends = g.ends }

    fields_stand : {p n e : ℕ} {ts : Trees} → spells.KidsAt b n e ts → Under p ts → p ≡ 17 → FieldsAt b n e ts
    fields_stand (spells.no_kid {n} {e} same) u o = subst (λ (x : ℕ). FieldsAt b n x nil) same no_field
    fields_stand {p} (spells.a_kid {n} {e} {t} {ts} w at ks) u o =
        let v = under_next at refl u in
        let k = placed_field (kind_of b n) p v.0 o in
        let g = field_stands at k in
        subst (λ (x : Tree). FieldsAt b n e (cons x ts)) (sym g.is)
        (a_field {n = n} {e = e} (omega (arith, (at_inside at).some)) g.inside k (omega (arith, field_type a n (at_node at) k)) g.there g.ends (fields_stand ks v.1 o))

  -- the tree at a root
  pub root_stands : (n : ℕ) → root_ok b n ≡ true → Stands b n (tree_at b n)
  root_stands n h = tree_stands (fine_at (root_fine a n h)) (root_no_field b n h)
