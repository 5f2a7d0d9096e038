-- What a statement's root is, by its node and the nodes under it. Assumes nothing.
use mathlib.Core.Path.{◌≡◌, refl, sym, ap, ◌∙◌, subst}
use mathlib.Core.Bool.{Bool, true, false, ◌&&◌, and-false}
use mathlib.Core.List.{List}
use Prim.Native.Nat.{ℕ, zero, suc, ◌+◌, ◌-◌, ◌≤◌, ◌<◌}
use native.Mathlib.Omega.{arith}
use borrow.Author.Tests.{eq-eqb, ne_eqb, eqb-true, eqb-false}
use lib.Dec.{eqb}
use Rattle.layout.specs.Text.{text, same}
use Rattle.files.specs.Nodes.{kind_of, ref_of, span_of}
use Rattle.files.specs.Program.{Program, Node, Tree, Trees, node_of}
use Rattle.files.specs.declared.kinds.Kind.TheVariants.{Constant, Return}
use Rattle.files.specs.Spells.{next}
use Rattle.definition.specs.Term.{Term, node, kids, is, kid, count}
use Rattle.definition.specs.Evaluate.{Env, look, looks}
use Rattle.definition.specs.Statements.{name_of, is_named, is_halted}
use Rattle.hosting.specs.declared.Facts.{Facts}
use Rattle.hosting.specs.Stands.{Stands, stands, Shape, a_constant, an_intrinsic, KidsAt, no_kid, a_kid, Fine}
use Rattle.hosting.specs.Routine.{is_name, Named}
use Rattle.hosting.proofs.Shapes.{intrinsic_kids, kid_here}
use Rattle.outcomes.specs.declared.roots.Sort.{Sort}
use Rattle.outcomes.specs.declared.roots.Sort.TheVariants.{Gives, Unreachable, Halts, Plain}
use Rattle.outcomes.specs.Sorts.{sort_of, Sorted}

-- ---- the node of a tree that stands

pub look_node : {b : List ℕ} {n : ℕ} {t : Tree} (E : Env) → Stands b n t → node (look E t) ≡ node_of b n
unfolding look
look_node E (stands i h) = refl

-- ---- one Constant under an Intrinsic

constant_span : {b : List ℕ} {n : ℕ} {ts : Trees} → Shape b 0 n ts → span_of b n ≡ 1
constant_span (a_constant e l) = e

-- trees from m up to e are one if the first ends at e
single : {b : List ℕ} {m e : ℕ} {ts : Trees} (E : Env) → KidsAt b m e ts → eqb (suc (count (looks E ts))) 1 ≡ eqb (suc (e - m)) 1
unfolding looks count
single {m = m} E no_kid = let z : m - m ≡ 0 = omega arith in sym (ap (λ (k : ℕ). eqb (suc k) 1) z)
single {m = m} {e = e} E (a_kid {ts = ts} l h k) = ne_eqb (suc (suc (count (looks E ts)))) 1 (λ z. omega arith) ∙ sym (ne_eqb (suc (e - m)) 1 (λ z. omega arith))

-- whether they are one Constant, by the numbers that the code reads
one_constant : {b : List ℕ} {m e : ℕ} {ts : Trees} (E : Env) → KidsAt b m e ts
    → (eqb (count (looks E ts)) 1 && is Constant (kid 0 (looks E ts))) ≡ (eqb (e - m) 1 && eqb (kind_of b m) 0)
unfolding look count kid
one_constant {b} {m} E no_kid = let z : m - m ≡ 0 = omega arith in sym (ap (λ (k : ℕ). eqb k 1 && eqb (kind_of b m) 0) z)
one_constant {b} {m} {e} E (a_kid {ts = ts} l (stands {ts = us} i h) k) = go (kind_of b m) refl
  where
    go : (j : ℕ) → kind_of b m ≡ j → (eqb (suc (count (looks E ts))) 1 && eqb (kind_of b m) 0) ≡ (eqb (e - m) 1 && eqb (kind_of b m) 0)
    go zero q =
        let s : span_of b m ≡ 1 = constant_span (subst (λ (j : ℕ). Shape b j m us) q h) in
        let d : suc (e - next b m) ≡ e - m = omega arith in
        ap (λ (t : Bool). t && eqb (kind_of b m) 0) (single E k ∙ ap (λ (j : ℕ). eqb j 1) d)
    go (suc j) q =
        let f : eqb (kind_of b m) 0 ≡ false = ne_eqb (kind_of b m) 0 (λ z. omega (arith, q, z)) in
        ap (λ (t : Bool). eqb (suc (count (looks E ts))) 1 && t) f ∙ and-false (eqb (suc (count (looks E ts))) 1) ∙ sym (ap (λ (t : Bool). eqb (e - m) 1 && t) f ∙ and-false (eqb (e - m) 1))

-- ---- the three tests

abbrev sort_by : Bool → Bool → Bool → Sort
sort_by a b c = elim a [ true ↦ Gives | false ↦ elim b [ true ↦ Unreachable | false ↦ elim c [ true ↦ Halts | false ↦ Plain ] ] ]

module _ {b : List ℕ} {n : ℕ} (P : Program) (E : Env) {t : Tree} where
  test_return : Stands b n t → is Return (look E t) ≡ eqb (kind_of b n) 16
  test_return h = ap (λ (d : Node). eqb d.kind 16) (look_node E h)

  test_named : (name : List ℕ) → Stands b n t → is_named P (look E t) name ≡ (eqb (kind_of b n) 15 && same (name_of P (ref_of b n)) name)
  test_named name h = ap (λ (d : Node). eqb d.kind 15 && same (name_of P d.ref) name) (look_node E h)

-- of an Intrinsic
test_kids : {b : List ℕ} {n : ℕ} {t : Tree} (E : Env) → kind_of b n ≡ 15 → Stands b n t
    → (eqb (count (kids (look E t))) 1 && is Constant (kid 0 (kids (look E t)))) ≡ (eqb (span_of b n) 2 && eqb (kind_of b (n + 1)) 0)
unfolding look
test_kids {b} {n} E k (stands {ts = ts} i h) = under (subst (λ (j : ℕ). Shape b j n ts) k h)
  where
    shift : (s : ℕ) → 1 ≤ s → (t : Bool) → eqb s 2 ≡ t → eqb (n + s - (n + 1)) 1 ≡ t
    shift s l true e = eq-eqb (n + s - (n + 1)) 1 (let z : s ≡ 2 = eqb-true s 2 e in omega arith)
    shift s l false e = ne_eqb (n + s - (n + 1)) 1 (λ z. eqb-false s 2 e (omega (arith, z)))

    under : {us : Trees} → Shape b 15 n us → (eqb (count (looks E us)) 1 && is Constant (kid 0 (looks E us))) ≡ (eqb (span_of b n) 2 && eqb (kind_of b (n + 1)) 0)
    under (an_intrinsic ks) = one_constant E ks ∙ ap (λ (t : Bool). t && eqb (kind_of b (n + 1)) 0) (shift (span_of b n) i.some (eqb (span_of b n) 2) refl)

-- ---- what the code's tests show

sorted_by : (P : Program) (t : Term) (a b c : Bool) → is Return t ≡ a → is_named P t (text "__builtin_unreachable") ≡ b → is_halted P t ≡ c → sort_of P t ≡ sort_by a b c
sorted_by P t a b c p q r = λ i. sort_by (p i) (q i) (r i)

module _ (b : List ℕ) (f : Facts) (n : ℕ) where
  pub sort_gives : {r : Bool} → r ≡ eqb (kind_of b n) 16 → r ≡ true → Sorted b f n Gives
  sort_gives er e = record {
    is = λ P named E t h. sorted_by P (look E t) true _ _ (test_return P E h ∙ sym er ∙ e) refl refl;
    here = eqb-true (kind_of b n) 16 (sym er ∙ e);
  }

  pub sort_plain : {r i : Bool} → r ≡ eqb (kind_of b n) 16 → r ≡ false → i ≡ eqb (kind_of b n) 15 → i ≡ false → Sorted b f n Plain
  sort_plain er r ei i = record {
    is = λ P named E t h.
        let u : (name : List ℕ) → is_named P (look E t) name ≡ false = λ name. test_named P E name h ∙ ap (λ (x : Bool). x && same (name_of P (ref_of b n)) name) (sym ei ∙ i) in
        sorted_by P (look E t) false false false
        (test_return P E h ∙ sym er ∙ r)
        (u (text "__builtin_unreachable"))
        (ap (λ (x : Bool). x && eqb (count (kids (look E t))) 1 && is Constant (kid 0 (kids (look E t)))) (u (text "__analysis_halted")));
    here = tt;
  }

module _ (b : List ℕ) (f : Facts) (n : ℕ) {i : Bool} (ei : i ≡ eqb (kind_of b n) 15) (intrinsic : i ≡ true) {x : ℕ} (reads : (x ≡ ref_of b n) × (x < 65536)) where
  kind_is : kind_of b n ≡ 15
  kind_is = eqb-true (kind_of b n) 15 (sym ei ∙ intrinsic)

  module _ (P : Program) (told : Named f P) (E : Env) {t : Tree} (h : Stands b n t) where
    no_return : is Return (look E t) ≡ false
    no_return = test_return P E h ∙ ap (λ (j : ℕ). eqb j 16) kind_is

    name_is : (name : List ℕ) → is_named P (look E t) name ≡ same (name_of P x) name
    name_is name = test_named P E name h ∙ ap (λ (j : ℕ). eqb j 15 && same (name_of P (ref_of b n)) name) kind_is ∙ ap (λ (j : ℕ). same (name_of P j) name) (sym reads.0)

    unreachable_is : is_named P (look E t) (text "__builtin_unreachable") ≡ is_name f.unreachable x
    unreachable_is = name_is (text "__builtin_unreachable") ∙ told.unreachable x reads.1

    halted_is : is_halted P (look E t) ≡ (is_name f.halted x && (eqb (span_of b n) 2 && eqb (kind_of b (n + 1)) 0))
    halted_is =
        ap (λ (z : Bool). z && eqb (count (kids (look E t))) 1 && is Constant (kid 0 (kids (look E t)))) (name_is (text "__analysis_halted") ∙ told.halted x reads.1)
        ∙ grouped (is_name f.halted x) (eqb (count (kids (look E t))) 1) (is Constant (kid 0 (kids (look E t))))
        ∙ ap (λ (z : Bool). is_name f.halted x && z) (test_kids E kind_is h)
      where
        grouped : (u v w : Bool) → (u && v && w) ≡ (u && (v && w))
        grouped true v w = refl
        grouped false v w = refl

  pub sort_unreachable : {u : Bool} → u ≡ is_name f.unreachable x → u ≡ true → Sorted b f n Unreachable
  sort_unreachable eu named = record {
    is = λ P told E t h. sorted_by P (look E t) false true _ (no_return P told E h) (unreachable_is P told E h ∙ sym eu ∙ named) refl;
    here = tt;
  }

  module _ {u : Bool} (eu : u ≡ is_name f.unreachable x) (no : u ≡ false) where
    sorts : (c : Bool) {r : Sort} → sort_by false false c ≡ r → (is_name f.halted x && (eqb (span_of b n) 2 && eqb (kind_of b (n + 1)) 0)) ≡ c
        → (P : Program) → Named f P → (E : Env) (t : Tree) → Stands b n t → sort_of P (look E t) ≡ r
    sorts c s e P told E t h = sorted_by P (look E t) false false c (no_return P told E h) (unreachable_is P told E h ∙ sym eu ∙ no) (halted_is P told E h ∙ e) ∙ s

    pub sort_other : {m : Bool} → m ≡ is_name f.halted x → m ≡ false → Sorted b f n Plain
    sort_other em other = record { is = sorts false refl (ap (λ (z : Bool). z && (eqb (span_of b n) 2 && eqb (kind_of b (n + 1)) 0)) (sym em ∙ other)); here = tt }

    module _ {m : Bool} (em : m ≡ is_name f.halted x) (halts : m ≡ true) {s : ℕ} (spans : (s ≡ span_of b n) × (s < 4294967296)) where
      halted_by : (is_name f.halted x && (eqb (span_of b n) 2 && eqb (kind_of b (n + 1)) 0)) ≡ (eqb s 2 && eqb (kind_of b (n + 1)) 0)
      halted_by = ap (λ (z : Bool). z && (eqb (span_of b n) 2 && eqb (kind_of b (n + 1)) 0)) (sym em ∙ halts) ∙ ap (λ (j : ℕ). eqb j 2 && eqb (kind_of b (n + 1)) 0) (sym spans.0)

      pub sort_many : (s ≡ 2 → ⊥) → Sorted b f n Plain
      sort_many ns = record { is = sorts false refl (halted_by ∙ ap (λ (z : Bool). z && eqb (kind_of b (n + 1)) 0) (ne_eqb s 2 ns)); here = tt }

      module _ (two : s ≡ 2) {c : Bool} (first : c ≡ eqb (kind_of b (n + 1)) 0) where
        pub sort_unlike : c ≡ false → Sorted b f n Plain
        sort_unlike nc = record {
          is = sorts false refl (halted_by ∙ ap (λ (z : Bool). eqb s 2 && z) (sym first ∙ nc) ∙ and-false (eqb s 2));
          here = tt;
        }

        pub sort_halts : Fine b n → c ≡ true → Sorted b f n Halts
        sort_halts fn ec = record {
          is = sorts true refl (halted_by ∙ ap (λ (z : Bool). eqb s 2 && z) (sym first ∙ ec) ∙ ap (λ (z : Bool). z && true) (eq-eqb s 2 two));
          here = (kid_here (λ e. omega (arith, e, spans.0, two)) (intrinsic_kids kind_is fn refl), kind_is, sym spans.0 ∙ two);
        }

-- ---- what the code reads at the children

-- the first child of an Intrinsic that has one
pub first_kid : {b : List ℕ} {n : ℕ} {t : Tree} (E : Env) → kind_of b n ≡ 15 → Fine b (n + 1) → (span_of b n ≡ 1 → ⊥) → Stands b n t → node (kid 0 (kids (look E t))) ≡ node_of b (n + 1)
unfolding look kid
first_kid {b} {n} E k f ne (stands {ts = ts} i h) = under (subst (λ (j : ℕ). Shape b j n ts) k h)
  where
    from : {m e : ℕ} {us : Trees} → (m ≡ e → ⊥) → KidsAt b m e us → node (kid 0 (looks E us)) ≡ node_of b m
    from ne' no_kid = absurd (ne' refl)
    from ne' (a_kid l (stands i' h') ks) = refl

    under : {us : Trees} → Shape b 15 n us → node (kid 0 (looks E us)) ≡ node_of b (n + 1)
    under (an_intrinsic ks) = from (λ e. ne (omega (arith, e))) ks
