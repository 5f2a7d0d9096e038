-- The node that is evaluated for a pointer, and the one that a struct is stored through. Assumes nothing.
use Rattle.std.proofs.Common.{◌≡◌, ℕ, ◌+◌, ◌<◌, ◌≤◌, Bool, true, false, eqb, List, sym, refl, ap, ◌∙◌, subst, arith, eq-eqb, ne_eqb, eqb-true}
use Rattle.std.specs.Prelude.{Option, None, Some}
use borrow.Author.Tests.{eqb-false}
use Rattle.value.specs.declared.Ty.{Ty}
use Rattle.value.specs.Value.{type}
use Rattle.files.specs.Nodes.{kind_of, ref_of}
use Rattle.definition.specs.Evaluate.{type_or}
use Rattle.workspace.specs.Parts.{tables}
use Rattle.workspace.specs.Types.{pointee_at}
use Rattle.hosting.specs.Scene.{Narrow}
use Rattle.hosting.specs.Stands.{Fine}
use Rattle.hosting.proofs.Shapes.{cast_kid}
use Rattle.operations.specs.declared.places.Target.{Target}
use Rattle.operations.specs.Steps.{Targets, pointee_in, under_if, base_at}

-- ---- what the tables tell of a Cast

abbrev pub pick_if : Bool → Option Ty → Option Ty
pick_if true t = t
pick_if false t = None

pub in_is : (b w : List ℕ) (n : ℕ) → pointee_in b w n ≡ pick_if (eqb (kind_of b n) 8) (pointee_at (tables w) (ref_of b n))
unfolding pointee_in
in_is b w n = go (eqb (kind_of b n) 8)
  where
    go : (z : Bool) → ◌≡◌ {A = Option Ty} (elim z [ true ↦ pointee_at (tables w) (ref_of b n) | false ↦ None ]) (pick_if z (pointee_at (tables w) (ref_of b n)))
    go true = refl
    go false = refl

-- where a node is no Cast, none points
pub cast_if : (b w : List ℕ) (n : ℕ) {t : Ty} → pointee_in b w n ≡ Some t → kind_of b n ≡ 8
cast_if b w n {t} e = go (eqb (kind_of b n) 8) refl (sym (in_is b w n) ∙ e)
  where
    go : (z : Bool) → eqb (kind_of b n) 8 ≡ z → pick_if z (pointee_at (tables w) (ref_of b n)) ≡ Some t → kind_of b n ≡ 8
    go true p q = eqb-true _ _ p
    go false p q = let z : ◌≡◌ {A = ℕ} 0 1 = cc in absurd (omega arith)

-- ---- the node that is evaluated

under_fine : (b w : List ℕ) {n : ℕ} (z : Option Ty) → pointee_in b w n ≡ z → Fine b n → Fine b (under_if z n)
under_fine b w None e f = f
under_fine b w {n} (Some t) e f = cast_kid (cast_if b w n e) f

pub target_fine : {b w : List ℕ} {n : ℕ} {t : Target} → Targets b w n t → Fine b n → Fine b t.node
target_fine {b} {w} {n} p f = subst (Fine b) (sym p.node) (under_fine b w (pointee_in b w n) refl f)

pub target_past : {b w : List ℕ} {n : ℕ} {t : Target} → Targets b w n t → n ≤ t.node
target_past {b} {w} {n} {t} p = go (pointee_in b w n) p.node
  where
    go : (z : Option Ty) → t.node ≡ under_if z n → n ≤ t.node
    go None e = omega (arith, e)
    go (Some y) e = omega (arith, e)

pub target_narrow : {b w : List ℕ} {n : ℕ} {t : Target} → Narrow (tables w) → (kind_of b n ≡ 8 → ref_of b n < 512) → Targets b w n t → t.ty.bits ≤ 64
target_narrow {b} {w} {n} {t} r l p = go (eqb (kind_of b n) 8) refl (p.type ∙ ap type_or (in_is b w n))
  where
    go : (z : Bool) → eqb (kind_of b n) 8 ≡ z → t.ty ≡ type_or (pick_if z (pointee_at (tables w) (ref_of b n))) → t.ty.bits ≤ 64
    go true e q = let h = r.narrow (ref_of b n) (l (eqb-true _ _ e)) in omega (arith, ap (λ (y : Ty). y.bits) q, h)
    go false e q = omega (arith, ap (λ (y : Ty). y.bits) q)

-- ---- the target that the code finds

in_cast : (b w : List ℕ) (n k i : ℕ) → k ≡ kind_of b n → k ≡ 8 → i ≡ ref_of b n → pointee_in b w n ≡ pointee_at (tables w) i
in_cast b w n k i p q e = in_is b w n ∙ ap (λ (z : Bool). pick_if z (pointee_at (tables w) (ref_of b n))) (eq-eqb (kind_of b n) 8 (sym p ∙ q)) ∙ ap (pointee_at (tables w)) (sym e)

in_other : (b w : List ℕ) (n k : ℕ) → k ≡ kind_of b n → (k ≡ 8 → ⊥) → pointee_in b w n ≡ None
in_other b w n k p q = in_is b w n ∙ ap (λ (z : Bool). pick_if z (pointee_at (tables w) (ref_of b n))) (ne_eqb (kind_of b n) 8 (λ e. q (p ∙ e)))

targets_as : {b w : List ℕ} {n : ℕ} (r : Target) (z : Option Ty) → pointee_in b w n ≡ z → r.node ≡ under_if z n → r.ty ≡ type_or z → Targets b w n r
targets_as {n = n} r z e p q = record { node = p ∙ ap (λ (y : Option Ty). under_if y n) (sym e); type = q ∙ ap type_or (sym e) }

module _ (b w : List ℕ) (n : ℕ) (r : Target) (k : ℕ) (p : k ≡ kind_of b n) where
  pub targets_other : (k ≡ 8 → ⊥) → r.node ≡ n → r.ty ≡ type 64 true → Targets b w n r
  targets_other ne en et = targets_as r None (in_other b w n k p ne) en et

  module _ (k8 : k ≡ 8) (i : ℕ) (ei : i ≡ ref_of b n) (y : Option Ty) (ey : y ≡ pointee_at (tables w) i) where
    pub targets_under : (t : Ty) → y ≡ Some t → r.node ≡ n + 1 → r.ty ≡ t → Targets b w n r
    targets_under t e en et = targets_as r (Some t) (in_cast b w n k i p k8 ei ∙ sym ey ∙ e) en et

    pub targets_cast : y ≡ None → r.node ≡ n → r.ty ≡ type 64 true → Targets b w n r
    targets_cast e en et = targets_as r None (in_cast b w n k i p k8 ei ∙ sym ey ∙ e) en et

-- ---- without one Cast

pub at_cast : (b : List ℕ) (n : ℕ) → kind_of b n ≡ 8 → base_at b n ≡ n + 1
unfolding base_at
at_cast b n e = rw (eq-eqb (kind_of b n) 8 e, base_at)

pub at_other : (b : List ℕ) (n : ℕ) → (kind_of b n ≡ 8 → ⊥) → base_at b n ≡ n
unfolding base_at
at_other b n e = rw (ne_eqb (kind_of b n) 8 e, base_at)

pub either : {P : Type 0} (z : Bool) → (z ≡ true → P) → (z ≡ false → P) → P
either true f g = f refl
either false f g = g refl

pub base_fine : {b : List ℕ} {n m : ℕ} → m ≡ base_at b n → Fine b n → Fine b m
base_fine {b} {n} {m} e f =
    either (eqb (kind_of b n) 8)
    (λ k. subst (Fine b) (sym (e ∙ at_cast b n (eqb-true _ _ k))) (cast_kid (eqb-true _ _ k) f))
    (λ k. subst (Fine b) (sym (e ∙ at_other b n (eqb-false _ _ k))) f)

pub base_past : (b : List ℕ) (n : ℕ) {m : ℕ} → m ≡ base_at b n → n ≤ m
base_past b n {m} e = either (eqb (kind_of b n) 8) (λ k. omega (arith, e, at_cast b n (eqb-true _ _ k))) (λ k. omega (arith, e, at_other b n (eqb-false _ _ k)))
