-- What evaluating a Deref's target is, from what the code did for it. Assumes nothing.
use mathlib.Core.Path.{◌≡◌, refl, sym, ap, ◌∙◌, subst}
use mathlib.Core.Bool.{Bool, true, false, not, ◌&&◌}
use mathlib.Core.List.{List, []}
use Rattle.std.specs.Prelude.{Option, None, Some}
use Prim.Native.Nat.{ℕ, ◌+◌, ◌≤◌, ◌<◌}
use native.Mathlib.Omega.{arith}
use lib.ListN.{get_or}
use lib.Dec.{eqb}
use borrow.Author.Tests.{eqb-true, not-true, not-false}
use Rattle.value.specs.declared.Ty.{Ty}
use Rattle.value.specs.declared.Val.{Val}
use Rattle.value.specs.Value.{type, unknown_val}
use Rattle.spelling.specs.Spelling.{type_of, ends_star, before_star}
use Rattle.files.specs.Nodes.{kind_of, ref_of}
use Rattle.files.specs.Program.{Tree, tree, Trees, node_of}
use Rattle.definition.specs.Act.{Act, done, ◌>>=◌}
use Rattle.definition.specs.Term.{Term, eval, kid, kids}
use Rattle.definition.specs.Memory.{load}
use Rattle.definition.specs.Evaluate.{Env, look, eval_as, pointer, pointee_of, load_through, type_or}
use Rattle.workspace.specs.Parts.{tables, registers_part}
use Rattle.workspace.specs.Registers.{value_at}
use Rattle.workspace.specs.Types.{pointee_at}
use Rattle.hosting.specs.declared.How.{How}
use Rattle.hosting.specs.declared.Short.{Short}
use Rattle.operations.specs.declared.places.Target.{Target}
use Rattle.hosting.specs.Scene.{Given, given, Scene, Meant, pointee}
use Rattle.hosting.specs.Stands.{Stands, stands, Shape, a_cast, a_deref, Fine}
use Rattle.hosting.specs.Ending.{ended, short, short_of}
use Rattle.operations.specs.Registers.{short_in, result_in, end_by, end_in}
use Rattle.operations.specs.Going.{ReadyIn, Goes}
use Rattle.operations.specs.Steps.{Gives, Targets, pointee_in, under_if}
use Rattle.operations.specs.Asking.{LoadsAt}
use Rattle.machine.specs.Post.{Evaluates}
use Rattle.hosting.proofs.Shapes.{cast_type, deref_kid}
use Rattle.operations.proofs.Targeting.{pick_if, in_is, cast_if, target_past, target_fine}
use Rattle.operations.proofs.Targeting as targeting
use Rattle.operations.proofs.Standing.{act_as}
use Rattle.operations.proofs.Going.{done_goes, goes, halts, acts, told, gives_goes}
use Rattle.machine.proofs.Ranks.{left}
use Rattle.machine.proofs.Evaluating.{by, gave_on, fell_on, result_is, ready_on}

-- ---- what the tables tell of a Cast

abbrev points_of : Bool → List ℕ → Option Ty
points_of z text = elim (z && ends_star text) [ true ↦ Some (type_of (before_star text)) | false ↦ None ]

points_pick : (z : Bool) (text : List ℕ) → points_of z text ≡ pick_if z (pointee text)
points_pick true text = refl
points_pick false text = refl

-- the definition's pointee, where the tables tell the scene's types
pointee_told : (g : Given) (w : List ℕ) (n : ℕ) (x : Scene) → Meant g x (tables w) → (kind_of g.nodes n ≡ 8 → ref_of g.nodes n < 512) → (ts : Trees)
    → pointee_of x.env (look x.env (tree (node_of g.nodes n) ts)) ≡ pointee_in g.nodes w n
unfolding look
pointee_told g w n x m l ts = points_pick (eqb (kind_of g.nodes n) 8) (get_or x.env.types (ref_of g.nodes n) []) ∙ go (eqb (kind_of g.nodes n) 8) refl ∙ sym (in_is g.nodes w n)
  where
    go : (z : Bool) → eqb (kind_of g.nodes n) 8 ≡ z → pick_if z (pointee (get_or x.env.types (ref_of g.nodes n) [])) ≡ pick_if z (pointee_at (tables w) (ref_of g.nodes n))
    go true p = sym (m.pointees (ref_of g.nodes n) (l (eqb-true _ _ p)))
    go false p = refl

-- ---- the node that is evaluated

-- the target of the node before it is evaluated
pub target_falls : (b : List ℕ) (n k : ℕ) {t : ℕ} {w : List ℕ} {p : Target} → left w b n 0 ≡ t → Fine b n → Targets b w (n + 1) p → k ≤ 4 → left w b p.node k < t
unfolding left
target_falls b n k e f q h = let z = target_past q in let i = f.inside in omega (arith, e, z, i.some, i.fits, h)

pub target_narrow : {g : How → Given} {b w : List ℕ} {n : ℕ} {t : Target} → ReadyIn g w → Fine b n → Targets b w n t → t.ty.bits ≤ 64
target_narrow r f p = targeting.target_narrow r.ready.narrow (λ e. cast_type e f) p

-- ---- a pointer's run

abbrev pointer_as : Term → Option Ty → Act (Val × Ty)
pointer_as t (Some p) = eval (kid 0 (kids t)) >>= λ v. done (v, p)
pointer_as t None = eval t >>= λ v. done (v, type 64 true)

pointer_is : (E : Env) (t : Term) → pointer E t ≡ pointer_as t (pointee_of E t)
unfolding pointer
pointer_is E t = go (pointee_of E t)
  where
    go : (z : Option Ty) → ◌≡◌ {A = Act (Val × Ty)} (elim z [ Some p ↦ eval (kid 0 (kids t)) >>= λ v. done (v, p) | None ↦ eval t >>= λ v. done (v, type 64 true) ]) (pointer_as t z)
    go None = refl
    go (Some p) = refl

-- with a type, what is evaluated for it
typed : {g : How → Given} {m : Scene → Act Val} {w₀ o₀ : List ℕ} {w o : List ℕ} (v : Val) (y : Short) (ty : Ty) (q : Bool) → Goes g m w₀ o₀ (end_by q v y) w o
    → Goes g (λ x. m x >>= λ u. done (u, ty)) w₀ o₀ (end_by {A = Val × Ty} q (v, ty) y) w o
typed v y ty true p = goes _ p (done_goes (λ _. (v, ty)) (λ h x m. refl))
typed v y ty false p = halts _ _ p

module _ {b s r : List ℕ} {n : ℕ} {w₀ o₀ : List ℕ} (v : Val) (y : Short) {w o : List ℕ} where
  pointer_cast : {ts : Trees} (q : Bool) (ty : Ty) → Shape b 8 n ts
      → ((u : Tree) → Stands b (n + 1) u → Goes (given b s r) (λ x. eval (look x.env u)) w₀ o₀ (end_by q v y) w o)
      → Goes (given b s r) (λ x. pointer_as (look x.env (tree (node_of b n) ts)) (Some ty)) w₀ o₀ (end_by {A = Val × Ty} q (v, ty) y) w o
  unfolding look kid
  pointer_cast q ty (a_cast {a = u} l h e) f = typed v y ty q (f u h)

  pointer_as_lem : {t : Tree} (q : Bool) (z : Option Ty) → pointee_in b w₀ n ≡ z → Stands b n t
      → ((u : Tree) → Stands b (under_if z n) u → Goes (given b s r) (λ x. eval (look x.env u)) w₀ o₀ (end_by q v y) w o)
      → Goes (given b s r) (λ x. pointer_as (look x.env t) z) w₀ o₀ (end_by {A = Val × Ty} q (v, type_or z) y) w o
  pointer_as_lem q None e h f = typed v y (type 64 true) q (f _ h)
  pointer_as_lem q (Some ty) e (stands {ts = ts} i h) f = pointer_cast q ty (subst (λ (j : ℕ). Shape b j n ts) (cast_if b w₀ n e) h) f

  pointer_on : {t : Tree} (q : Bool) → (kind_of b n ≡ 8 → ref_of b n < 512) → Stands b n t
      → ((u : Tree) → Stands b (under_if (pointee_in b w₀ n) n) u → Goes (given b s r) (λ x. eval (look x.env u)) w₀ o₀ (end_by q v y) w o)
      → Goes (given b s r) (λ x. pointer x.env (look x.env t)) w₀ o₀ (end_by {A = Val × Ty} q (v, type_or (pointee_in b w₀ n)) y) w o
  pointer_on q l (stands {ts = ts} i h) f =
      acts (λ a x m. pointer_is x.env (look x.env (tree (node_of b n) ts)) ∙ ap (pointer_as (look x.env (tree (node_of b n) ts))) (pointee_told (given b s r a) w₀ n x m l ts)) (pointer_as_lem q (pointee_in b w₀ n) refl (stands i h) f)

-- what the pointer at node n is, where the code has evaluated its target
module _ {b s r : List ℕ} {n : ℕ} {w₀ o₀ : List ℕ} {p : Target} {q : Bool} {w o : List ℕ} (f : Fine b n) (tg : Targets b w₀ n p) (ev : Evaluates b s r p.node w₀ o₀ q w o) where
  points : {t : Tree} → Stands b n t → Goes (given b s r) (λ x. pointer x.env (look x.env t)) w₀ o₀ (end_by {A = Val × Ty} q (result_in w, p.ty) (short_in w)) w o
  points h =
      let under : Evaluates b s r (under_if (pointee_in b w₀ n) n) w₀ o₀ q w o = subst (λ (j : ℕ). Evaluates b s r j w₀ o₀ q w o) tg.node ev in
      told (ap (λ (y : Ty). end_by {A = Val × Ty} q (result_in w, y) (short_in w)) tg.type) (pointer_on (result_in w) (short_in w) q (λ k. cast_type k f) h under.goes)

  pub pointed_on : {t : Tree} → q ≡ true → Stands b n t → Goes (given b s r) (λ x. pointer x.env (look x.env t)) w₀ o₀ (ended (result_in w, p.ty)) w o
  pointed_on e h = gave_on q (result_in w, p.ty) (short_in w) e (points h)

  pub unpointed_on : {t : Tree} → q ≡ false → Stands b n t → Goes (given b s r) (λ x. pointer x.env (look x.env t)) w₀ o₀ (short (short_of (short_in w))) w o
  unpointed_on e h = fell_on q (result_in w, p.ty) (short_in w) e (points h)

-- ---- Deref

through_known : (a : Val) (t : Ty) → a.known ≡ true → (x : Scene) → load_through x.env (a, t) ≡ load a.number t
through_known a t e x = rw e

through_unknown : (a : Val) (t : Ty) → a.known ≡ false → (x : Scene) → load_through x.env (a, t) ≡ done (unknown_val t)
through_unknown a t e x = rw e

module _ {b s r : List ℕ} {n : ℕ} {w₀ o₀ : List ℕ} {p : Target} {q : Bool} {w₁ o₁ : List ℕ} (k : kind_of b n ≡ 9) (f : Fine b n) (tg : Targets b w₀ (n + 1) p) (ev : Evaluates b s r p.node w₀ o₀ q w₁ o₁) where
  pub deref_ready : ReadyIn (given b s r) w₀ → q ≡ true → ReadyIn (given b s r) w₁
  deref_ready z e = ready_on ev z e (target_fine tg (deref_kid k f))

  -- through the value v that is read from the registers: what a load through it does, is the whole
  through : {v : Val} {u : Bool} {w o : List ℕ} → q ≡ true → v ≡ value_at (registers_part w₁) 0 → Goes (given b s r) (λ x. load_through x.env (v, p.ty)) w₁ o₁ (end_in u w) w o
      → Evaluates b s r n w₀ o₀ u w o
  unfolding eval_as look kid
  through {v} {u} {w} {o} e is l = by 9 k (λ ts h. go ts h)
    where
      go : (ts : Trees) → Shape b 9 n ts → Goes (given b s r) (λ x. act_as b x 9 n ts) w₀ o₀ (end_in u w) w o
      go ts (a_deref h _) = goes (λ x. load_through x.env) (told (ap (λ (a : Val). ended (a, p.ty)) (sym (result_is w₁ is))) (pointed_on (deref_kid k f) tg ev e h)) l

  pub deref_nowhere : {v : Val} {u : Bool} {w : List ℕ} → q ≡ true → v ≡ value_at (registers_part w₁) 0 → not v.known ≡ true
      → Gives w₁ (unknown_val (type p.ty.bits p.ty.signed)) u w → Evaluates b s r n w₀ o₀ u w o₁
  deref_nowhere {v} e is z g = through e is (acts (λ _ x _. through_unknown v p.ty (not-true v.known z) x) (gives_goes g))

  pub deref_loads : {v : Val} {u : Bool} {w o : List ℕ} → q ≡ true → v ≡ value_at (registers_part w₁) 0 → not v.known ≡ false → LoadsAt r v.number p.ty w₁ o₁ u w o
      → Evaluates b s r n w₀ o₀ u w o
  deref_loads {v} e is z l = through e is (acts (λ _ x _. through_known v p.ty (not-false v.known z) x) (l.goes b s))

  pub deref_short : q ≡ false → Evaluates b s r n w₀ o₀ false w₁ o₁
  unfolding eval_as look kid
  deref_short e = by 9 k (λ ts h. go ts h)
    where
      go : (ts : Trees) → Shape b 9 n ts → Goes (given b s r) (λ x. act_as b x 9 n ts) w₀ o₀ (end_in false w₁) w₁ o₁
      go ts (a_deref h _) = halts (λ x. load_through x.env) _ (unpointed_on (deref_kid k f) tg ev e h)
