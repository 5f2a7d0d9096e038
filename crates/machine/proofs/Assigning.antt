-- What executing an Assign is, from what the code did for it. Assumes nothing.
use mathlib.Core.Path.{◌≡◌, refl, sym, ap, ◌∙◌, subst}
use mathlib.Core.Bool.{Bool, true, false}
use mathlib.Core.List.{List}
use Prim.Native.Nat.{ℕ, ◌+◌}
use lib.Dec.{eqb}
use borrow.Author.Tests.{eq-eqb, ne_eqb}
use Rattle.value.specs.declared.Val.{Val}
use Rattle.files.specs.Nodes.{kind_of}
use Rattle.files.specs.Program.{Tree, tree, Trees, node_of}
use Rattle.files.specs.declared.kinds.Kind.TheVariants.{Var, Deref, Assign, StructInit}
use Rattle.files.specs.Spells.{next}
use Rattle.definition.specs.Act.{Act, done, fail, store_to, ◌>>=◌}
use Rattle.definition.specs.Term.{Term, node, is, eval, kid, kids}
use Rattle.definition.specs.Evaluate.{Env, Did, look, looks, eval_as, execute, assign, assign_val, assign_struct, pointer}
use Rattle.definition.specs.Evaluate as ev
use Rattle.workspace.specs.Parts.{registers_part}
use Rattle.workspace.specs.Registers.{value_at}
use Rattle.stream.specs.declared.Reason.TheVariants.{StoreTo}
use Rattle.hosting.specs.declared.Short.TheVariants.{Why}
use Rattle.hosting.specs.Scene.{given}
use Rattle.hosting.specs.Stands.{Stands, stands, Shape, a_deref, an_assign, Fine}
use Rattle.hosting.specs.Ending.{Ending, ended, short, short_of}
use Rattle.operations.specs.Registers.{short_in, result_in, told_in, told_end}
use Rattle.operations.specs.Going.{Goes, Works}
use Rattle.machine.specs.Post.{Evaluates, Assigns, AssignsVal, AssignsStruct}
use Rattle.operations.specs.declared.places.Target.{Target}
use Rattle.operations.specs.Steps.{Gives, GivesShort, Targets, store_through}
use Rattle.operations.specs.Asking.{Writes}
use Rattle.hosting.proofs.Shapes.{deref_kid}
use Rattle.operations.proofs.Standing.{evals_as}
use Rattle.operations.proofs.Going.{goes, halts, acts, told, by_true, beside_after, gives_goes, short_goes}
use Rattle.machine.proofs.Evaluating.{stands_at, gave_on, fell_on, ended_on, short_on, result_is}
use Rattle.machine.proofs.Pointing.{pointed_on, unpointed_on}

pub execute_assign : (E : Env) (t : Term) → is Assign t ≡ true → execute E t ≡ assign E (kid 0 (kids t)) (kid 1 (kids t))
unfolding execute
execute_assign E t e = rw (e, execute)

-- ---- an Assign evaluated: what it told is its value

module _ {b s r : List ℕ} {n : ℕ} {w₀ o₀ : List ℕ} {q : Bool} {w o : List ℕ} (a : Assigns b s r n w₀ o₀ q w o) where
  -- it told something, or ended short
  told_on : {t : Tree} → q ≡ true → Stands b n t → Goes (given b s r) (λ x. execute x.env (look x.env t)) w₀ o₀ (ended (told_in w)) w o
  told_on {t} p h = gave_on q (told_in w) (short_in w) p (a.goes t h)

  untold_on : {t : Tree} → q ≡ false → Stands b n t → Goes (given b s r) (λ x. execute x.env (look x.env t)) w₀ o₀ (short (short_of (short_in w))) w o
  untold_on {t} p h = fell_on q (told_in w) (short_in w) p (a.goes t h)

  pub assigned_tells : {v : Val} {p : Bool} {w' : List ℕ} → q ≡ true → Gives w v p w' → Assigns b s r n w₀ o₀ p w' o
  assigned_tells {w' = w'} e g = record { goes = λ t h. beside_after g.beside (told (by_true (short_in w') g.yes g.told) (told_on e h)) }

  pub assigned_fails : q ≡ false → Assigns b s r n w₀ o₀ false w o
  assigned_fails e = record { goes = λ t h. untold_on e h }

  valued : {z : Ending Val} {w' : List ℕ} → kind_of b n ≡ 13
      → ((t : Tree) → Stands b n t → Goes (given b s r) (λ x. execute x.env (look x.env t) >>= λ d. done (ev.value_of d.wrote)) w₀ o₀ z w' o)
      → (t : Tree) → Stands b n t → Goes (given b s r) (λ x. eval (look x.env t)) w₀ o₀ z w' o
  unfolding eval_as look
  valued k f _ (stands {ts = ts} i h) = acts
      (λ y x _. evals_as x.env b n 13 ts k
      ∙ ap (λ (m : Act Did). m >>= λ d. done (ev.value_of d.wrote)) (sym (execute_assign x.env (look x.env (tree (node_of b n) ts)) (eq-eqb _ _ k))))
      (f _ (stands i h))

  pub assigned_evals : {p : Bool} {w' : List ℕ} → kind_of b n ≡ 13 → q ≡ true → Gives w (ev.value_of (told_in w).wrote) p w' → Evaluates b s r n w₀ o₀ p w' o
  assigned_evals k e g = record { goes = valued k (λ t h. goes (λ x d. done (ev.value_of d.wrote)) (told_on e h) (gives_goes g)) }

  pub assigned_short : kind_of b n ≡ 13 → q ≡ false → Evaluates b s r n w₀ o₀ false w o
  assigned_short k e = record { goes = valued k (λ t h. halts (λ x d. done (ev.value_of d.wrote)) _ (untold_on e h)) }

-- ---- an Assign executed

assign_val_lem : (E : Env) (l r : Term) → is StructInit r ≡ false → assign E l r ≡ (eval r >>= assign_val E l)
unfolding assign
assign_val_lem E l r e = rw (e, assign)

assign_struct_lem : (E : Env) (l r : Term) → is StructInit r ≡ true → assign E l r ≡ assign_struct E l (kids r)
unfolding assign
assign_struct_lem E l r e = rw (e, assign)

-- of what is no StructInit, and of one
module _ {b s r : List ℕ} {n m : ℕ} {w₀ o₀ : List ℕ} {w o : List ℕ} {k : ℕ} {d : Bool} (ka : kind_of b n ≡ 13) (em : m ≡ next b (n + 1)) (p : k ≡ kind_of b m) where
  sides : ((t u : Tree) → Stands b (n + 1) t → Stands b m u → Goes (given b s r) (λ x. assign x.env (look x.env t) (look x.env u)) w₀ o₀ (told_end d w) w o) → Assigns b s r n w₀ o₀ d w o
  unfolding look kid
  sides f = record { goes = λ t h. go t h }
    where
      from : {ts : Trees} → Shape b 13 n ts → Goes (given b s r) (λ x. assign x.env (kid 0 (looks x.env ts)) (kid 1 (looks x.env ts))) w₀ o₀ (told_end d w) w o
      from (an_assign {a = a} {c = c} h i e) = f a c h (stands_at em i)

      go : (t : Tree) → Stands b n t → Goes (given b s r) (λ x. execute x.env (look x.env t)) w₀ o₀ (told_end d w) w o
      go _ (stands {ts = ts} i h) = acts (λ y x _. execute_assign x.env _ (eq-eqb _ _ ka)) (from (subst (λ (j : ℕ). Shape b j n ts) ka h))

  pub struct_executes : k ≡ 17 → AssignsStruct b s r (n + 1) m w₀ o₀ d w o → Assigns b s r n w₀ o₀ d w o
  unfolding look
  struct_executes q e = sides (λ t u h i. go t u h i)
    where
      go : (t u : Tree) → Stands b (n + 1) t → Stands b m u → Goes (given b s r) (λ x. assign x.env (look x.env t) (look x.env u)) w₀ o₀ (told_end d w) w o
      go t _ h (stands {ts = us} i j) = acts (λ y x _. assign_struct_lem x.env _ _ (eq-eqb _ _ (sym p ∙ q))) (e.goes t _ h (stands i j))

  -- the right side is evaluated first
  right : (k ≡ 17 → ⊥) → ((t u : Tree) → Stands b (n + 1) t → Stands b m u → Goes (given b s r) (λ x. eval (look x.env u) >>= assign_val x.env (look x.env t)) w₀ o₀ (told_end d w) w o)
      → Assigns b s r n w₀ o₀ d w o
  unfolding look
  right ne f = sides (λ t u h i. go t u h i)
    where
      go : (t u : Tree) → Stands b (n + 1) t → Stands b m u → Goes (given b s r) (λ x. assign x.env (look x.env t) (look x.env u)) w₀ o₀ (told_end d w) w o
      go t _ h (stands {ts = us} i j) = acts (λ y x _. assign_val_lem x.env _ _ (ne_eqb _ _ (λ z. ne (p ∙ z)))) (f t _ h (stands i j))

  pub val_executes : {q : Bool} {w₁ o₁ : List ℕ} → (k ≡ 17 → ⊥) → Evaluates b s r m w₀ o₀ q w₁ o₁ → q ≡ true → AssignsVal b s r (n + 1) (result_in w₁) w₁ o₁ d w o → Assigns b s r n w₀ o₀ d w o
  val_executes ne ev e a = right ne (λ t u h i. goes (λ x. assign_val x.env (look x.env t)) (ended_on ev e i) (a.goes t h))

pub val_fails : {b s r : List ℕ} {n m : ℕ} {w₀ o₀ : List ℕ} {w o : List ℕ} {k : ℕ} {q : Bool} → kind_of b n ≡ 13 → m ≡ next b (n + 1) → k ≡ kind_of b m → (k ≡ 17 → ⊥)
    → Evaluates b s r m w₀ o₀ q w o → q ≡ false → Assigns b s r n w₀ o₀ false w o
val_fails ka em p ne ev e = right ka em p ne (λ t u h i. halts (λ x. assign_val x.env (look x.env t)) _ (short_on ev e i))

-- ---- a value to a place

-- the value that was read from the registers
assigns_read : {b s r : List ℕ} {l : ℕ} {v : Val} {w₀ o₀ : List ℕ} {d : Bool} {w o : List ℕ} → v ≡ value_at (registers_part w₀) 0 → AssignsVal b s r l v w₀ o₀ d w o
    → AssignsVal b s r l (result_in w₀) w₀ o₀ d w o
assigns_read {b} {s} {r} {l} {v} {w₀} {o₀} {d} {w} {o} q e = subst (λ (z : Val). AssignsVal b s r l z w₀ o₀ d w o) (sym (result_is w₀ q)) e

pub write_assigns : {b s r : List ℕ} {l : ℕ} {v : Val} {w₀ o₀ : List ℕ} {d : Bool} {w o : List ℕ} → v ≡ value_at (registers_part w₀) 0 → Writes b s l v w₀ o₀ d w o
    → AssignsVal b s r l (result_in w₀) w₀ o₀ d w o
write_assigns {r = r} q e = assigns_read q (record { goes = e.goes r })

abbrev deref_val : Env → Term → Val → Act Did
deref_val E t v = pointer E t >>= λ p. store_through (node t).place p.0 p.1 v

val_deref : (E : Env) (l : Term) (v : Val) → is Var l ≡ false → is Deref l ≡ true → assign_val E l v ≡ deref_val E (kid 0 (kids l)) v
unfolding assign_val store_through
val_deref E l v e f = rw (e, f, assign_val)

val_odd : (E : Env) (l : Term) (v : Val) → is Var l ≡ false → is Deref l ≡ false → assign_val E l v ≡ fail (store_to (node l).place)
unfolding assign_val
val_odd E l v e f = rw (e, f, assign_val)

not_var : (k : ℕ) → k ≡ 9 → eqb k 1 ≡ false
not_var k e = rw e

pub place_of : (E : Env) {b : List ℕ} {n : ℕ} {t : Tree} → Stands b n t → (node (look E t)).place ≡ n
unfolding look
place_of E (stands i h) = refl

pub odd_assigns : {b s r : List ℕ} {l : ℕ} {v : Val} {w₀ o₀ : List ℕ} {k : ℕ} {d : Bool} {w : List ℕ} → k ≡ kind_of b l → (k ≡ 1 → ⊥) → (k ≡ 9 → ⊥) → GivesShort w₀ (Why StoreTo l) d w
    → AssignsVal b s r l v w₀ o₀ d w o₀
unfolding look
odd_assigns {b} {s} {r} {l} {v} {w₀} {o₀} {k} {d} {w} p n1 n9 e = record { goes = λ t h. go t h }
  where
    go : (t : Tree) → Stands b l t → Goes (given b s r) (λ x. assign_val x.env (look x.env t) v) w₀ o₀ (told_end d w) w o₀
    go _ (stands {ts = ts} i h) = acts (λ y x _. val_odd x.env _ v (ne_eqb _ _ (λ z. n1 (p ∙ z))) (ne_eqb _ _ (λ z. n9 (p ∙ z)))) (short_goes (told_in w) e refl)

-- through a Deref
through : {b s r : List ℕ} {l : ℕ} (v : Val) {w₀ o₀ : List ℕ} {e : Ending Did} {w o : List ℕ} {t : Tree} → kind_of b l ≡ 9 → Stands b l t
    → ((u : Tree) → Stands b (l + 1) u → Goes (given b s r) (λ x. pointer x.env (look x.env u) >>= λ p. store_through (l + 1) p.0 p.1 v) w₀ o₀ e w o)
    → Goes (given b s r) (λ x. assign_val x.env (look x.env t) v) w₀ o₀ e w o
unfolding look kid
through {b} {s} {r} {l} v {w₀} {o₀} {e} {w} {o} k (stands {ts = ts} i h) f = acts (λ y x _. val_deref x.env _ v (not_var _ k) (eq-eqb _ _ k)) (from (subst (λ (j : ℕ). Shape b j l ts) k h))
  where
    placed : (u : Tree) → Stands b (l + 1) u → Goes (given b s r) (λ x. deref_val x.env (look x.env u) v) w₀ o₀ e w o
    placed u q = acts (λ y x _. ap (λ (j : ℕ). pointer x.env (look x.env u) >>= λ p. store_through j p.0 p.1 v) (place_of x.env q)) (f u q)

    from : {us : Trees} → Shape b 9 l us → Goes (given b s r) (λ x. deref_val x.env (kid 0 (looks x.env us)) v) w₀ o₀ e w o
    from (a_deref {a = u} q _) = placed u q

module _ {b s r : List ℕ} {l : ℕ} {v : Val} {w₀ o₀ : List ℕ} {k : ℕ} {p : Target} {q : Bool} {w₁ o₁ : List ℕ}
    (ek : k ≡ kind_of b l) (k9 : k ≡ 9) (f : Fine b l) (ev : v ≡ value_at (registers_part w₀) 0) (tg : Targets b w₀ (l + 1) p) (et : Evaluates b s r p.node w₀ o₀ q w₁ o₁) where
  pub store_assigns : (d : Bool) {w : List ℕ} → q ≡ true → Works (store_through (l + 1) (result_in w₁) p.ty v) w₁ (told_end d w) w → AssignsVal b s r l (result_in w₀) w₀ o₀ d w o₁
  store_assigns d e st = assigns_read ev (record {
    goes = λ t h. through v (sym ek ∙ k9) h
        (λ u i. goes (λ x y. store_through (l + 1) y.0 y.1 v) (pointed_on (deref_kid (sym ek ∙ k9) f) tg et e i) (st.goes (given b s r) o₁));
  })

  pub store_fails : q ≡ false → AssignsVal b s r l (result_in w₀) w₀ o₀ false w₁ o₁
  store_fails e = assigns_read ev (record {
    goes = λ t h. through v (sym ek ∙ k9) h (λ u i. halts (λ x y. store_through (l + 1) y.0 y.1 v) _ (unpointed_on (deref_kid (sym ek ∙ k9) f) tg et e i));
  })
