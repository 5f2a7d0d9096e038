-- Running on the code's host: a bind is run after run, the written addresses never fall, and what a run comes to goes through a bind. Assumes nothing.
use mathlib.Core.Path.{◌≡◌, refl, sym, ap, ◌∙◌, subst}
use mathlib.Core.Bool.{Bool}
use mathlib.Core.List.{List}
use Rattle.std.specs.Prelude.{Option, None, Some}
use Prim.Native.Nat.{ℕ, ◌≤◌, ◌<◌}
use native.Mathlib.Nat.{le_refl, le_trans}
use lib.ListN.{length}
use Rattle.memory.proofs.OverlayLaws.{length_store}
use Rattle.definition.specs.Question.{World, cut}
use Rattle.definition.specs.Act.{Act, done, fail, ask, act, pending, Pending, End, gave, stopped, Why, ◌>>=◌, Op, peek_op, poke_op, get_op, set_op, pending_op, leave_op, spend_op, emit_op}
use Rattle.definition.specs.Host.{Host, hosted}
use Rattle.definition.specs.Run.{address_limit}
use Rattle.definition.proofs.Hosts.{go_on_from, hosted_bind}
use Rattle.workspace.specs.Parts.{tables, note_part}
use Rattle.workspace.specs.Note.{pending_in}
use Rattle.workspace.specs.View.{view}
use Rattle.hosting.specs.declared.Counts.{Counts}
use Rattle.hosting.specs.Scene.{Given, Scene, Ready, Meant}
use Rattle.hosting.specs.Held.{Held, held, code_host, asked, emitted, reply_of, next_of}
use Rattle.hosting.specs.Ending.{Ending, ended, short}
use Rattle.hosting.specs.Runs.{Came, Kept, Runs}

-- ---- a bind

-- what comes of an end when acts go on from it
abbrev then_of : {S A B : Type 0} → Host S → (A → Act B) → End A → S → End B × S
then_of h f e s = go_on_from e s (λ a s'. hosted h (f a) s')

module _ {S A B C : Type 0} (h : Host S) (f : A → Act B) (g : B → Act C) where
  pub hosted_assoc : (m : Act A) (s : S) → hosted h ((m >>= f) >>= g) s ≡ hosted h (m >>= λ a. f a >>= g) s
  unfolding hosted ◌>>=◌
  hosted_assoc (done a) s = refl
  hosted_assoc (fail y) s = refl
  hosted_assoc (ask κ q k) s = hosted_assoc (k (h.answer s κ q)) (h.asking s κ q)
  hosted_assoc (act o k) s = hosted_assoc (k (h.reply s o)) (h.next s o)

-- ---- the number of written addresses never falls

op_grows : (second : Bool) (s : Held) (o : Op) → length s.view.memory ≤ length (next_of second s o).view.memory
unfolding emitted
op_grows second s (peek_op a) = le_refl _
op_grows second s (poke_op a c) = length_store a c s.view.memory
op_grows second s (get_op x) = le_refl _
op_grows second s (set_op x v) = le_refl _
op_grows second s pending_op = le_refl _
op_grows second s (leave_op p) = le_refl _
op_grows second s (spend_op b) = le_refl _
op_grows second s (emit_op e) = le_refl _

module _ {A : Type 0} (w : World) (second : Bool) where
  pub grows : (m : Act A) (s : Held) → length s.view.memory ≤ length (hosted (code_host w second) m s).1.view.memory
  unfolding hosted code_host asked
  grows (done a) s = le_refl _
  grows (fail y) s = le_refl _
  grows (ask κ q k) s = grows (k (w κ (cut κ q))) (asked second (κ, (cut κ q, w κ (cut κ q))) s)
  grows (act o k) s = le_trans (op_grows second s o) (grows (k (reply_of s o)) (next_of second s o))

-- ---- what a run comes to

abbrev pub host_in : Given → Scene → Host Held
host_in g x = code_host x.world g.how.second

-- what holds unless the code has no room left, from something else that does
pub kept_on : {A : Type 0} {P Q : Type 0} (e : Ending A) → (P → Q) → Kept e P → Kept e Q
kept_on (ended a) f p = f p
kept_on (short (Some y)) f p = f p
kept_on (short None) f p = tt

-- a value is given, or an evaluation ends short, and nothing is done. What is given may be told by the tables
pub done_runs : {A : Type 0} {g : Given} (val : Scene → A) {v : A} {w o : List ℕ} {a : Counts} → ((x : Scene) → Meant g x (tables w) → val x ≡ v) → Ready g w a
    → Runs g (λ x. done (val x)) w o a (ended v) w o a
unfolding hosted
done_runs val {w = w} {o = o} {a = a} e p = record { ready = p; tables = refl; came = λ x h. ap (λ y. (gave y, held w o a)) (e x h) }

pub fail_runs : {A : Type 0} {g : Given} {y : Why} {w o : List ℕ} {a : Counts} → Ready g w a → Runs {A = A} g (λ x. fail y) w o a (short (Some y)) w o a
unfolding hosted
fail_runs p = record { ready = p; tables = refl; came = λ x h. refl }

grows_then : {A B : Type 0} (h : World) (second : Bool) (f : A → Act B) (e : End A) (s : Held) → length s.view.memory ≤ length (then_of (code_host h second) f e s).1.view.memory
grows_then h second f (gave a) s = grows h second (f a) s
grows_then h second f (stopped y) s = le_refl _

module _ {A B : Type 0} {g : Given} {m : Scene → Act A} (f : Scene → A → Act B) {w₀ o₀ : List ℕ} {a₀ : Counts} where
  -- what gave a value goes on into what comes next
  pub goes : {v : A} {e : Ending B} {w₁ o₁ w o : List ℕ} {a₁ a : Counts}
      → Runs g m w₀ o₀ a₀ (ended v) w₁ o₁ a₁ → Runs g (λ x. f x v) w₁ o₁ a₁ e w o a → Runs g (λ x. m x >>= f x) w₀ o₀ a₀ e w o a
  goes {v} {e} {w₁} {o₁} {w} {o} {a₁} {a} p q = record {
    ready = q.ready;
    tables = kept_on e (λ t. t ∙ p.tables) q.tables;
    came = λ x h. subst (λ (z : End B × Held). Came z e (held w o a))
        (sym (hosted_bind (host_in g x) (f x) (m x) (held w₀ o₀ a₀) ∙ ap (λ (z : End A × Held). then_of (host_in g x) (f x) z.0 z.1) (p.came x h)))
        (q.came x (subst (Meant g x) (sym p.tables) h));
  }

  -- what ended short ends both
  pub halts : (y : Option Why) {w o : List ℕ} {a : Counts} → Runs g m w₀ o₀ a₀ (short y) w o a → Runs g (λ x. m x >>= f x) w₀ o₀ a₀ (short y) w o a
  halts (Some y) p = record {
    ready = p.ready;
    tables = p.tables;
    came = λ x h. hosted_bind (host_in g x) (f x) (m x) (held w₀ o₀ a₀) ∙ ap (λ (z : End A × Held). then_of (host_in g x) (f x) z.0 z.1) (p.came x h);
  }
  halts None p = record {
    ready = tt;
    tables = tt;
    came = λ x h.
        let z = hosted (host_in g x) (m x) (held w₀ o₀ a₀) in
        subst (λ (z : End B × Held). address_limit < length z.1.view.memory) (sym (hosted_bind (host_in g x) (f x) (m x) (held w₀ o₀ a₀)))
        (le_trans (p.came x h) (grows_then x.world g.how.second (f x) z.0 z.1));
  }

pub assoc : {A B C : Type 0} {g : Given} (m : Scene → Act A) (f : Scene → A → Act B) (k : Scene → B → Act C) {w₀ o₀ : List ℕ} {a₀ : Counts} {e : Ending C} {w o : List ℕ} {a : Counts}
    → Runs g (λ x. m x >>= λ v. f x v >>= k x) w₀ o₀ a₀ e w o a → Runs g (λ x. (m x >>= f x) >>= k x) w₀ o₀ a₀ e w o a
assoc {C = C} {g = g} m f k {w₀} {o₀} {a₀} {e} {w} {o} {a} p = record {
  ready = p.ready;
  tables = p.tables;
  came = λ x h. subst (λ (z : End C × Held). Came z e (held w o a)) (sym (hosted_assoc (host_in g x) (f x) (k x) (m x) (held w₀ o₀ a₀))) (p.came x h);
}

-- the same by an equation of acts, which the tables may show
pub acts : {A : Type 0} {g : Given} {m n : Scene → Act A} {w₀ o₀ : List ℕ} {a₀ : Counts} {e : Ending A} {w o : List ℕ} {a : Counts}
    → ((x : Scene) → Meant g x (tables w₀) → n x ≡ m x) → Runs g m w₀ o₀ a₀ e w o a → Runs g n w₀ o₀ a₀ e w o a
acts {A} {g} {m} {n} {w₀} {o₀} {a₀} {e} {w} {o} {a} p r = record {
  ready = r.ready;
  tables = r.tables;
  came = λ x h. subst (λ (z : Act A). Came (hosted (host_in g x) z (held w₀ o₀ a₀)) e (held w o a)) (sym (p x h)) (r.came x h);
}

-- ---- by what the code tells

-- the same run, told by an equal ending and equal counts
pub told : {A : Type 0} {g : Given} {m : Scene → Act A} {w₀ o₀ : List ℕ} {a₀ : Counts} {e e' : Ending A} {w o : List ℕ} {a a' : Counts} → e' ≡ e → a' ≡ a → Runs g m w₀ o₀ a₀ e w o a → Runs g m w₀ o₀ a₀ e' w o a'
told {A} {g} {m} {w₀} {o₀} {a₀} {e} {e'} {w} {o} {a} {a'} p q r =
    subst (λ (z : Ending A). Runs g m w₀ o₀ a₀ z w o a') (sym p) (subst (λ (z : Counts). Runs g m w₀ o₀ a₀ e w o z) (sym q) r)

-- the pending note is looked at
pub pending_runs : {A : Type 0} {g : Given} (f : Pending → A) {w o : List ℕ} {a : Counts} → Ready g w a
    → Runs g (λ x. pending (λ p. done (f p))) w o a (ended (f (pending_in (note_part w)))) w o a
unfolding hosted code_host held view
pending_runs f p = record { ready = p; tables = refl; came = λ x h. refl }
