-- Runs that go as the registers say, put together; and what is put in the registers, as such a run. Assumes nothing.
use Rattle.std.proofs.Common.{◌≡◌, ℕ, Bool, true, false, List, sym, refl, ap, ◌∙◌, subst, ap₂}
use Rattle.std.specs.Prelude.{Option, None, Some}
use Rattle.value.specs.declared.Val.{Val}
use Rattle.definition.specs.Act.{Act, done, fail, End, gave, stopped, Why, pending, Pending, ◌>>=◌}
use Rattle.definition.specs.Host.{hosted}
use Rattle.definition.specs.Evaluate.{Did}
use Rattle.workspace.specs.Parts.{tables, note_part}
use Rattle.workspace.specs.Note.{pending_in}
use Rattle.workspace.specs.View.{View}
use Rattle.workspace.specs.Post.{Aside}
use Rattle.hosting.specs.declared.Counts.{Counts}
use Rattle.hosting.specs.declared.How.{How}
use Rattle.hosting.specs.declared.Short.{Short}
use Rattle.hosting.specs.Scene.{Given, Scene, Ready, Meant}
use Rattle.hosting.specs.Held.{Held, held, code_host}
use Rattle.hosting.specs.Ending.{Ending, ended, short, short_of}
use Rattle.hosting.specs.Runs.{Came, Kept, Runs}
use Rattle.hosting.proofs.Running as running
use Rattle.hosting.proofs.Keeping.{kept_ready}
use Rattle.operations.specs.Registers.{counts_in, units_of, how_in, short_in, result_in, end_by, end_in, told_end}
use Rattle.operations.specs.Going.{ReadyIn, Goes, Remains, Beside}
use Rattle.operations.specs.Steps.{Gives, GivesShort, Tells}

-- ---- where the registers alone change

pub aside_held : {w w' : List ℕ} (o : List ℕ) (a : Counts) → Aside w w' → held w' o a ≡ held w o a
unfolding held
aside_held o a h = ap₂ (λ (v : View) (q : List ℕ). record { view = v; out = o; questions = q; tally = a.tally }) (h.holds a.stored) h.questions

pub aside_ready : {g : Given} {w w' : List ℕ} {a : Counts} → Aside w w' → Ready g w a → Ready g w' a
aside_ready {a = a} h p = kept_ready h.tables (h.fit a.stored p.fit) p

came_on : {A : Type 0} (p : End A × Held) (e : Ending A) {s s' : Held} → s' ≡ s → Came p e s → Came p e s'
came_on p (ended a) q c = c ∙ ap (λ (s : Held). (gave a, s)) (sym q)
came_on p (short (Some y)) q c = c ∙ ap (λ (s : Held). (stopped y, s)) (sym q)
came_on p (short None) q c = c

-- after a run, and before it
pub aside_after : {A : Type 0} {g : Given} {m : Scene → Act A} {w₀ o₀ : List ℕ} {a₀ : Counts} {e : Ending A} {w w' o : List ℕ} {a : Counts} → Aside w w' → Runs g m w₀ o₀ a₀ e w o a → Runs g m w₀ o₀ a₀ e w' o a
aside_after {g = g} {m = m} {w₀ = w₀} {o₀ = o₀} {a₀ = a₀} {e = e} {o = o} {a = a} h r = record {
  ready = running.kept_on e (aside_ready h) r.ready;
  came = λ x n. came_on (hosted (code_host x.world g.how.second) (m x) (held w₀ o₀ a₀)) e (aside_held o a h) (r.came x n);
  tables = running.kept_on e (λ t. h.tables ∙ t) r.tables;
}

pub aside_before : {A : Type 0} {g : Given} {m : Scene → Act A} {w₀ w₁ o₀ : List ℕ} {a₀ : Counts} {e : Ending A} {w o : List ℕ} {a : Counts} → Aside w₀ w₁ → Runs g m w₁ o₀ a₀ e w o a → Runs g m w₀ o₀ a₀ e w o a
aside_before {A} {g} {m} {o₀ = o₀} {a₀ = a₀} {e = e} {w = w} {o = o} {a = a} h r = record {
  ready = r.ready;
  came = λ x n. subst (λ (s : Held). Came (hosted (code_host x.world g.how.second) (m x) s) e (held w o a)) (aside_held o₀ a₀ h) (r.came x (subst (Meant g x) (sym h.tables) n));
  tables = running.kept_on e (λ t. t ∙ h.tables) r.tables;
}

-- ---- runs put together

module _ {A : Type 0} {g : How → Given} where
  -- a value is given, or an evaluation ends short, and nothing is done. What is given may be told by the tables
  pub done_goes : (val : Scene → A) {v : A} {w o : List ℕ} → ((h : How) (x : Scene) → Meant (g h) x (tables w) → val x ≡ v) → Goes g (λ x. done (val x)) w o (ended v) w o
  done_goes val e = record { how = refl; units = refl; runs = λ h _ p. running.done_runs val (e h) p }

  pub fail_goes : {y : Why} {w o : List ℕ} → Goes {A = A} g (λ x. fail y) w o (short (Some y)) w o
  fail_goes = record { how = refl; units = refl; runs = λ h _ p. running.fail_runs p }

  pub pending_goes : (f : Pending → A) {w o : List ℕ} → Goes g (λ x. pending (λ p. done (f p))) w o (ended (f (pending_in (note_part w)))) w o
  pending_goes f = record { how = refl; units = refl; runs = λ h _ p. running.pending_runs f p }

module _ {A B : Type 0} {g : How → Given} {m : Scene → Act A} (f : Scene → A → Act B) {w₀ o₀ : List ℕ} where
  pub goes : {v : A} {e : Ending B} {w₁ o₁ w o : List ℕ} → Goes g m w₀ o₀ (ended v) w₁ o₁ → Goes g (λ x. f x v) w₁ o₁ e w o → Goes g (λ x. m x >>= f x) w₀ o₀ e w o
  goes p q = record {
    how = q.how ∙ p.how;
    units = q.units ∙ p.units;
    runs = λ h e r. let u = p.runs h e r in running.goes f u (q.runs h (p.how ∙ e) u.ready);
  }

  pub halts : (y : Option Why) {w o : List ℕ} → Goes g m w₀ o₀ (short y) w o → Goes g (λ x. m x >>= f x) w₀ o₀ (short y) w o
  halts y p = record { how = p.how; units = p.units; runs = λ h e r. running.halts f y (p.runs h e r) }

pub assoc : {A B C : Type 0} {g : How → Given} (m : Scene → Act A) (f : Scene → A → Act B) (k : Scene → B → Act C) {w₀ o₀ : List ℕ} {e : Ending C} {w o : List ℕ}
    → Goes g (λ x. m x >>= λ v. f x v >>= k x) w₀ o₀ e w o → Goes g (λ x. (m x >>= f x) >>= k x) w₀ o₀ e w o
assoc m f k p = record { how = p.how; units = p.units; runs = λ h e r. running.assoc m f k (p.runs h e r) }

-- the same by an equation of acts, which the tables may show
pub acts : {A : Type 0} {g : How → Given} {m n : Scene → Act A} {w₀ o₀ : List ℕ} {e : Ending A} {w o : List ℕ} → ((h : How) (x : Scene) → Meant (g h) x (tables w₀) → n x ≡ m x)
    → Goes g m w₀ o₀ e w o → Goes g n w₀ o₀ e w o
acts p r = record { how = r.how; units = r.units; runs = λ h e q. running.acts (p h) (r.runs h e q) }

-- the same, told by an equal ending
pub told : {A : Type 0} {g : How → Given} {m : Scene → Act A} {w₀ o₀ : List ℕ} {e e' : Ending A} {w o : List ℕ} → e' ≡ e → Goes g m w₀ o₀ e w o → Goes g m w₀ o₀ e' w o
told {A} {g} {m} {w₀} {o₀} {w = w} {o = o} p r = subst (λ (z : Ending A). Goes g m w₀ o₀ z w o) (sym p) r

-- the workspace is in order after a run that gave something
pub ready_after : {A : Type 0} {g : How → Given} {m : Scene → Act A} {w₀ o₀ : List ℕ} {v : A} {w o : List ℕ} → Goes g m w₀ o₀ (ended v) w o → ReadyIn g w₀ → ReadyIn g w
ready_after {g = g} {w₀ = w₀} {w = w} p r = record { ready = subst (λ (h : How). Ready (g h) w (counts_in w)) (sym p.how) (p.runs (how_in w₀) refl r.ready).ready }

-- what it leaves, unless there is no room left
pub remains : {A : Type 0} {g : How → Given} {m : Scene → Act A} {w₀ o₀ : List ℕ} {e : Ending A} {w o : List ℕ} → Goes g m w₀ o₀ e w o → ReadyIn g w₀ → Kept e (Remains g w₀ w)
remains {g = g} {w₀ = w₀} {e = e} {w = w} p r = let u = p.runs (how_in w₀) refl r.ready in both e u.ready u.tables
  where
    both : {B : Type 0} (z : Ending B) → Kept z (Ready (g (how_in w₀)) w (counts_in w)) → Kept z (tables w ≡ tables w₀) → Kept z (Remains g w₀ w)
    both (ended v) i t = record { how = p.how; units = p.units; ready = record { ready = subst (λ (h : How). Ready (g h) w (counts_in w)) (sym p.how) i }; tables = t }
    both (short (Some y)) i t = record { how = p.how; units = p.units; ready = record { ready = subst (λ (h : How). Ready (g h) w (counts_in w)) (sym p.how) i }; tables = t }
    both (short None) i t = tt

-- ---- what is put in the registers

pub beside_after : {A : Type 0} {g : How → Given} {m : Scene → Act A} {w₀ o₀ : List ℕ} {e : Ending A} {w w' o : List ℕ} → Beside w w' → Goes g m w₀ o₀ e w o → Goes g m w₀ o₀ e w' o
beside_after {A} {g} {m} {w₀} {o₀} {e} {w} {w'} {o} b p = record {
  how = b.how ∙ p.how;
  units = ap units_of b.counts ∙ p.units;
  runs = λ h q r. subst (λ (a : Counts). Runs (g h) m w₀ o₀ (counts_in w₀) e w' o a) (sym b.counts) (aside_after b.aside (p.runs h q r));
}

-- the end of what gave a value, or of what ended short
pub by_true : {A : Type 0} {r : Bool} {a b : A} (s : Short) → r ≡ true → a ≡ b → end_by r a s ≡ ended b
by_true {A} {r} {a} {b} s e p = ap (λ (z : Bool). end_by z a s) e ∙ ap (λ (z : A). ended z) p

pub by_false : {A : Type 0} {r : Bool} (a : A) {s u : Short} → r ≡ false → s ≡ u → end_by r a s ≡ short (short_of u)
by_false {A} {r} a {s} {u} e p = ap (λ (z : Bool). end_by z a s) e ∙ ap (λ (z : Short). short (short_of z)) p

module _ {g : How → Given} {w o w' : List ℕ} {r : Bool} where
  pub given_goes : {v : Val} → Gives w v r w' → Goes g (λ x. done v) w o (ended (result_in w')) w' o
  given_goes {v} p = beside_after p.beside (told (ap (λ (z : Val). ended z) p.value) (done_goes (λ _. v) (λ h x m. refl)))

  pub gives_goes : {v : Val} → Gives w v r w' → Goes g (λ x. done v) w o (end_in r w') w' o
  gives_goes p = told (by_true (short_in w') p.yes refl) (given_goes p)

  pub tells_goes : {d : Did} → Tells w d r w' → Goes g (λ x. done d) w o (told_end r w') w' o
  tells_goes {d} p = beside_after p.beside (told (by_true (short_in w') p.yes p.told) (done_goes (λ _. d) (λ h x m. refl)))

  pub short_goes : {A : Type 0} (a : A) {s : Short} {y : Why} → GivesShort w s r w' → short_of s ≡ Some y → Goes {A = A} g (λ x. fail y) w o (end_by r a (short_in w')) w' o
  short_goes a {s} p e = beside_after p.beside (told (by_false a p.no p.why ∙ ap (λ (z : Option Why). short z) e) fail_goes)
