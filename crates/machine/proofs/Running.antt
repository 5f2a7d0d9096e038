-- Running on the code's host, for statements and terminators: what is made of a value, what is caught, a note cleared, a step recorded. Assumes nothing.
use mathlib.Core.Path.{◌≡◌, refl, sym, ap, ap₂, ◌∙◌, subst}
use mathlib.Core.Bool.{Bool, not}
use mathlib.Core.List.{List}
use Rattle.std.specs.Prelude.{Option, None, Some}
use Prim.Native.Nat.{ℕ, ◌<◌}
use lib.ListN.{length}
use Rattle.definition.specs.Act.{Act, done, leave, emit, pending, End, gave, stopped, try, ◌>>=◌, Step}
use Rattle.definition.specs.Host.{hosted}
use Rattle.definition.specs.Run.{address_limit}
use Rattle.definition.specs.Record.{step_fields}
use Rattle.definition.specs.Evaluate.{Did}
use Rattle.definition.specs.Statements as statements
use Rattle.definition.proofs.Hosts.{hosted_try}
use Rattle.workspace.specs.Parts.{note_part, questions_part}
use Rattle.workspace.specs.Note.{pending_in}
use Rattle.workspace.specs.View.{View, view, Changes, leaving}
use Rattle.stream.specs.Stream.{Sent}
use Rattle.stream.specs.Pieces.{step_bytes}
use Rattle.hosting.specs.declared.Counts.{Counts}
use Rattle.hosting.specs.declared.How.{How}
use Rattle.hosting.specs.Scene.{Given, given, Scene, Ready}
use Rattle.hosting.specs.Held.{Held, held, code_host, emitted, recorded_tally, with_recorded}
use Rattle.hosting.specs.Ending.{Ending, ended, short}
use Rattle.hosting.specs.Runs.{Came, Runs}
use Rattle.hosting.proofs.Running.{host_in, kept_on}
use Rattle.hosting.proofs.Keeping.{kept_ready, kept_meant}
use Rattle.operations.specs.Registers.{counts_in, units_of, how_in}
use Rattle.operations.specs.Going.{ReadyIn, Goes}
use Rattle.operations.proofs.Registers.{counts_same, units_same, how_same}
use Rattle.operations.proofs.Going.{aside_held, goes, halts, acts, done_goes, fail_goes}
use Rattle.outcomes.specs.declared.steps.Site.{Site}
use Rattle.outcomes.specs.Endings.{act_of, end_end, bind_end, tried_end}
use Rattle.outcomes.specs.Steps.{step_as}
use Rattle.outcomes.specs.Post.{Sends}

-- ---- what is made of a value

end_goes : {A : Type 0} {g : How → Given} {w o : List ℕ} (e : End A) → Goes g (λ x. act_of e) w o (end_end e) w o
end_goes (gave v) = done_goes (λ x. v) (λ h x m. refl)
end_goes (stopped y) = fail_goes

module _ {A B : Type 0} {g : How → Given} {m : Scene → Act A} {w₀ o₀ w o : List ℕ} (f : A → Act B) (k : A → End B) (same : (v : A) → f v ≡ act_of (k v)) where
  pub then_end : (e : Ending A) → Goes g m w₀ o₀ e w o → Goes g (λ x. m x >>= f) w₀ o₀ (bind_end k e) w o
  then_end (ended v) r = goes (λ x. f) r (acts (λ h x m. same v) (end_goes (k v)))
  then_end (short y) r = halts (λ x. f) y r

-- ---- what is caught

abbrev caught_end : {A : Type 0} → End A × Held → End (End A) × Held
caught_end p = (gave p.0, p.1)

try_runs : {A : Type 0} {g : Given} {m : Scene → Act A} {w₀ o₀ w o : List ℕ} {a₀ a : Counts} (e : Ending A) → Runs g m w₀ o₀ a₀ e w o a → Runs g (λ x. try (m x)) w₀ o₀ a₀ (tried_end (λ z. z) e) w o a
try_runs {g = g} {m = m} {w₀ = w₀} {o₀ = o₀} {a₀ = a₀} (ended v) r = record {
  ready = r.ready;
  came = λ x h. hosted_try (host_in g x) (m x) (held w₀ o₀ a₀) ∙ ap caught_end (r.came x h);
  tables = r.tables;
}
try_runs {g = g} {m = m} {w₀ = w₀} {o₀ = o₀} {a₀ = a₀} (short (Some y)) r = record {
  ready = r.ready;
  came = λ x h. hosted_try (host_in g x) (m x) (held w₀ o₀ a₀) ∙ ap caught_end (r.came x h);
  tables = r.tables;
}
try_runs {A} {g} {m} {w₀} {o₀} {a₀ = a₀} (short None) r = record {
  ready = tt;
  came = λ x h. subst (λ (p : End (End A) × Held). address_limit < length p.1.view.memory) (sym (hosted_try (host_in g x) (m x) (held w₀ o₀ a₀))) (r.came x h);
  tables = tt;
}

module _ {A : Type 0} {g : How → Given} {m : Scene → Act A} {w₀ o₀ w o : List ℕ} where
  pub try_end : (e : Ending A) → Goes g m w₀ o₀ e w o → Goes g (λ x. try (m x)) w₀ o₀ (tried_end (λ z. z) e) w o
  try_end e r = record { how = r.how; units = r.units; runs = λ h q p. try_runs e (r.runs h q p) }

  pub tried_then : {B : Type 0} (f : End A → B) (e : Ending A) → Goes g m w₀ o₀ e w o → Goes g (λ x. try (m x) >>= λ r. done (f r)) w₀ o₀ (tried_end f e) w o
  tried_then f (ended v) r = goes (λ x z. done (f z)) (try_end (ended v) r) (done_goes (λ x. f (gave v)) (λ h x m. refl))
  tried_then f (short (Some y)) r = goes (λ x z. done (f z)) (try_end (short (Some y)) r) (done_goes (λ x. f (stopped y)) (λ h x m. refl))
  tried_then f (short None) r = halts (λ x z. done (f z)) None (try_end (short None) r)

-- ---- a note cleared

leave_runs : {A : Type 0} {g : Given} {p : Option (List ℕ)} {m : Scene → Act A} {w₀ w₁ o₀ : List ℕ} {a₀ : Counts} {e : Ending A} {w o : List ℕ} {a : Counts}
    → Changes w₀ (leaving p) w₁ → Runs g m w₁ o₀ a₀ e w o a → Runs g (λ x. leave p (m x)) w₀ o₀ a₀ e w o a
unfolding hosted code_host held
leave_runs {A} {g} {p} {m} {w₀} {w₁} {o₀} {a₀} {e} {w} {o} {a} c r = record {
  ready = r.ready;
  came = λ x h. subst (λ (s : Held). Came (hosted (host_in g x) (m x) s) e (held w o a))
      (ap₂ (λ (v : View) (q : List ℕ). record { view = v; out = o₀; questions = q; tally = a₀.tally }) (c.holds a₀.stored) c.questions) (r.came x (kept_meant w₀ w₁ c.tables h));
  tables = kept_on e (λ t. t ∙ c.tables) r.tables;
}

cleared : {g : Given} {p : Option (List ℕ)} {w₀ w₁ : List ℕ} → Changes w₀ (leaving p) w₁ → Ready g w₀ (counts_in w₀) → Ready g w₁ (counts_in w₁)
cleared {g} {w₀ = w₀} {w₁ = w₁} c r = subst (Ready g w₁) (sym (counts_same w₀ w₁ c.registers)) (kept_ready c.tables (c.fit (counts_in w₀).stored r.fit) r)

module _ {g : How → Given} {p : Option (List ℕ)} {w₀ w₁ : List ℕ} (c : Changes w₀ (leaving p) w₁) where
  pub cleared_ready : ReadyIn g w₀ → ReadyIn g w₁
  cleared_ready r = record { ready = cleared c (subst (λ (h : How). Ready (g h) w₀ (counts_in w₀)) (sym (how_same w₀ w₁ c.registers)) r.ready) }

  pub leave_goes : {A : Type 0} {m : Scene → Act A} {o₀ : List ℕ} {e : Ending A} {w o : List ℕ} → Goes g m w₁ o₀ e w o → Goes g (λ x. leave p (m x)) w₀ o₀ e w o
  leave_goes {A} {m} {o₀} {e} {w} {o} r = record {
    how = r.how ∙ how_same w₀ w₁ c.registers;
    units = r.units ∙ units_same w₀ w₁ c.registers;
    runs = λ h q i. leave_runs c (subst (λ (a : Counts). Runs (g h) m w₁ o₀ a e w o (counts_in w)) (counts_same w₀ w₁ c.registers) (r.runs h (how_same w₀ w₁ c.registers ∙ q) (cleared c i)));
  }

-- ---- a step recorded

-- what follows a statement's outcome in the definition's `run_statement`
abbrev pub concluding : Site → End statements.Outcome → Act (Option statements.Stop)
concluding s e = do
  p ← pending done
  let o = statements.outcome_of s.address e
  emit (step_as s o.0 p) (done o.1)

-- the workspace is in order after it
pub sent_ready : {g : Given} {site : Site} {d : Did} {w o w' o' : List ℕ} → Sends site d w o w' o' → Ready g w (counts_in w) → Ready g w' (counts_in w')
sent_ready {g} {w = w} {w' = w'} s p = subst (Ready g w') (sym s.counts) (kept_ready s.aside.tables (s.aside.fit (counts_in w).stored p.fit) p)

module _ (site : Site) (e : End statements.Outcome) where
  abbrev outcome : statements.Outcome
  outcome = statements.outcome_of site.address e

  abbrev step_in : List ℕ → Step
  step_in w = step_as site outcome.0 (pending_in (note_part w))

  step_held : (second : Bool) (w o o' : List ℕ) (a : Counts) (c : ℕ) → Sent (not second) o a.tally.recorded (step_bytes (step_fields (step_in w))) o' c
      → emitted second (step_in w) (held w o a) ≡ held w o' (with_recorded c a)
  unfolding held emitted
  step_held second w o o' a c s =
      ap₂ (λ (out : List ℕ) (n : ℕ). record { view = view w a.stored; out = out; questions = questions_part w; tally = recorded_tally n a.tally })
      (sym s.part) (sym s.cursor)

  hosted_step : (g : Given) (x : Scene) (w o : List ℕ) (a : Counts) → hosted (host_in g x) (concluding site e) (held w o a) ≡ (gave outcome.1, emitted g.how.second (step_in w) (held w o a))
  unfolding hosted code_host held view ◌>>=◌
  hosted_step g x w o a = refl

  pub step_goes : {b s r : List ℕ} {w o w' o' : List ℕ} → Sends site outcome.0 w o w' o' → Goes (given b s r) (λ x. concluding site e) w o (ended outcome.1) w' o'
  step_goes {b} {s} {r} {w} {o} {w'} {o'} t = record {
    how = t.how;
    units = ap units_of t.counts;
    runs = λ h q p. record {
      ready = sent_ready t p;
      came = λ x m. hosted_step (given b s r h) x w o (counts_in w) ∙ ap (λ (z : Held). (gave outcome.1, z)) (after h q);
      tables = t.aside.tables;
    };
  }
    where
      after : (h : How) → how_in w ≡ h → emitted h.second (step_in w) (held w o (counts_in w)) ≡ held w' o' (counts_in w')
      after h q =
          step_held h.second w o o' (counts_in w) (counts_in w').tally.recorded
          (subst (λ (z : How). Sent (not z.second) o (counts_in w).tally.recorded (step_bytes (step_fields (step_in w))) o' (counts_in w').tally.recorded) q t.sent)
          ∙ ap (held w o') (sym t.counts)
          ∙ sym (aside_held o' (counts_in w') t.aside)
