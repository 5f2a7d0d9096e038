-- A statement's step, and the statement as a run on the code's host. Assumes nothing.
use mathlib.Core.Path.{◌≡◌, refl, sym, ap, ap₂, ◌∙◌, subst}
use mathlib.Core.List.{List}
use Rattle.std.specs.Prelude.{Option, None, Some, Result, Ok, Err}
use Prim.Native.Nat.{ℕ, ◌+◌, ◌*◌, ◌≤◌}
use lib.ListN.{length}
use Rattle.files.specs.Program.{Program, Tree, tree_at, statement_at}
use Rattle.definition.specs.Act.{Act, done, leave, emit, pending, End, gave, stopped, try, ◌>>=◌}
use Rattle.definition.specs.Evaluate.{Env, look}
use Rattle.definition.specs.Evaluate as ev
use Rattle.definition.specs.Statements as statements
use Rattle.index.specs.declared.blocks.Statement.{Statement}
use Rattle.index.specs.Blocks.{States}
use Rattle.workspace.specs.View.{Changes, leaving}
use Rattle.hosting.specs.declared.How.{How}
use Rattle.hosting.specs.declared.Facts.{Facts}
use Rattle.hosting.specs.declared.Short.{Short}
use Rattle.hosting.specs.declared.Short.TheVariants.{Full, Why}
use Rattle.hosting.specs.declared.Stop.{Stop}
use Rattle.hosting.specs.Stands.{Stands, Fine}
use Rattle.hosting.specs.Scene.{Given, given, Scene, Ready}
use Rattle.hosting.specs.Ending.{Ending, ended, short}
use Rattle.hosting.specs.Runs.{Kept}
use Rattle.hosting.proofs.Shapes.{fine}
use Rattle.operations.specs.Registers.{counts_in, units_of, how_in}
use Rattle.operations.specs.Going.{Goes, Remains}
use Rattle.operations.proofs.Registers.{units_same, how_same}
use Rattle.operations.proofs.Going.{goes, halts, acts, told}
use Rattle.outcomes.specs.declared.steps.Site.{Site}
use Rattle.outcomes.specs.declared.roots.Acts.{Acts}
use Rattle.outcomes.specs.Endings.{tried_end, acts_end}
use Rattle.outcomes.specs.Sorts.{RootsOf}
use Rattle.machine.specs.Statements.{Acting, RunsStatement}
use Rattle.outcomes.specs.Post.{Sends, SendsIf, Concludes}
use Rattle.machine.proofs.Running.{try_end, leave_goes, concluding, sent_ready, step_goes}

-- ---- what is kept unless there is no room

pub kept_acts : (at at' : Option ℕ) {F G : Type 0} (o : Result Acts Short) → (F → G) → Kept (acts_end at o) F → Kept (acts_end at' o) G
kept_acts at at' (Ok a) h f = h f
kept_acts at at' (Err Full) h f = tt
kept_acts at at' (Err (Why r n)) h f = h f

-- ---- the outcome, caught, and its step

blank : {A : Type 0} {g : How → Given} {m : Scene → Act A} {w₀ o₀ w o w' o' : List ℕ} → w' ≡ w → Goes g m w₀ o₀ (short None) w o → Goes g m w₀ o₀ (short None) w' o'
blank e r = record {
  how = ap how_in e ∙ r.how;
  units = ap (λ (z : List ℕ). units_of (counts_in z)) e ∙ r.units;
  runs = λ h q p. record { ready = tt; came = (r.runs h q p).came; tables = tt };
}

abbrev stop_in : Site → End statements.Outcome → Option statements.Stop
stop_in site z = (statements.outcome_of site.address z).1

module _ (b s r : List ℕ) (site : Site) (w o w' o' : List ℕ) where
  concludes : (m : Scene → Act statements.Outcome) {w₀ o₀ : List ℕ} (e : Ending statements.Outcome) → Goes (given b s r) m w₀ o₀ e w o → SendsIf site e w o w' o'
      → Goes (given b s r) (λ x. try (m x) >>= concluding site) w₀ o₀ (tried_end (stop_in site) e) w' o'
  concludes m (ended v) p t = goes (λ x. concluding site) (try_end (ended v) p) (step_goes site (gave v) t)
  concludes m (short (Some y)) p t = goes (λ x. concluding site) (try_end (short (Some y)) p) (step_goes site (stopped y) t)
  concludes m (short None) p t = blank t (halts (λ x. concluding site) None (try_end (short None) p))

  -- what it leaves
  sent_remains : {d : ev.Did} {w₀ : List ℕ} → Sends site d w o w' o' → Remains (given b s r) w₀ w → Remains (given b s r) w₀ w'
  sent_remains t p = record {
    how = t.how ∙ p.how;
    units = ap units_of t.counts ∙ p.units;
    ready = record { ready = subst (λ (h : How). Ready (given b s r h) w' (counts_in w')) (sym t.how) (sent_ready t p.ready.ready) };
    tables = t.aside.tables ∙ p.tables;
  }

  concludes_remains : (w₀ : List ℕ) (e : Ending statements.Outcome) → Kept e (Remains (given b s r) w₀ w) → SendsIf site e w o w' o' → Kept (tried_end (stop_in site) e) (Remains (given b s r) w₀ w')
  concludes_remains w₀ (ended v) p t = sent_remains t p
  concludes_remains w₀ (short (Some y)) p t = sent_remains t p
  concludes_remains w₀ (short None) p t = tt

-- ---- a statement

-- the definition's `run_statement`, by the address and the root
abbrev stated : Program → Env → (b k : ℕ) → Option ℕ → Tree → Act (Option statements.Stop)
stated P E b k at t = leave None (do
  e ← try (statements.outcome P E at (look E t))
  p ← pending done
  let o = statements.outcome_of at e
  emit (record { address = at; block = b; statement = k; wrote = o.0.wrote; note = statements.note_of o.0.note p }) (done o.1))

statement_is : (P : Program) (E : Env) (nodes ss : List ℕ) (b k : ℕ) → statements.run_statement P E b (statement_at nodes ss k) ≡ stated P E b k (statement_at nodes ss k).address (statement_at nodes ss k).root
unfolding statements.run_statement
statement_is P E nodes ss b k = refl

root_stands : {nodes ss : List ℕ} {k : ℕ} {s : Statement} → RootsOf nodes ss → k * 13 + 13 ≤ length ss → States ss k s → Stands nodes s.root (tree_at nodes s.root)
root_stands {nodes} {k = k} all l s = subst (λ (n : ℕ). Stands nodes n (tree_at nodes n)) (sym s.node) (all.roots k l)

pub root_fine : {nodes ss : List ℕ} {k : ℕ} {s : Statement} → RootsOf nodes ss → k * 13 + 13 ≤ length ss → States ss k s → Fine nodes s.root
root_fine all l s = fine (root_stands all l s)

-- what is left after a note was cleared
cleared_remains : {g : How → Given} {p : Option (List ℕ)} {w₀ w₁ w : List ℕ} → Changes w₀ (leaving p) w₁ → Remains g w₁ w → Remains g w₀ w
cleared_remains {w₀ = w₀} {w₁ = w₁} c r = record {
  how = r.how ∙ how_same w₀ w₁ c.registers;
  units = r.units ∙ units_same w₀ w₁ c.registers;
  ready = r.ready;
  tables = r.tables ∙ c.tables;
}

abbrev site_of : Statement → ℕ → ℕ → Site
site_of s b k = record { address = s.address; block = b; statement = k }

module _ {b s r ss : List ℕ} {f : Facts} {n k : ℕ} {w₀ w₁ o₀ w o w' o' : List ℕ} {t : Statement} {q : Result Acts Short} {h : Option Stop}
    (all : RootsOf b ss) (l : k * 13 + 13 ≤ length ss) (cleared : Changes w₀ (leaving None) w₁) (states : States ss k t) (acted : Acting b s r f t.root w₁ o₀ q w o) where
  pub statement_runs : Concludes (site_of t n k) w o q h w' o' → RunsStatement b s r ss f n k w₀ o₀ h w' o'
  statement_runs c = record {
    goes = λ P named limit.
        let at = t.address in
        told (c.halt.is limit)
        (acts (λ h x m. statement_is P x.env b ss n k ∙ ap₂ (λ (z : Option ℕ) (u : Tree). stated P x.env n k z u) (states.address b) (states.root b))
        (leave_goes cleared (concludes b s r (site_of t n k) w o w' o' _ (acts_end at q) (acted.goes P named at (tree_at b t.root) (root_stands all l states)) c.sends)));
    remains =
        let at = t.address in
        subst (λ (z : Ending (Option statements.Stop)). Kept z (Remains (given b s r) w₀ w')) (sym (c.halt.is 0))
        (concludes_remains b s r (site_of t n k) w o w' o' w₀ (acts_end at q) (kept_acts None at q (cleared_remains cleared) acted.remains) c.sends);
  }
