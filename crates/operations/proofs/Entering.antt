-- Where the registers are told how a run goes and its counts: what goes as they say, told as it was handed over. Assumes nothing.
use Rattle.std.proofs.Common.{ℕ, List, sym, subst}
use Rattle.definition.specs.Act.{Act}
use Rattle.hosting.specs.declared.Counts.{Counts}
use Rattle.hosting.specs.declared.How.{How}
use Rattle.hosting.specs.Scene.{given, Scene, Ready}
use Rattle.hosting.specs.Ending.{Ending}
use Rattle.hosting.specs.Runs.{Runs}
use Rattle.operations.specs.Registers.{counts_in}
use Rattle.operations.specs.Going.{ReadyIn, Goes}
use Rattle.operations.specs.Steps.{Enters}
use Rattle.operations.proofs.Going.{aside_ready, aside_before}

module _ {b s r : List ℕ} {w₀ : List ℕ} {h : How} {a₀ : Counts} {w₁ : List ℕ} (en : Enters w₀ h a₀ w₁) where
  -- a run from the registers is one from what was handed over
  pub enters_before : {A : Type 0} {m : Scene → Act A} {o₀ : List ℕ} {e : Ending A} {w o : List ℕ} {a : Counts} → Runs (given b s r h) m w₁ o₀ (counts_in w₁) e w o a → Runs (given b s r h) m w₀ o₀ a₀ e w o a
  enters_before {A} {m} {o₀} {e} {w} {o} {a} u = aside_before en.aside (subst (λ (c : Counts). Runs (given b s r h) m w₁ o₀ c e w o a) en.counts u)

  module _ (p : Ready (given b s r h) w₀ a₀) where
    entered : Ready (given b s r h) w₁ (counts_in w₁)
    entered = subst (Ready (given b s r h) w₁) (sym en.counts) (aside_ready en.aside p)

    pub enters_ready : ReadyIn (given b s r) w₁
    enters_ready = record { ready = subst (λ (z : How). Ready (given b s r z) w₁ (counts_in w₁)) (sym en.how) entered }

    pub enters_runs : {A : Type 0} {m : Scene → Act A} {o₀ : List ℕ} {e : Ending A} {w o : List ℕ} → Goes (given b s r) m w₁ o₀ e w o → Runs (given b s r h) m w₀ o₀ a₀ e w o (counts_in w)
    enters_runs g = enters_before (g.runs h en.how entered)
