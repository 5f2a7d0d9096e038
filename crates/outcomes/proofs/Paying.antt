-- A unit is paid in the registers. Assumes nothing.
use mathlib.Core.Path.{◌≡◌, sym, ap, ap₂, ◌∙◌, subst}
use mathlib.Core.Bool.{Bool, true, false, not}
use mathlib.Core.List.{List}
use Rattle.std.specs.Prelude.{Option, is_some, is_none}
use Prim.Native.Nat.{ℕ, zero, suc, ◌+◌, ◌-◌, ◌<◌}
use native.Mathlib.Numerals.{add-one}
use native.Mathlib.Omega.{arith}
use Rattle.workspace.specs.Parts.{registers_part}
use Rattle.workspace.specs.Registers.{word_at}
use Rattle.workspace.specs.Post.{SetsWord}
use Rattle.hosting.specs.declared.Counts.{Counts}
use Rattle.hosting.specs.declared.Tally.{Tally}
use Rattle.hosting.specs.declared.How.{How}
use Rattle.hosting.specs.Scene.{Given, Ready}
use Rattle.hosting.specs.Held.{paid_tally}
use Rattle.hosting.proofs.Keeping.{kept_ready}
use Rattle.operations.specs.Registers.{counts_in, with_units}
use Rattle.operations.specs.Going.{ReadyIn}
use Rattle.operations.proofs.Registers.{left_word, entered_word, steps_word, left_set, entered_set, steps_set, how_before, aside_aside}
use Rattle.outcomes.specs.Units.{paid_counts}
use Rattle.outcomes.specs.Post.{Pays}

-- ---- a unit is paid

paid_with : (n : ℕ) (b : Bool) (t : Tally) → 0 < n
    → paid_tally n b t ≡ elim b [
      | true ↦ record { recorded = t.recorded; asked = t.asked; left = n - 1; entered = t.entered + 1; steps = t.steps }
      | false ↦ record { recorded = t.recorded; asked = t.asked; left = n - 1; entered = t.entered; steps = t.steps + 1 }
    ]
paid_with zero b t h = absurd (omega arith)
paid_with (suc n) true t h =
    let z : n ≡ suc n - 1 = omega arith in
    ap₂ (λ (l e : ℕ). record { recorded = t.recorded; asked = t.asked; left = l; entered = e; steps = t.steps }) z (sym (add-one t.entered))
paid_with (suc n) false t h =
    let z : n ≡ suc n - 1 = omega arith in
    ap₂ (λ (l e : ℕ). record { recorded = t.recorded; asked = t.asked; left = l; entered = t.entered; steps = e }) z (sym (add-one t.steps))

abbrev counts_with : Counts → Tally → Counts
counts_with a t = record { stored = a.stored; tally = t }

module _ (a : Counts) {b : Bool} (some : 0 < a.tally.left) where
  paid_block : b ≡ true → with_units (record { left = a.tally.left - 1; entered = a.tally.entered + 1; steps = a.tally.steps }) a ≡ paid_counts b a
  paid_block e = sym (ap (λ (z : Bool). paid_counts z a) e ∙ ap (counts_with a) (paid_with a.tally.left true a.tally some))

  paid_statement : b ≡ false → with_units (record { left = a.tally.left - 1; entered = a.tally.entered; steps = a.tally.steps + 1 }) a ≡ paid_counts b a
  paid_statement e = sym (ap (λ (z : Bool). paid_counts z a) e ∙ ap (counts_with a) (paid_with a.tally.left false a.tally some))

-- paid on a block, by the test of a spot that is before no statement
pub pays_at : (o : Option ℕ) {b : Bool} {w w' : List ℕ} → is_some o ≡ not b → Pays b w w' → Pays (is_none o) w w'
pays_at o {b = true} {w} {w'} e p = subst (λ (z : Bool). Pays (not z) w w') (sym e) p
pays_at o {b = false} {w} {w'} e p = subst (λ (z : Bool). Pays (not z) w w') (sym e) p

-- in the registers: one unit less is left, and one more is spent
module _ {w w₁ : List ℕ} {n : ℕ} (is : n ≡ word_at (registers_part w) 3) (less : SetsWord w 3 (n - 1) w₁) where
  one_less : counts_in w₁ ≡ with_units (record { left = (counts_in w).tally.left - 1; entered = (counts_in w).tally.entered; steps = (counts_in w).tally.steps }) (counts_in w)
  one_less = left_set less ∙ ap (λ (l : ℕ). with_units (record { left = l - 1; entered = (counts_in w).tally.entered; steps = (counts_in w).tally.steps }) (counts_in w)) (is ∙ left_word w)

  paid_on : {b : Bool} {w₂ : List ℕ} {j x : ℕ} → j < 6 → SetsWord w₁ j x w₂ → counts_in w₂ ≡ paid_counts b (counts_in w) → Pays b w w₂
  paid_on l more e = record { aside = aside_aside less.aside more.aside; how = how_before more l ∙ how_before less (omega arith); counts = e }

module _ {w w₁ w₂ : List ℕ} {b : Bool} {n k : ℕ} (some : 0 < (counts_in w).tally.left) (is : n ≡ word_at (registers_part w) 3) (less : SetsWord w 3 (n - 1) w₁) where
  block_paid : b ≡ true → k ≡ word_at (registers_part w₁) 4 → SetsWord w₁ 4 (k + 1) w₂ → Pays b w w₂
  block_paid e was more = paid_on is less (omega arith) more (entered_set more
      ∙ ap₂ (λ (a : Counts) (m : ℕ). with_units (record { left = a.tally.left; entered = m + 1; steps = a.tally.steps }) a) (one_less is less) (was ∙ entered_word w₁ ∙ ap (λ (a : Counts). a.tally.entered) (one_less is less))
      ∙ paid_block (counts_in w) some e)

  statement_paid : b ≡ false → k ≡ word_at (registers_part w₁) 5 → SetsWord w₁ 5 (k + 1) w₂ → Pays b w w₂
  statement_paid e was more = paid_on is less (omega arith) more (steps_set more
      ∙ ap₂ (λ (a : Counts) (m : ℕ). with_units (record { left = a.tally.left; entered = a.tally.entered; steps = m + 1 }) a) (one_less is less) (was ∙ steps_word w₁ ∙ ap (λ (a : Counts). a.tally.steps) (one_less is less))
      ∙ paid_statement (counts_in w) some e)

  -- in the word that is picked
  module _ {j : ℕ} (was : k ≡ word_at (registers_part w₁) j) (more : SetsWord w₁ j (k + 1) w₂) where
    pub pays_block : b ≡ true → j ≡ 4 → Pays b w w₂
    pays_block e z = block_paid e (was ∙ ap (word_at (registers_part w₁)) z) (subst (λ (j : ℕ). SetsWord w₁ j (k + 1) w₂) z more)

    pub pays_statement : b ≡ false → j ≡ 5 → Pays b w w₂
    pays_statement e z = statement_paid e (was ∙ ap (word_at (registers_part w₁)) z) (subst (λ (j : ℕ). SetsWord w₁ j (k + 1) w₂) z more)

-- the workspace is in order after it
module _ {w w' : List ℕ} {b : Bool} (pays : Pays b w w') where
  pub paid_given : {g : Given} → Ready g w (counts_in w) → Ready g w' (counts_in w')
  paid_given {g} r = subst (Ready g w') (sym pays.counts) (kept_ready pays.aside.tables (pays.aside.fit (counts_in w).stored r.fit) r)

  pub paid_ready : {g : How → Given} → ReadyIn g w → ReadyIn g w'
  paid_ready {g} r = record { ready = subst (λ (h : How). Ready (g h) w' (counts_in w')) (sym pays.how) (paid_given r.ready) }
