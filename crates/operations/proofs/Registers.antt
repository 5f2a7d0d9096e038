-- What the registers say after one is set, or where they are the same. Assumes nothing.
use Rattle.std.proofs.Common.{◌≡◌, ℕ, ◌<◌, Bool, true, false, cond, eqb, List, refl, ap, ap₂, ◌∙◌, arith, eqb-true}
use borrow.Author.Tests.{eqb-false}
use Rattle.layout.specs.Format.{bool_of}
use Rattle.value.specs.declared.Val.{Val}
use Rattle.workspace.specs.Parts.{registers_part}
use Rattle.workspace.specs.Registers.{word_count, word_at, value_at}
use Rattle.workspace.specs.View.{View, Does}
use Rattle.workspace.specs.Post.{Aside, SetsWord, SetsValue}
use Rattle.hosting.specs.declared.Counts.{Counts}
use Rattle.hosting.specs.declared.How.{How}
use Rattle.stream.specs.Bodies.{reason_at}
use Rattle.hosting.specs.Held.{with_asked, with_recorded, with_stored}
use Rattle.operations.specs.Registers.{counts_in, units_of, with_units, how_in, short_at, short_in, result_in, told_at, told_in, did_by}
use Rattle.operations.specs.Going.{Beside}

-- ---- where the part is the same

module _ (w w' : List ℕ) (e : registers_part w' ≡ registers_part w) where
  pub counts_same : counts_in w' ≡ counts_in w
  unfolding counts_in
  counts_same = rw e

  pub units_same : units_of (counts_in w') ≡ units_of (counts_in w)
  units_same = ap units_of counts_same

  pub how_same : how_in w' ≡ how_in w
  unfolding how_in
  how_same = rw e

-- so where a function stores bytes
module _ {w : List ℕ} {n : ℕ} {f : View → View} {w' : List ℕ} {n' : ℕ} where
  pub does_counts : Does w n f w' n' → counts_in w' ≡ counts_in w
  does_counts h = counts_same w w' h.registers

  pub does_how : Does w n f w' n' → how_in w' ≡ how_in w
  does_how h = how_same w w' h.registers

-- ---- a word is read

module _ (w : List ℕ) where
  pub stored_word : word_at (registers_part w) 0 ≡ (counts_in w).stored
  unfolding counts_in
  stored_word = refl

  pub recorded_word : word_at (registers_part w) 1 ≡ (counts_in w).tally.recorded
  unfolding counts_in
  recorded_word = refl

  pub asked_word : word_at (registers_part w) 2 ≡ (counts_in w).tally.asked
  unfolding counts_in
  asked_word = refl

  pub left_word : word_at (registers_part w) 3 ≡ (counts_in w).tally.left
  unfolding counts_in
  left_word = refl

  pub entered_word : word_at (registers_part w) 4 ≡ (counts_in w).tally.entered
  unfolding counts_in
  entered_word = refl

  pub steps_word : word_at (registers_part w) 5 ≡ (counts_in w).tally.steps
  unfolding counts_in
  steps_word = refl

  pub depth_word : word_at (registers_part w) 6 ≡ (how_in w).depth
  unfolding how_in
  depth_word = refl

  pub regions_word : word_at (registers_part w) 7 ≡ (how_in w).regions
  unfolding how_in
  regions_word = refl

  pub second_word : bool_of (word_at (registers_part w) 8) ≡ (how_in w).second
  unfolding how_in
  second_word = refl

  pub result_value : value_at (registers_part w) 0 ≡ result_in w
  unfolding result_in
  result_value = refl

-- ---- what they say, by their words

pub counts_by_lem : (w : List ℕ) (a : Counts) → word_at (registers_part w) 0 ≡ a.stored → word_at (registers_part w) 1 ≡ a.tally.recorded → word_at (registers_part w) 2 ≡ a.tally.asked
    → word_at (registers_part w) 3 ≡ a.tally.left → word_at (registers_part w) 4 ≡ a.tally.entered → word_at (registers_part w) 5 ≡ a.tally.steps → counts_in w ≡ a
unfolding counts_in
counts_by_lem w a e₀ e₁ e₂ e₃ e₄ e₅ = rw (e₀, e₁, e₂, e₃, e₄, e₅)

pub how_by : (w : List ℕ) (h : How) → word_at (registers_part w) 6 ≡ h.depth → word_at (registers_part w) 7 ≡ h.regions → bool_of (word_at (registers_part w) 8) ≡ h.second → how_in w ≡ h
unfolding how_in
how_by w h e₆ e₇ e₈ = rw (e₆, e₇, e₈)

pub short_by : (w : List ℕ) (r n : ℕ) → word_at (registers_part w) 9 ≡ r → word_at (registers_part w) 10 ≡ n → short_in w ≡ short_at (reason_at r) n
unfolding short_in
short_by w r n e₉ e₁₀ = ap₂ (λ (k m : ℕ). short_at (reason_at k) m) e₉ e₁₀

pub told_by : (w : List ℕ) (t x n : ℕ) (v : Val) → word_at (registers_part w) 11 ≡ t → word_at (registers_part w) 12 ≡ x → word_at (registers_part w) 13 ≡ n → value_at (registers_part w) 1 ≡ v → told_in w ≡ did_by (told_at t) x n v
unfolding told_in
told_by w t x n v e₁₁ e₁₂ e₁₃ e = rw (e₁₁, e₁₂, e₁₃, e)

-- ---- a word is set

module _ {w : List ℕ} {k x : ℕ} {w' : List ℕ} (h : SetsWord w k x w') where
  -- behind the counts; and not among those of how the run goes
  pub counts_kept : 5 < k → counts_in w' ≡ counts_in w
  unfolding counts_in
  counts_kept l = counts_by_lem w' (counts_in w) (at 0 (omega arith)) (at 1 (omega arith)) (at 2 (omega arith)) (at 3 (omega arith)) (at 4 (omega arith)) (at 5 (omega arith))
    where
      at : (j : ℕ) → j < 6 → word_at (registers_part w') j ≡ word_at (registers_part w) j
      at j m = h.words j (omega arith) (λ q. absurd (omega (arith, q, l)))

  how_else : ((j : ℕ) → 5 < j → j < 9 → j ≡ k → ⊥) → how_in w' ≡ how_in w
  unfolding how_in
  how_else d = how_by w' (how_in w) (at 6 (omega arith) (omega arith)) (at 7 (omega arith) (omega arith)) (ap bool_of (at 8 (omega arith) (omega arith)))
    where
      at : (j : ℕ) → 5 < j → j < 9 → word_at (registers_part w') j ≡ word_at (registers_part w) j
      at j l m = h.words j (omega arith) (d j l m)

  pub how_kept : 8 < k → how_in w' ≡ how_in w
  how_kept l = how_else (λ j _ m q. absurd (omega (arith, q, l, m)))

  pub how_before : k < 6 → how_in w' ≡ how_in w
  how_before l = how_else (λ j m _ q. absurd (omega (arith, q, l, m)))

-- the counts by their words
abbrev counts_by : (ℕ → ℕ) → Counts
counts_by f = record { stored = f 0; tally = record { recorded = f 1; asked = f 2; left = f 3; entered = f 4; steps = f 5 } }

-- one of them is set: the others are as they were
counts_set : {w : List ℕ} {k x : ℕ} {w' : List ℕ} → SetsWord w k x w' → counts_in w' ≡ counts_by (λ j. cond (eqb j k) x (word_at (registers_part w) j))
counts_set {w} {k} {x} {w'} h = counts_by_lem w' (counts_by (λ j. cond (eqb j k) x (word_at (registers_part w) j))) (at 0 (omega arith)) (at 1 (omega arith)) (at 2 (omega arith)) (at 3 (omega arith)) (at 4 (omega arith)) (at 5 (omega arith))
  where
    by : (j : ℕ) (e : Bool) → eqb j k ≡ e → j < word_count → word_at (registers_part w') j ≡ cond e x (word_at (registers_part w) j)
    by j true e l = ap (word_at (registers_part w')) (eqb-true j k e) ∙ h.here
    by j false e l = h.words j l (eqb-false j k e)

    at : (j : ℕ) → j < word_count → word_at (registers_part w') j ≡ cond (eqb j k) x (word_at (registers_part w) j)
    at j l = by j (eqb j k) refl l

module _ {w : List ℕ} {x : ℕ} {w' : List ℕ} where
  -- the number of entries, and the cursors of the steps and of the questions
  pub stored_set : SetsWord w 0 x w' → counts_in w' ≡ with_stored x (counts_in w)
  unfolding counts_in
  stored_set h = counts_set h

  pub recorded_set : SetsWord w 1 x w' → counts_in w' ≡ with_recorded x (counts_in w)
  unfolding counts_in
  recorded_set h = counts_set h

  pub asked_set : SetsWord w 2 x w' → counts_in w' ≡ with_asked x (counts_in w)
  unfolding counts_in
  asked_set h = counts_set h

  -- the units that are left, and those spent on blocks and on statements
  pub left_set : SetsWord w 3 x w' → counts_in w' ≡ with_units (record { left = x; entered = (counts_in w).tally.entered; steps = (counts_in w).tally.steps }) (counts_in w)
  unfolding counts_in
  left_set h = counts_set h

  pub entered_set : SetsWord w 4 x w' → counts_in w' ≡ with_units (record { left = (counts_in w).tally.left; entered = x; steps = (counts_in w).tally.steps }) (counts_in w)
  unfolding counts_in
  entered_set h = counts_set h

  pub steps_set : SetsWord w 5 x w' → counts_in w' ≡ with_units (record { left = (counts_in w).tally.left; entered = (counts_in w).tally.entered; steps = x }) (counts_in w)
  unfolding counts_in
  steps_set h = counts_set h

  pub stored_how : SetsWord w 0 x w' → how_in w' ≡ how_in w
  stored_how h = how_before h (omega arith)

  pub recorded_how : SetsWord w 1 x w' → how_in w' ≡ how_in w
  recorded_how h = how_before h (omega arith)

  pub asked_how : SetsWord w 2 x w' → how_in w' ≡ how_in w
  asked_how h = how_before h (omega arith)

-- ---- a value is set

module _ {w : List ℕ} {k : ℕ} {v : Val} {w' : List ℕ} (h : SetsValue w k v w') where
  pub counts_value : counts_in w' ≡ counts_in w
  unfolding counts_in
  counts_value = counts_by_lem w' (counts_in w) (at 0 (omega arith)) (at 1 (omega arith)) (at 2 (omega arith)) (at 3 (omega arith)) (at 4 (omega arith)) (at 5 (omega arith))
    where
      at : (j : ℕ) → j < word_count → word_at (registers_part w') j ≡ word_at (registers_part w) j
      at = h.words

  pub how_value : how_in w' ≡ how_in w
  unfolding how_in
  how_value = how_by w' (how_in w) (at 6 (omega arith)) (at 7 (omega arith)) (ap bool_of (at 8 (omega arith)))
    where
      at : (j : ℕ) → j < word_count → word_at (registers_part w') j ≡ word_at (registers_part w) j
      at = h.words

-- ---- what is set leaves the counts, and how the run goes

pub aside_aside : {w w₁ w₂ : List ℕ} → Aside w w₁ → Aside w₁ w₂ → Aside w w₂
aside_aside p q = record {
  holds = λ n. q.holds n ∙ p.holds n;
  fit = λ n f. q.fit n (p.fit n f);
  size = q.size ∙ p.size;
  tables = q.tables ∙ p.tables;
  questions = q.questions ∙ p.questions;
}

pub beside_beside : {w w₁ w₂ : List ℕ} → Beside w w₁ → Beside w₁ w₂ → Beside w w₂
beside_beside p q = record { aside = aside_aside p.aside q.aside; counts = q.counts ∙ p.counts; how = q.how ∙ p.how }

pub beside_word : {w : List ℕ} {k x : ℕ} {w' : List ℕ} → 8 < k → SetsWord w k x w' → Beside w w'
beside_word l h = record { aside = h.aside; counts = counts_kept h (omega (arith, l)); how = how_kept h l }

pub beside_value : {w : List ℕ} {k : ℕ} {v : Val} {w' : List ℕ} → SetsValue w k v w' → Beside w w'
beside_value h = record { aside = h.aside; counts = counts_value h; how = how_value h }
