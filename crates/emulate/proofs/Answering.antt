-- How a call of `run` returns, from what its passes came to. Assumes nothing.
use mathlib.Core.Path.{◌≡◌, sym, ap, ◌∙◌, subst}
use mathlib.Core.Logic.{◌⊎◌, inl, inr}
use mathlib.Core.Bool.{Bool, true, false, not}
use mathlib.Core.List.{List}
use Prim.Native.Nat.{ℕ, ◌≤◌, ◌<◌}
use native.Mathlib.Omega.{arith}
use lib.ListN.{length, replicate}
use lib.Seq.{sets}
use Rattle.std.specs.Prelude.{Result}
use Rattle.std.specs.Result.{IsErrAnd}
use Rattle.std.proofs.lemmas.Result.{err_from_is_err_and}
use Rattle.files.specs.declared.refusal.Refusal.{Refusal}
use Rattle.files.specs.declared.refusal.Refusal.TheVariants.{Workspace}
use Rattle.files.specs.Refusal.{Fault, fault_of, refused, files_fault, refusal}
use Rattle.files.proofs.RefusalLaws.{is_refusal}
use Rattle.definition.specs.Statements as statements
use Rattle.definition.specs.Record.{Ran, steps_body, record_bytes}
use Rattle.definition.specs.Run.{ran, record_of, address_limit, workspace_needed}
use Rattle.definition.specs.Answered.{zeroed, Answered}
use Rattle.definition.proofs.Answered.{refused_by_input, refused_by_workspace, cleared_by_addresses, cleared_by_buffer, cleared_by_length, ran_whole}
use Rattle.stream.specs.declared.Lengths.{Lengths}
use Rattle.stream.specs.Bodies.{steps_place, last_end}
use Rattle.hosting.specs.declared.Counts.{Counts}
use Rattle.hosting.specs.declared.Indexed.{Indexed}
use Rattle.hosting.specs.declared.Stop.{Stop}
use Rattle.hosting.specs.Ending.{Ending, ended}
use Rattle.hosting.specs.Walking.{stop_end}
use Rattle.hosting.specs.Setting.{Tabled}
use Rattle.passes.specs.Passing.{full_of, FirstPassed, FirstPassedIf, FirstPasses}
use Rattle.passes.specs.Writing.{Measured, fits_in, Exact, Ended, Completes}
use Rattle.passes.proofs.Arrival.{tabled_kept, EndsWith, full_end, whole_end, kept_whole}
use Rattle.passes.proofs.Measures.{few_addresses, exact, too_long}
use Rattle.emulate.specs.Answers.{AnswersFrom, length_in}

-- ---- what the first pass came to

module _ (R : Ran) (record₀ w₀ record₁ w : List ℕ) (limit : ℕ) (stop : Stop) (a : Counts) (b : Bool) (told : b ≡ full_of stop) (p : FirstPasses R record₀ w₀ (stop_end limit stop) record₁ w a) where
  pub over_addresses : b ≡ true → address_limit < length R.memory
  over_addresses t = subst (λ (e : Ending statements.Stop). FirstPassedIf R record₀ e record₁ w a) (full_end limit stop (sym told ∙ t)) p.comes

  module _ (t : b ≡ false) where
    ends : EndsWith (stop_end limit stop)
    ends = whole_end limit stop (sym told ∙ t)

    passed : FirstPassed R record₀ ends.stop record₁ w a
    passed = subst (λ (e : Ending statements.Stop). FirstPassedIf R record₀ e record₁ w a) ends.same p.comes

    first_written : length (record_bytes R) ≤ length record₀ → record₁ ≡ sets record₀ steps_place (steps_body R.steps)
    first_written h = passed.written h

    pub first_ended : Ended R limit stop w a
    first_ended = record { holds = passed.holds; keeps = passed.keeps; stop = ends.same ∙ ap ended (sym passed.stop) }

    -- a second pass finds the tables that were made for the first
    pub first_tabled : {routine world : List ℕ} {x : Indexed} → Tabled routine world w₀ x → Tabled routine world w x
    first_tabled h = tabled_kept h (kept_whole ends p.tables)

-- ---- both buffers are cleared

same_zeros : (s t : List ℕ) → length s ≡ length t → zeroed s ≡ zeroed t
same_zeros s t e = ap (λ (n : ℕ). replicate n 0) e

module _ (routine world call record₀ workspace₀ record₁ workspace₁ record₂ workspace₂ : List ℕ) (m : ℕ) (lr : length record₁ ≡ length record₀) (lw : length workspace₁ ≡ length workspace₀)
    (c : (record₂ ≡ zeroed record₁) × (workspace₂ ≡ zeroed workspace₁)) where
  cleared_as : Answered routine world call record₀ workspace₀ m 0 (zeroed record₀) (zeroed workspace₀) → Answered routine world call record₀ workspace₀ m 0 record₂ workspace₂
  cleared_as a =
      rw (c.0, c.1, same_zeros record₁ record₀ lr, same_zeros workspace₁ workspace₀ lw) a

module _ (routine world call record₀ workspace₀ : List ℕ) (ok : refusal routine world call ≡ 0) (room : workspace_needed ≤ length workspace₀) (w₀ record₁ workspace₁ : List ℕ) (limit : ℕ) (stop : Stop) (a : Counts)
    (b : Bool) (told : b ≡ full_of stop) (p : FirstPasses (ran routine world call) record₀ w₀ (stop_end limit stop) record₁ workspace₁ a) where
  -- 21
  pub answers_21 : b ≡ true → (record₂ workspace₂ : List ℕ) → length record₁ ≡ length record₀ → length workspace₁ ≡ length workspace₀
      → (record₂ ≡ zeroed record₁) × (workspace₂ ≡ zeroed workspace₁) → Answered routine world call record₀ workspace₀ 21 0 record₂ workspace₂
  answers_21 t record₂ workspace₂ lr lw c =
      cleared_as routine world call record₀ workspace₀ record₁ workspace₁ record₂ workspace₂ 21 lr lw c
      (cleared_by_addresses routine world call record₀ workspace₀ ok room (over_addresses (ran routine world call) record₀ w₀ record₁ workspace₁ limit stop a b told p t))

  -- what comes after the first pass
  pub answers_on : b ≡ false → (n k : ℕ) (record₂ workspace₂ : List ℕ) → length record₁ ≡ length record₀ → length workspace₁ ≡ length workspace₀
      → AnswersFrom routine world call record₁ workspace₁ n k record₂ workspace₂ → Answered routine world call record₀ workspace₀ n k record₂ workspace₂
  unfolding record_of
  answers_on t n k record₂ workspace₂ lr lw f =
      f.answered record₀ workspace₀ lr lw (first_written (ran routine world call) record₀ w₀ record₁ workspace₁ limit stop a b told p t)

-- ---- after the first pass

module _ (routine world call record₁ workspace₁ : List ℕ) (ok : refusal routine world call ≡ 0) (room : workspace_needed ≤ length workspace₁) (limit : ℕ) (stop : Stop) (a : Counts)
    (f : Ended (ran routine world call) limit stop workspace₁ a) (l : Lengths) (m : Measured workspace₁ a l) (d : Bool) (fit : d ≡ fits_in l (length record₁)) where
  abbrev R : Ran
  R = ran routine world call

  few : length R.memory ≤ address_limit
  few = few_addresses R workspace₁ a f.holds

  -- 22
  over_22 : (record₀ workspace₀ : List ℕ) → workspace_needed ≤ length workspace₀ → length record₁ ≡ length record₀ → (4294967295 < length (record_bytes R)) ⊎ (length record₁ < length (record_bytes R))
      → Answered routine world call record₀ workspace₀ 22 0 (zeroed record₀) (zeroed workspace₀)
  unfolding record_of
  over_22 record₀ workspace₀ r e (inl h) = cleared_by_length routine world call record₀ workspace₀ ok r few h
  over_22 record₀ workspace₀ r e (inr h) = cleared_by_buffer routine world call record₀ workspace₀ ok r few (omega (arith, h, e))

  pub answers_22 : not d ≡ true → (record₂ workspace₂ : List ℕ) → (record₂ ≡ zeroed record₁) × (workspace₂ ≡ zeroed workspace₁)
      → AnswersFrom routine world call record₁ workspace₁ 22 0 record₂ workspace₂
  answers_22 y record₂ workspace₂ c = record {
    answered = λ record₀ workspace₀ lr lw h.
        cleared_as routine world call record₀ workspace₀ record₁ workspace₁ record₂ workspace₂ 22 lr lw c
        (over_22 record₀ workspace₀ (omega (arith, lw)) lr (too_long R workspace₁ a l (length record₁) f.holds m d fit y));
  }

  -- 0
  module _ (y : not d ≡ false) where
    pub is_exact : Exact R l (length record₁)
    is_exact = exact R workspace₁ a l (length record₁) f.holds m d fit y

    pub short_enough : last_end l ≤ 4294967295
    short_enough = is_exact.in_length

    pub answers_whole : (k : ℕ) (record₂ workspace₂ workspace₃ : List ℕ) → length workspace₂ ≡ length workspace₁ → Completes R record₁ record₂ → workspace₃ ≡ zeroed workspace₂ → k ≡ last_end l
        → AnswersFrom routine world call record₁ workspace₁ 0 k record₂ workspace₃
    unfolding record_of
    answers_whole k record₂ workspace₂ workspace₃ lk c z e = record {
      answered = λ record₀ workspace₀ lr lw g.
          let h : length (record_bytes R) ≤ length record₀ = omega (arith, is_exact.whole, is_exact.in_buffer, lr) in
          let s : length (record_bytes R) ≤ 4294967295 = omega (arith, is_exact.whole, is_exact.in_length) in
          rw (e ∙ is_exact.whole, c.written record₀ (g h), z, same_zeros workspace₂ workspace₀ (lk ∙ lw)) (ran_whole routine world call record₀ workspace₀ ok (omega (arith, lw)) few h s);
    }

-- ---- nothing is touched: the exits by `?`

module _ (routine world call record₀ workspace₀ : List ℕ) (r : Result ℕ Refusal) (e : Refusal) (left : IsErrAnd r (λ x. x ≡ e)) where
  exits_as : Answered routine world call record₀ workspace₀ (fault_of e).number (fault_of e).node record₀ workspace₀
      → Answered routine world call record₀ workspace₀ (refused r).number (length_in r) record₀ workspace₀
  exits_as a = let p = err_from_is_err_and r left in rw (p.1, p.2) a

  -- 1 to 9, 30 and 31
  pub answers_input : files_fault routine world call ≡ fault_of e → Answered routine world call record₀ workspace₀ (refused r).number (length_in r) record₀ workspace₀
  answers_input h =
      let n = is_refusal e in
      exits_as (rw h at (refused_by_input routine world call record₀ workspace₀ n.0 (ap (λ (f : Fault). f.number) h ∙ n.1)))

  -- 20
  pub answers_20 : refusal routine world call ≡ 0 → e ≡ Workspace → length workspace₀ < workspace_needed → Answered routine world call record₀ workspace₀ (refused r).number (length_in r) record₀ workspace₀
  answers_20 ok w l = exits_as (rw w (refused_by_workspace routine world call record₀ workspace₀ ok l))
