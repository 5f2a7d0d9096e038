-- How a call ends, from what is the case: which number comes first, and what is known of an accepted run. Assumes nothing.
use mathlib.Core.Path.{◌≡◌, refl, sym, ap, ap₂, ◌∙◌}
use mathlib.Core.Bool.{Bool, true, false, ◌||◌}
use mathlib.Core.List.{List}
use Prim.Native.Nat.{ℕ, zero, suc, ◌≤◌, ◌<◌}
use native.Mathlib.Nat.{suc-ne-zero}
use lib.ListN.{length}
use lib.Dec.{ltb}
use borrow.Author.Tests.{lt-ltb, le-ltb, ltb-false}
use Rattle.files.specs.Refusal.{Fault, fault, refusal, files_fault, constant_refusal, constant_fault}
use Rattle.definition.specs.Run.{ran, record_of, Verdict, refused, cleared, accepted, number_for, workspace_needed, address_limit, from_state, verdict, number}
use Rattle.definition.specs.Constant.{constant_run, constant_verdict}

-- ---- from the state

abbrev state_tests : (over long : Bool) → Verdict
state_tests over long = elim over [ true ↦ cleared 21 | false ↦ elim long [ true ↦ cleared 22 | false ↦ accepted ] ]

or_right : (a b : Bool) → b ≡ true → (a || b) ≡ true
or_right true b e = refl
or_right false b e = e

pub record Fits (addresses bytes buffer : ℕ) : Type 0 where
  pub few : addresses ≤ address_limit
  pub in_buffer : bytes ≤ buffer
  pub in_length : bytes ≤ 4294967295

module _ (addresses bytes buffer : ℕ) where
  pub over : address_limit < addresses → from_state addresses bytes buffer ≡ cleared 21
  unfolding from_state
  over h = ap (λ (b : Bool). state_tests b (ltb buffer bytes || ltb 4294967295 bytes)) (lt-ltb address_limit addresses h)

  pub over_buffer : addresses ≤ address_limit → buffer < bytes → from_state addresses bytes buffer ≡ cleared 22
  unfolding from_state
  over_buffer few h = ap₂ state_tests (le-ltb address_limit addresses few) (ap (λ (b : Bool). b || ltb 4294967295 bytes) (lt-ltb buffer bytes h))

  pub over_length : addresses ≤ address_limit → 4294967295 < bytes → from_state addresses bytes buffer ≡ cleared 22
  unfolding from_state
  over_length few h =
      ap₂ state_tests (le-ltb address_limit addresses few) (or_right (ltb buffer bytes) (ltb 4294967295 bytes) (lt-ltb 4294967295 bytes h))

  pub fits : Fits addresses bytes buffer → from_state addresses bytes buffer ≡ accepted
  unfolding from_state
  fits f =
      ap₂ state_tests (le-ltb address_limit addresses f.few) (ap₂ ◌||◌ (le-ltb buffer bytes f.in_buffer) (le-ltb 4294967295 bytes f.in_length))

  pub fitting : number_for (from_state addresses bytes buffer) ≡ 0 → Fits addresses bytes buffer
  unfolding from_state
  fitting e = go (ltb address_limit addresses) (ltb buffer bytes) (ltb 4294967295 bytes) refl refl refl e
    where
      go : (a b c : Bool) → ltb address_limit addresses ≡ a → ltb buffer bytes ≡ b → ltb 4294967295 bytes ≡ c
          → number_for (state_tests a (b || c)) ≡ 0 → Fits addresses bytes buffer
      go true b c p q r e' = absurd (suc-ne-zero 20 e')
      go false true c p q r e' = absurd (suc-ne-zero 21 e')
      go false false true p q r e' = absurd (suc-ne-zero 21 e')
      go false false false p q r e' = record {
        few = ltb-false address_limit addresses p;
        in_buffer = ltb-false buffer bytes q;
        in_length = ltb-false 4294967295 bytes r;
      }

-- ---- from the input, then the workspace, then the state

abbrev tests : Fault → (number : ℕ) → (small : Bool) → Verdict → Verdict
tests f n small v = elim n [ zero ↦ elim small [ true ↦ refused (fault 20) | false ↦ v ] | suc m ↦ refused f ]

module _ (routine world call : List ℕ) (buffer workspace : ℕ) where
  abbrev pub run_state : Verdict
  run_state = from_state (length (ran routine world call).memory) (length (record_of routine world call)) buffer

  pub from_input : (n : ℕ) → refusal routine world call ≡ suc n → verdict routine world call buffer workspace ≡ refused (files_fault routine world call)
  unfolding verdict
  from_input n e = ap (λ (m : ℕ). tests (files_fault routine world call) m (ltb workspace workspace_needed) run_state) e

  module _ (ok : refusal routine world call ≡ 0) where
    pub small_workspace : workspace < workspace_needed → verdict routine world call buffer workspace ≡ refused (fault 20)
    unfolding verdict
    small_workspace h = rw (ok, lt-ltb workspace workspace_needed h, verdict)

    pub from_state_lem : workspace_needed ≤ workspace → verdict routine world call buffer workspace ≡ run_state
    unfolding verdict
    from_state_lem h = rw (ok, le-ltb workspace workspace_needed h, verdict)

  -- an accepted run's files are accepted, its workspace is long enough, and its memory and record fit
  pub record AcceptedRun : Type 0 where
    pub files : refusal routine world call ≡ 0
    pub room : workspace_needed ≤ workspace
    pub state : Fits (length (ran routine world call).memory) (length (record_of routine world call)) buffer

  pub accepted_run : number routine world call buffer workspace ≡ 0 → AcceptedRun
  unfolding number verdict
  accepted_run e = go (refusal routine world call) (ltb workspace workspace_needed) refl refl e
    where
      go : (n : ℕ) (b : Bool) → refusal routine world call ≡ n → ltb workspace workspace_needed ≡ b → number_for (tests (files_fault routine world call) n b run_state) ≡ 0 → AcceptedRun
      go (suc m) b p q e' = absurd (suc-ne-zero m (sym p ∙ e'))
      go zero true p q e' = absurd (suc-ne-zero 19 e')
      go zero false p q e' = record { files = p; room = ltb-false workspace workspace_needed q; state = fitting _ _ buffer e' }

module _ (routine : List ℕ) (node workspace : ℕ) where
  abbrev pub constant_state : Verdict
  constant_state = from_state (length (constant_run routine node).after.memory) 0 0

  pub constant_from_input : (n : ℕ) → constant_refusal routine node ≡ suc n → constant_verdict routine node workspace ≡ refused (constant_fault routine node)
  unfolding constant_verdict
  constant_from_input n e = ap (λ (m : ℕ). tests (constant_fault routine node) m (ltb workspace workspace_needed) constant_state) e

  module _ (ok : constant_refusal routine node ≡ 0) where
    pub constant_small_workspace : workspace < workspace_needed → constant_verdict routine node workspace ≡ refused (fault 20)
    unfolding constant_verdict
    constant_small_workspace h = rw (ok, lt-ltb workspace workspace_needed h, constant_verdict)

    pub constant_from_state : workspace_needed ≤ workspace → constant_verdict routine node workspace ≡ constant_state
    unfolding constant_verdict
    constant_from_state h = rw (ok, le-ltb workspace workspace_needed h, constant_verdict)
