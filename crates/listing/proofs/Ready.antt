-- An accepted run: what its routine and its record give to those that print its lines. Assumes nothing.
use mathlib.Core.Path.{◌≡◌, sym, ap, ap₂, ◌∙◌, subst}
use mathlib.Core.List.{List}
use Prim.Native.Nat.{ℕ, ◌≤◌, ◌<◌}
use native.Mathlib.Omega.{arith}
use native.Mathlib.Nat.{min-le_right}
use lib.ListN.{length, take, length-append, length-take}
use Rattle.layout.specs.Number.{number_at}
use Rattle.files.specs.FileTable.{body}
use Rattle.files.specs.Refusal.{routine_refusal}
use Rattle.files.proofs.Accepted.{run}
use Rattle.index.specs.Texts.{text_count, Texts}
use Rattle.index.proofs.Accepted.{routine_names_lem}
use Rattle.definition.specs.Record.{join, pairs, layout, Ran, bodies, record_bytes, body_at}
use Rattle.definition.specs.Run.{ran, number, record_of, workspace_needed}
use Rattle.definition.specs.Answered.{Answered}
use Rattle.definition.proofs.Verdict.{accepted_run}
use Rattle.definition.proofs.Answered.{length_left, record_left}
use Rattle.text.specs.Read.{StopThere}
use Rattle.text.proofs.Listing.{stop_inside, steps_inside, variables_inside}
use Rattle.text.proofs.FitPrograms.{head_there, record_short}
use Rattle.text.proofs.Listed.{stop_ready, steps_ready, variables_ready}
use Rattle.listing.specs.Accepted.{Listable, RunOf}

-- ---- the bodies of a record

module _ {n : ℕ} {r b : List ℕ} (l : Listable n r) where
  pub stop_of_lem : b ≡ body_at r 0 → StopThere n b
  stop_of_lem e = subst (λ (s : List ℕ). StopThere n s) (sym e) l.stop

-- the six pairs
record_long : (r : Ran) → 48 ≤ length (record_bytes r)
unfolding record_bytes layout
record_long r = omega (arith, length-append (pairs 48 (bodies r)) (join (bodies r)))

module _ (routine world call : List ℕ) (h : number routine world call 65536 workspace_needed ≡ 0) where
  abbrev run_record : Ran
  run_record = ran routine world call

  record_listable : Listable (text_count (body routine 0)) (record_of routine world call)
  unfolding record_of
  record_listable =
      let short = record_short routine world call 65536 workspace_needed h in
      record {
        stop_at = record { told = omega (arith, record_long run_record); within = stop_inside run_record short };
        steps_at = record { told = omega (arith, record_long run_record); within = steps_inside run_record short };
        variables_at = record { told = omega (arith, record_long run_record); within = variables_inside run_record short };
        stop = stop_ready routine world call h;
        steps = steps_ready routine world call h;
        variables = variables_ready routine world call h;
      }

-- ---- an accepted run

module _ {routine bytes : List ℕ} (x : RunOf routine bytes) where
  pub routine_good : routine_refusal routine ≡ 0
  routine_good = (run routine x.world x.call (accepted_run routine x.world x.call 65536 workspace_needed x.accepted).files).routine

  module _ {names : List ℕ} (e : names ≡ body routine 0) where
    pub names_ready : Texts names
    names_ready = subst (λ (s : List ℕ). Texts s) (sym e) (routine_names_lem routine routine_good)

    pub head_ready : {head : List ℕ} → head ≡ body routine 2 → (10 ≤ length head) × (number_at head 0 2 < text_count names)
    head_ready {head} f = rw (e, f) (head_there routine routine_good)

    pub record_ready : Listable (text_count names) bytes
    record_ready = rw (e, x.is) (record_listable routine x.world x.call x.accepted)

-- ---- what a run leaves that gave 0

module _ {routine world call record₀ workspace₀ : List ℕ} {n l : ℕ} {record₁ workspace₁ : List ℕ}
    (a : Answered routine world call record₀ workspace₀ n l record₁ workspace₁) (zero_is : n ≡ 0) where
  answered_zero : Answered routine world call record₀ workspace₀ 0 l record₁ workspace₁
  answered_zero = subst (λ (k : ℕ). Answered routine world call record₀ workspace₀ k l record₁ workspace₁) zero_is a

  record_taken : take l record₁ ≡ record_of routine world call
  record_taken = record_left routine world call record₀ workspace₀ l record₁ workspace₁ answered_zero

  -- it is as long as the answer says, and lies in the buffer
  pub taken_long : l ≡ length (take l record₁)
  taken_long = length_left routine world call record₀ workspace₀ l record₁ workspace₁ answered_zero ∙ ap length (sym record_taken)

  pub taken_inside : l ≤ length record₁
  taken_inside = omega (arith, taken_long, length-take l record₁, min-le_right l (length record₁))

  pub run_of : length record₀ ≡ 65536 → length workspace₀ ≡ 65536 → RunOf routine (take l record₁)
  run_of p q = record {
    world = world;
    call = call;
    accepted = sym (ap₂ (λ (b w : ℕ). number routine world call b w) p q) ∙ sym a.number ∙ zero_is;
    is = record_taken;
  }
