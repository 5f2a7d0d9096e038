-- What is written after the first pass completes the record. Assumes nothing.
use mathlib.Core.Path.{◌≡◌, refl, sym, ap, ap₂, ◌∙◌}
use mathlib.Core.List.{List}
use Prim.Native.Nat.{ℕ, ◌+◌, ◌*◌, ◌≤◌, ◌<◌}
use native.Mathlib.Omega.{arith}
use lib.ListN.{length}
use lib.Seq.{sets, length-sets}
use Rattle.value.specs.declared.Val.{Val}
use Rattle.memory.specs.Overlay.{Overlay, Cell}
use Rattle.files.specs.Call.{limits_of}
use Rattle.files.specs.Program.{program_of}
use Rattle.files.specs.Refusal.{refusal}
use Rattle.files.proofs.Accepted as accepted
use Rattle.definition.specs.World.{world_of}
use Rattle.memory.specs.Entries.{memory_body}
use Rattle.definition.specs.Record.{Ran, stop_body, counts_body, steps_body, variables_body, questions_body, record_bytes}
use Rattle.definition.specs.Run.{ran}
use Rattle.definition.proofs.Walked.{walks}
use Rattle.workspace.specs.View.{view}
use Rattle.stream.specs.declared.Lengths.{Lengths}
use Rattle.stream.specs.Bodies.{stop_place, counts_place, steps_place, questions_start, pairs_of, lengths_of}
use Rattle.stream.proofs.RecordLaws.{pairs_are, record_written}
use Rattle.hosting.specs.declared.Tally.{Tally}
use Rattle.hosting.specs.declared.Counts.{Counts}
use Rattle.hosting.specs.declared.Stop.{Stop}
use Rattle.hosting.specs.Walking.{stop_end}
use Rattle.passes.specs.Passing.{Holds, QuestionsPut}
use Rattle.passes.specs.Writing.{Exact, PutsStop, PutsFixed, Laid, PutsBodies, Ended, Completes}
use Rattle.workspace.proofs.CopyLaws.{length_body}
use Rattle.passes.proofs.Buffer.{length_memory, length_stored}

-- ---- two bodies one after the other

pub fixed_put : (limit : ℕ) (stop : Stop) (t : Tally) (b₀ b₁ b₂ : List ℕ) → PutsStop limit stop b₀ b₁ → b₂ ≡ sets b₁ counts_place (counts_body t.entered t.steps) → PutsFixed limit stop t b₀ b₂
fixed_put limit stop t b₀ b₁ b₂ p e = record {
  bytes = λ s q. e ∙ ap (λ (b : List ℕ). sets b counts_place (counts_body t.entered t.steps)) (p.bytes s q);
}

pub state_put : (b₀ b₁ b₂ vs ms : List ℕ) (v m : ℕ) → b₁ ≡ sets b₀ v vs → b₂ ≡ sets b₁ m ms → b₂ ≡ sets (sets b₀ v vs) m ms
state_put b₀ b₁ b₂ vs ms v m p q = q ∙ ap (λ (b : List ℕ). sets b m ms) p

module _ (limit : ℕ) (stop : Stop) (w : List ℕ) (a : Counts) (l : Lengths) (b₀ b₁ b₂ b₃ : List ℕ) where
  pub bodies_put : PutsFixed limit stop a.tally b₀ b₁
      → b₂ ≡ sets (sets b₁ (steps_place + l.steps) (variables_body (view w a.stored).variables)) (steps_place + l.steps + l.variables) (memory_body (view w a.stored).memory)
      → b₃ ≡ sets b₂ 0 (pairs_of stop_place (lengths_of l)) → PutsBodies limit stop w a l b₀ b₃
  bodies_put p e d = record {
    bytes = λ s q.
        d ∙ ap (λ (b : List ℕ). sets b 0 (pairs_of stop_place (lengths_of l)))
        (e ∙ ap (λ (b : List ℕ). sets (sets b (steps_place + l.steps) (variables_body (view w a.stored).variables)) (steps_place + l.steps + l.variables) (memory_body (view w a.stored).memory)) (p.bytes s q));
  }

-- ---- what they need

-- each unit is one block or one step, and a call has at most 1,000,000
few_units : (routine world call w : List ℕ) (a : Counts) → refusal routine world call ≡ 0 → Holds (ran routine world call) w a → a.tally.entered + a.tally.steps < 4294967296
unfolding ran limits_of
few_units routine world call w a ok h =
    let c = accepted.call call (accepted.run routine world call ok).call in
    omega (arith, (walks (world_of routine world) (program_of routine) (limits_of call)).most, h.entered, h.recorded, c.steps)

-- the questions have room
pub questions_room : (R : Ran) (limit : ℕ) (x : Stop) (w : List ℕ) (a : Counts) (l : Lengths) (n : ℕ) → Ended R limit x w a → Exact R l n
    → (steps_place ≤ steps_place + l.steps + l.variables + l.memory) × (steps_place + l.steps + l.variables + l.memory + a.tally.asked ≤ n)
questions_room R limit x w a l n f b = (omega arith, omega (arith, b.questions, b.in_buffer, f.holds.questions.cursor))

-- and what is left then is what the lengths say
pub laid : (routine world call b₀ b₁ w : List ℕ) (q : ℕ) (a : Counts) (l : Lengths) → refusal routine world call ≡ 0 → QuestionsPut (ran routine world call) b₀ q b₁ w a → Exact (ran routine world call) l (length b₀)
    → Laid w a l (length b₁)
laid routine world call b₀ b₁ w q a l ok s e =
    let h = s.holds in
    let R = ran routine world call in
    let k : length b₁ ≡ length b₀ = ap length s.written ∙ length-sets b₀ q (questions_body R.questions) in
    record {
      fit = h.fit;
      variables = e.variables ∙ length_body R.variables ∙ ap (λ (m : Overlay Val). length m * 16) (sym h.variables);
      memory = omega (arith, e.memory, length_memory R.memory, length_stored w a.stored, ap (λ (c : Overlay Cell). length c) h.memory);
      units = few_units routine world call w a ok h;
      in_buffer = omega (arith, e.in_buffer, k);
      in_length = e.in_length;
    }

-- ---- all of them

module _ (R : Ran) (limit : ℕ) (x : Stop) (w : List ℕ) (a : Counts) (f : Ended R limit x w a) (l : Lengths) (b₀ b₁ b₂ w' : List ℕ) (a' : Counts) (e : Exact R l (length b₀)) where
  abbrev in_place : Overlay Val → Overlay Cell → List ℕ → List ℕ
  in_place vs ms counts = sets (sets (sets (sets b₁ stop_place (stop_body R.stop)) counts_place counts) (steps_place + l.steps) (variables_body vs)) (steps_place + l.steps + l.variables) (memory_body ms)

  in_place_lem : Holds R w' a' → in_place (view w' a'.stored).variables (view w' a'.stored).memory (counts_body a'.tally.entered a'.tally.steps) ≡ in_place R.variables R.memory (counts_body R.entered R.recorded)
  in_place_lem h =
      ap₂ (λ (vs : Overlay Val) (ms : Overlay Cell). in_place vs ms (counts_body a'.tally.entered a'.tally.steps)) h.variables h.memory
      ∙ ap₂ (λ (n m : ℕ). in_place R.variables R.memory (counts_body n m)) h.entered h.recorded

  pub completes : (steps q : ℕ) → steps ≡ limit → q ≡ questions_start l → QuestionsPut R b₀ q b₁ w' a' → PutsBodies steps x w' a' l b₁ b₂ → Completes R b₀ b₂
  completes steps q hs hq s p = record {
    written = λ old h.
        let v = steps_place + l.steps in
        let m = v + l.variables in
        let k : length b₀ ≡ length old = ap length h ∙ length-sets old steps_place (steps_body R.steps) in
        let z : length (record_bytes R) ≤ length old = omega (arith, e.whole, e.in_buffer) in
        record_written R v m q (omega (arith, e.steps)) (omega (arith, e.variables)) (omega (arith, hq, e.memory)) old z h s.written refl refl refl refl
        (p.bytes R.stop (ap (λ (n : ℕ). stop_end n x) hs ∙ f.stop)
        ∙ ap₂ (λ (t ps : List ℕ). sets t 0 ps) (in_place_lem s.holds) (pairs_are R l e.steps e.variables e.memory e.questions));
  }
