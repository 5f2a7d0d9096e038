-- The two streams in the record buffer: what a pass wrote through its part. Assumes nothing.
use mathlib.Core.Path.{◌≡◌, refl, ap, ap₂, ◌∙◌}
use mathlib.Core.Bool.{true, false}
use mathlib.Core.List.{List}
use Prim.Native.Nat.{ℕ, ◌+◌, ◌-◌, ◌^◌, ◌≤◌, ◌<◌, min}
use native.Mathlib.Omega.{arith}
use lib.ListN.{length, take, drop, length-drop}
use lib.Seq.{sets, take_at}
use borrow.Rule.Slice.PartMut.{mid_of, put_mid}
use Rattle.definition.specs.Statements.{Stop}
use Rattle.definition.specs.Record.{Ran, steps_body, questions_body, record_bytes}
use Rattle.workspace.specs.Parts.{questions_place, questions_part}
use Rattle.layout.proofs.StoreLaws.{part_stored}
use Rattle.stream.specs.Stream.{most, Streamed}
use Rattle.stream.specs.Bodies.{steps_place}
use Rattle.stream.proofs.RecordLaws.{length_record}
use Rattle.hosting.specs.declared.Counts.{Counts}
use Rattle.hosting.specs.Ending.{Ending, ended, short}
use Rattle.passes.specs.Passing.{Holds, Keeps, PassedIf, Passes, FirstPassedIf, FirstPasses, QuestionsPut}
use Rattle.passes.proofs.Buffer.{length_part, rest_stored}
use Rattle.passes.proofs.Measures.{few_addresses}

-- ---- the questions beside the tables

length_questions : (w : List ℕ) → length (questions_part w) ≡ length w - questions_place
unfolding questions_part
length_questions w = length-drop questions_place w

-- their cursor can tell how many bytes they have
pub questions_short : (w : List ℕ) → length w < 2 ^ 64 → length (questions_part w) < most
questions_short w h = omega (arith, length_questions w)

-- ---- a part that goes to the end

-- what a stream wrote, if there is room
stream_stored : (s x bytes : List ℕ) (a at : ℕ) → a + length bytes ≤ length s → Streamed (mid_of a (length s - a) s) x at bytes → put_mid a (length s - a) s x ≡ sets s a bytes
stream_stored s x bytes a at h t = rest_stored s x bytes a (length bytes) refl h (t.begun (omega (arith, length_part s a (omega arith))))

-- ---- the first pass

module _ (R : Ran) (s x w₀ w : List ℕ) (a : ℕ) (place : a ≡ min (length s) steps_place) where
  steps_written : (at : ℕ) → Streamed (mid_of a (length s - a) s) x at (steps_body R.steps) → length (record_bytes R) ≤ length s → put_mid a (length s - a) s x ≡ sets s steps_place (steps_body R.steps)
  steps_written at t h =
      let l = length_record R in
      let e : a ≡ steps_place = omega arith in
      stream_stored s x (steps_body R.steps) a at (omega arith) t ∙ ap (λ (k : ℕ). sets s k (steps_body R.steps)) e

  first_if : (e : Ending Stop) (n : Counts) → PassedIf R false (mid_of a (length s - a) s) e w x n → FirstPassedIf R s e (put_mid a (length s - a) s x) w n
  first_if (ended b) n p = record { stop = p.stop; holds = p.holds; keeps = p.beside; written = steps_written n.tally.recorded p.part }
  first_if (short y) n p = p

  pub first_passed : (e : Ending Stop) (n : Counts) → Passes R false (mid_of a (length s - a) s) w₀ e w x n → FirstPasses R s w₀ e (put_mid a (length s - a) s x) w n
  first_passed e n p = record { comes = first_if e n p.comes; tables = p.tables }

-- ---- the questions

-- those that the first pass kept
module _ (R : Ran) (s x w : List ℕ) (q : ℕ) (n : Counts) where
  kept_front : Keeps R w n → n.tally.asked ≤ length (questions_part w) → take n.tally.asked (questions_part w) ≡ questions_body R.questions
  kept_front k h =
      let b = questions_body R.questions in
      let e : n.tally.asked ≡ length b = omega (arith, k.size, k.streamed.room, k.streamed.counted.cursor) in
      ap₂ (λ (m : ℕ) (l : List ℕ). take m l) e (k.streamed.begun (omega (arith, k.size, e))) ∙ take_at b (drop (length b) k.before) (length b) refl

  pub questions_copied : Holds R w n → Keeps R w n → n.tally.asked ≤ length w - questions_place → q + n.tally.asked ≤ length s
      → x ≡ take (questions_place + n.tally.asked - questions_place) (drop questions_place w) → QuestionsPut R s q (put_mid q (q + n.tally.asked - q) s x) w n
  unfolding questions_part
  questions_copied h k l r e =
      let m = n.tally.asked in
      let only : questions_place + m - questions_place ≡ m = omega arith in
      let f : x ≡ questions_body R.questions = e ∙ ap (λ (i : ℕ). take i (questions_part w)) only ∙ kept_front k (omega (arith, length_questions w)) in
      let c : length x ≡ m = ap length f ∙ omega (arith, k.size, k.streamed.room, k.streamed.counted.cursor, length_questions w) in
      record { holds = h; written = part_stored s x q m r c ∙ ap (sets s q) f }

-- those that a second pass wrote
passed_if : (R : Ran) (s x w₀ w : List ℕ) (q : ℕ) (n₀ n : Counts) (e : Ending Stop) → Holds R w₀ n₀ → q + n₀.tally.asked ≤ length s → PassedIf R true (mid_of q (length s - q) s) e w x n
    → QuestionsPut R s q (put_mid q (length s - q) s x) w n
passed_if R s x w₀ w q n₀ n (ended b) h k p = record {
  holds = p.holds;
  written = stream_stored s x (questions_body R.questions) q n.tally.asked (omega (arith, h.questions.cursor, p.part.room, length_part s q (omega arith))) p.part;
}
passed_if R s x w₀ w q n₀ n (short y) h k p = absurd (omega (arith, p, few_addresses R w₀ n₀ h))

pub questions_passed : (R : Ran) (s x w₀ w : List ℕ) (q : ℕ) (n₀ n : Counts) (e : Ending Stop) → Holds R w₀ n₀ → q + n₀.tally.asked ≤ length s → Passes R true (mid_of q (length s - q) s) w₀ e w x n
    → QuestionsPut R s q (put_mid q (length s - q) s x) w n
questions_passed R s x w₀ w q n₀ n e h k p = passed_if R s x w₀ w q n₀ n e h k p.comes
