-- The bodies' lengths, as the counts tell them, and whether the record has room. Assumes nothing.
use mathlib.Core.Path.{◌≡◌, refl, sym, ap, ◌∙◌}
use mathlib.Core.Logic.{◌⊎◌, inl, inr}
use mathlib.Core.Bool.{Bool, true, false, not, ◌&&◌, true≢false}
use mathlib.Core.List.{List}
use Rattle.std.specs.Prelude.{Option, None, Some}
use Prim.Native.Nat.{ℕ, zero, suc, ◌*◌, ◌≤◌, ◌<◌}
use native.Mathlib.Omega.{arith}
use lib.ListN.{length}
use lib.Dec.{leb}
use borrow.Author.Tests.{lt-leb, leb-true, leb-false}
use Rattle.value.specs.declared.Val.{Val}
use Rattle.memory.specs.Overlay.{Overlay, Cell}
use Rattle.memory.specs.Entries.{memory_body}
use Rattle.definition.specs.Record.{Ran, steps_body, variables_body, questions_body, record_bytes}
use Rattle.definition.specs.Run.{address_limit}
use Rattle.workspace.specs.Parts.{frame_part}
use Rattle.workspace.specs.Variables.{slot_at, entry_if, those, name_limit, variables_in}
use Rattle.workspace.specs.View.{view, Fit}
use Rattle.stream.specs.declared.Lengths.{Lengths}
use Rattle.stream.specs.Bodies.{last_end}
use Rattle.stream.proofs.RecordLaws.{length_record}
use Rattle.hosting.specs.declared.Counts.{Counts}
use Rattle.passes.specs.Passing.{Holds}
use Rattle.passes.specs.Writing.{Measured, fits_in, Exact}
use Rattle.workspace.proofs.CopyLaws.{length_body}
use Rattle.passes.proofs.Buffer.{length_memory, length_stored}

-- ---- measured

those_short : (f : ℕ → Option Val) (x n : ℕ) → length (those f x n) ≤ n
unfolding those
those_short f x zero = omega arith
those_short f x (suc n) = go (f x) (those_short f (suc x) n)
  where
    go : (o : Option Val) → length (those f (suc x) n) ≤ n → length (entry_if x o (those f (suc x) n)) ≤ suc n
    go None h = omega arith
    go (Some v) h = omega arith

pub few_variables : (f : List ℕ) (n : ℕ) → n ≡ length (variables_in f) → n ≤ 512
unfolding variables_in
few_variables f n e = omega (arith, e, those_short (slot_at f) 0 name_limit)

pub measured : (w : List ℕ) (a : Counts) (n : ℕ) → Fit w a.stored → n ≡ length (variables_in (frame_part w))
    → Measured w a (record { steps = a.tally.recorded; variables = n * 16; memory = a.stored * 9; questions = a.tally.asked })
unfolding view
measured w a n f e = record {
  steps = refl;
  variables = ap (λ (k : ℕ). k * 16) e;
  memory = refl;
  questions = refl;
  few = omega (arith, few_variables (frame_part w) n e);
  little = omega (arith, f.sorted.placed);
}

-- ---- whether there is room

pub steps_over : (l : Lengths) (n : ℕ) → 4294967295 < l.steps → false ≡ fits_in l n
unfolding fits_in
steps_over l n h = simp (lt-leb (last_end l) 4294967295 (omega arith))

pub questions_over : (l : Lengths) (n : ℕ) → 4294967295 < l.questions → false ≡ fits_in l n
unfolding fits_in
questions_over l n h = simp (lt-leb (last_end l) 4294967295 (omega arith))

pub fits_is : (l : Lengths) (n : ℕ) → (leb (last_end l) 4294967295 && leb (last_end l) n) ≡ fits_in l n
unfolding fits_in
fits_is l n = refl

-- what the test shows
both_fit : (a b : Bool) → not (a && b) ≡ false → (a ≡ true) × (b ≡ true)
both_fit true true h = (refl, refl)
both_fit true false h = absurd (true≢false h)
both_fit false b h = absurd (true≢false h)

one_not : (a b : Bool) → not (a && b) ≡ true → (a ≡ false) ⊎ (b ≡ false)
one_not true true h = absurd (true≢false (sym h))
one_not true false h = inr refl
one_not false b h = inl refl

-- few enough addresses
pub few_addresses : (R : Ran) (w : List ℕ) (a : Counts) → Holds R w a → length R.memory ≤ address_limit
few_addresses R w a h = omega (arith, h.fit.sorted.placed, length_stored w a.stored, ap (λ (m : Overlay Cell). length m) h.memory)

module _ (R : Ran) (w : List ℕ) (a : Counts) (l : Lengths) (n : ℕ) (h : Holds R w a) (m : Measured w a l) where
  abbrev steps : List ℕ
  steps = steps_body R.steps

  abbrev questions : List ℕ
  questions = questions_body R.questions

  variables_is : l.variables ≡ length (variables_body R.variables)
  variables_is = m.variables ∙ ap (λ (v : Overlay Val). length v * 16) h.variables ∙ sym (length_body R.variables)

  memory_is : l.memory ≡ length (memory_body R.memory)
  memory_is = omega (arith, m.memory, length_stored w a.stored, ap (λ (v : Overlay Cell). length v) h.memory, length_memory R.memory)

  -- no longer than the record is
  at_most : last_end l ≤ length (record_bytes R)
  at_most = omega (arith, length_record R, m.steps, m.questions, h.steps.cursor, h.questions.cursor, variables_is, memory_is)

  pub exact : (b : Bool) → b ≡ fits_in l n → not b ≡ false → Exact R l n
  unfolding fits_in
  exact b e t =
      let f = both_fit (leb (last_end l) 4294967295) (leb (last_end l) n) (ap not (sym e) ∙ t) in
      let p = leb-true (last_end l) 4294967295 f.0 in
      let q = leb-true (last_end l) n f.1 in
      let s : l.steps ≡ length steps = omega (arith, m.steps, h.steps.cursor) in
      let k : l.questions ≡ length questions = omega (arith, m.questions, h.questions.cursor) in
      record {
        steps = s;
        variables = variables_is;
        memory = memory_is;
        questions = k;
        whole = omega (arith, length_record R, variables_is, memory_is);
        in_buffer = q;
        in_length = p;
      }

  pub too_long : (b : Bool) → b ≡ fits_in l n → not b ≡ true → (4294967295 < length (record_bytes R)) ⊎ (n < length (record_bytes R))
  unfolding fits_in
  too_long b e t = elim (one_not (leb (last_end l) 4294967295) (leb (last_end l) n) (ap not (sym e) ∙ t)) [
    | inl f ↦ inl (let g = leb-false (last_end l) 4294967295 f in omega (arith, at_most))
    | inr f ↦ inr (let g = leb-false (last_end l) n f in omega (arith, at_most))
  ]
