-- A step, a stop and a variable are read back from the bytes that were written of them. Assumes nothing.
use mathlib.Core.Path.{◌≡◌, refl, sym, ap, ◌∙◌, subst}
use mathlib.Core.Bool.{Bool, true, false, cond}
use mathlib.Core.List.{List, [], ◌∷◌, ◌++◌, append-nil}
use Rattle.std.specs.Prelude.{Option, None, Some}
use Prim.Native.Nat.{ℕ, zero, suc, ◌+◌, ◌*◌, ◌≤◌, ◌<◌}
use native.Mathlib.Omega.{arith}
use lib.Dec.{eqb, lit<}
use lib.ListN.{length, length-append}
use Rattle.layout.specs.Each.{Each}
use Rattle.layout.specs.Number.{number_at}
use Rattle.layout.specs.Format.{number, pair, bool_of}
use Rattle.layout.proofs.FormatLaws.{Sound, Below, number_sound, pair_sound, counted_sound}
use Rattle.value.specs.declared.Val.{Val}
use Rattle.files.specs.Program.{flagged}
use Rattle.definition.specs.Act.{Why, branch_unknown, switch_unknown, no_case, struct_to, unknown_address, unknown_value, no_width, store_to, by_zero, Note, no_note, fields_written, value_written, result_unknown, not_followed, Step}
use Rattle.definition.specs.Statements.{Stop, Returned, Steps, Unknown, NoBlock, NoBlocks, NoReturn, Halted}
use Rattle.definition.specs.Fields.{no_val, flag_and_number}
use Rattle.definition.specs.Record.{StopFields, stop_format, unknown_fields, stop_fields, stop_body, NoteFields, note_fields, wrote_fields, StepFields, step_fields, step_format}
use Rattle.definition.proofs.Fields.{OptionFits, ValFits, flag_sound, val_sound}
use Rattle.definition.proofs.Record.{stop_length}
use Rattle.value.specs.Encoding.{val, val_at}
use Rattle.text.specs.Read.{address_in, written_if, wrote_in, names_in, note_in, step_in, step_size, StepThere, why_in, stop_in, StopThere, VariableThere}
use Rattle.text.specs.Fits.{WroteFits, NoteFits, StepFits, WhyFits, StopFits, VariableFits}
use Rattle.text.proofs.Places.{step_fields_in, stop_fields_in, step_at, stop_at_lem, variable_at_lem}
use Rattle.stream.proofs.StepLaws.{length_names}

-- ---- what the fields were made of

abbrev note_of : NoteFields → Note
note_of f =
    cond (eqb f.0 0) no_note
    (cond (eqb f.0 1) (fields_written f.1.0 f.1.1.0)
    (cond (eqb f.0 2) (value_written f.1.0 f.1.1.1.0)
    (cond (eqb f.0 3) result_unknown (not_followed f.1.1.1.1))))

abbrev step_of : StepFields → Step
step_of f = record {
  address = flagged f.0.0 f.0.1;
  block = f.1.0;
  statement = f.1.1.0;
  wrote = written_if f.1.1.1.0.0 f.1.1.1.0.1;
  note = note_of f.1.1.1.1;
}

abbrev why_of : StopFields → Why
why_of f =
    let reason = f.1.0 in
    let number = f.1.1.1.0 in
    let node = f.1.1.1.1.0 in
    cond (eqb reason 1) (branch_unknown node)
    (cond (eqb reason 2) (switch_unknown node)
    (cond (eqb reason 3) (no_case number)
    (cond (eqb reason 4) (struct_to node)
    (cond (eqb reason 5) (unknown_address node)
    (cond (eqb reason 6) (unknown_value number)
    (cond (eqb reason 7) (no_width f.1.1.1.1.1.0)
    (cond (eqb reason 8) (store_to node) by_zero)))))))

abbrev stop_of : StopFields → Stop
stop_of f =
    let kind = f.0 in
    let address = flagged f.1.1.0.0 f.1.1.0.1 in
    let number = f.1.1.1.0 in
    cond (eqb kind 0) (Returned (Some f.1.1.1.1.1.1))
    (cond (eqb kind 1) (Returned None)
    (cond (eqb kind 2) (Steps number)
    (cond (eqb kind 3) (Unknown address (why_of f))
    (cond (eqb kind 4) (NoBlock number)
    (cond (eqb kind 5) NoBlocks
    (cond (eqb kind 6) (NoReturn address) (Halted address number)))))))

address_back : (o : Option ℕ) → flagged (flag_and_number o).0 (flag_and_number o).1 ≡ o
address_back None = refl
address_back (Some a) = refl

wrote_back : (o : Option (ℕ × Val)) → written_if (wrote_fields o).0 (wrote_fields o).1 ≡ o
wrote_back None = refl
wrote_back (Some w) = refl

note_back : (x : Note) → note_of (note_fields x) ≡ x
note_back no_note = refl
note_back (fields_written a n) = refl
note_back (value_written a v) = refl
note_back result_unknown = refl
note_back (not_followed []) = refl
note_back (not_followed (x ∷ xs)) = refl

step_back : (e : Step) → step_of (step_fields e) ≡ e
step_back e = λ i. record {
  address = address_back e.address i;
  block = e.block;
  statement = e.statement;
  wrote = wrote_back e.wrote i;
  note = note_back e.note i;
}

unknown_back : (at : Option ℕ) (x : Why) → stop_of (unknown_fields at x) ≡ Unknown at x
unknown_back at (branch_unknown n) = ap (λ (o : Option ℕ). Unknown o (branch_unknown n)) (address_back at)
unknown_back at (switch_unknown n) = ap (λ (o : Option ℕ). Unknown o (switch_unknown n)) (address_back at)
unknown_back at (no_case v) = ap (λ (o : Option ℕ). Unknown o (no_case v)) (address_back at)
unknown_back at (struct_to n) = ap (λ (o : Option ℕ). Unknown o (struct_to n)) (address_back at)
unknown_back at (unknown_address n) = ap (λ (o : Option ℕ). Unknown o (unknown_address n)) (address_back at)
unknown_back at (unknown_value a) = ap (λ (o : Option ℕ). Unknown o (unknown_value a)) (address_back at)
unknown_back at (no_width x) = ap (λ (o : Option ℕ). Unknown o (no_width x)) (address_back at)
unknown_back at (store_to n) = ap (λ (o : Option ℕ). Unknown o (store_to n)) (address_back at)
unknown_back at by_zero = ap (λ (o : Option ℕ). Unknown o by_zero) (address_back at)

stop_back : (x : Stop) → stop_of (stop_fields x) ≡ x
stop_back (Returned None) = refl
stop_back (Returned (Some v)) = refl
stop_back (Steps l) = refl
stop_back (Unknown at x) = unknown_back at x
stop_back (NoBlock b) = refl
stop_back NoBlocks = refl
stop_back (NoReturn at) = ap NoReturn (address_back at)
stop_back (Halted at t) = ap (λ (o : Option ℕ). Halted o t) (address_back at)

-- ---- what is written of them is read back

abbrev AddressFit : ℕ × ℕ → Type 0
AddressFit f = Below 1 f.0 × Below 8 f.1

abbrev NoteFieldsFit : NoteFields → Type 0
NoteFieldsFit f = Below 1 f.0 × (Below 8 f.1.0 × (Below 4 f.1.1.0 × (ValFits f.1.1.1.0 × (Below 2 (length f.1.1.1.1) × Each (Below 2) f.1.1.1.1))))

abbrev StepFieldsFit : StepFields → Type 0
StepFieldsFit f =
    AddressFit f.0 × (Below 4 f.1.0 × (Below 4 f.1.1.0
    × ((Unit {0} × (Below 2 f.1.1.1.0.1.0 × ValFits f.1.1.1.0.1.1)) × NoteFieldsFit f.1.1.1.1)))

abbrev StopFieldsFit : StopFields → Type 0
StopFieldsFit f =
    Below 1 f.0 × (Below 1 f.1.0 × (AddressFit f.1.1.0
    × (Below 8 f.1.1.1.0 × (Below 4 f.1.1.1.1.0 × (Below 2 f.1.1.1.1.1.0 × ValFits f.1.1.1.1.1.1)))))

step_sound : Sound step_format StepFieldsFit
step_sound =
    pair_sound (pair_sound (number_sound 1) (number_sound 8)) (pair_sound (number_sound 4) (pair_sound (number_sound 4)
    (pair_sound (pair_sound flag_sound (pair_sound (number_sound 2) val_sound))
    (pair_sound (number_sound 1) (pair_sound (number_sound 8) (pair_sound (number_sound 4) (pair_sound val_sound (counted_sound (number_sound 2) 2))))))))

stop_sound : Sound stop_format StopFieldsFit
stop_sound =
    pair_sound (number_sound 1) (pair_sound (number_sound 1) (pair_sound (pair_sound (number_sound 1) (number_sound 8))
    (pair_sound (number_sound 8) (pair_sound (number_sound 4) (pair_sound (number_sound 2) val_sound)))))

variable_sound : Sound (pair (number 2) val) (λ (p : ℕ × Val). Below 2 p.0 × ValFits p.1)
variable_sound = pair_sound (number_sound 2) val_sound

address_fit : (o : Option ℕ) → OptionFits o → AddressFit (flag_and_number o)
address_fit None h = (lit< tt, lit< tt)
address_fit (Some a) h = (lit< tt, h)

no_val_lem : ValFits no_val
no_val_lem = (lit< tt, lit< tt)

module _ (n : ℕ) (few : n ≤ 512) where
  name_fit : (x : ℕ) → x < n → Below 2 x
  name_fit x h = omega (arith, h, few)

  names_fit : (xs : List ℕ) → Each (λ x. x < n) xs → Each (Below 2) xs
  names_fit [] h = tt
  names_fit (x ∷ xs) h = (name_fit x h.0, names_fit xs h.1)

  wrote_fit : (o : Option (ℕ × Val)) → WroteFits n o → Below 2 (wrote_fields o).1.0 × ValFits (wrote_fields o).1.1
  wrote_fit None h = (lit< tt, no_val_lem)
  wrote_fit (Some w) h = (name_fit w.0 h.0, h.1)

  note_fit : (x : Note) → NoteFits n x → NoteFieldsFit (note_fields x)
  note_fit no_note h = (lit< tt, (lit< tt, (lit< tt, (no_val_lem, (lit< tt, tt)))))
  note_fit (fields_written a c) h = (lit< tt, (h.0, (h.1, (no_val_lem, (lit< tt, tt)))))
  note_fit (value_written a v) h = (lit< tt, (h.0, (lit< tt, (h.1, (lit< tt, tt)))))
  note_fit result_unknown h = (lit< tt, (lit< tt, (lit< tt, (no_val_lem, (lit< tt, tt)))))
  note_fit (not_followed []) h = (lit< tt, (lit< tt, (lit< tt, (no_val_lem, (lit< tt, tt)))))
  note_fit (not_followed (x ∷ xs)) h = (lit< tt, (lit< tt, (lit< tt, (no_val_lem, (omega (arith, h.0), names_fit (x ∷ xs) h.1)))))

  step_fit : (e : Step) → StepFits n e → StepFieldsFit (step_fields e)
  step_fit e h = (address_fit e.address h.address, (h.block, (h.statement, ((tt, wrote_fit e.wrote h.wrote), note_fit e.note h.note))))

  unknown_fit : (at : Option ℕ) (x : Why) → OptionFits at → WhyFits n x → StopFieldsFit (unknown_fields at x)
  unknown_fit at (branch_unknown k) a h = (lit< tt, (lit< tt, (address_fit at a, (lit< tt, (h, (lit< tt, no_val_lem))))))
  unknown_fit at (switch_unknown k) a h = (lit< tt, (lit< tt, (address_fit at a, (lit< tt, (h, (lit< tt, no_val_lem))))))
  unknown_fit at (no_case v) a h = (lit< tt, (lit< tt, (address_fit at a, (h, (lit< tt, (lit< tt, no_val_lem))))))
  unknown_fit at (struct_to k) a h = (lit< tt, (lit< tt, (address_fit at a, (lit< tt, (h, (lit< tt, no_val_lem))))))
  unknown_fit at (unknown_address k) a h = (lit< tt, (lit< tt, (address_fit at a, (lit< tt, (h, (lit< tt, no_val_lem))))))
  unknown_fit at (unknown_value v) a h = (lit< tt, (lit< tt, (address_fit at a, (h, (lit< tt, (lit< tt, no_val_lem))))))
  unknown_fit at (no_width x) a h = (lit< tt, (lit< tt, (address_fit at a, (lit< tt, (lit< tt, (name_fit x h, no_val_lem))))))
  unknown_fit at (store_to k) a h = (lit< tt, (lit< tt, (address_fit at a, (lit< tt, (h, (lit< tt, no_val_lem))))))
  unknown_fit at by_zero a h = (lit< tt, (lit< tt, (address_fit at a, (lit< tt, (lit< tt, (lit< tt, no_val_lem))))))

  stop_fit : (x : Stop) → StopFits n x → StopFieldsFit (stop_fields x)
  stop_fit (Returned None) h = (lit< tt, (lit< tt, ((lit< tt, lit< tt), (lit< tt, (lit< tt, (lit< tt, no_val_lem))))))
  stop_fit (Returned (Some v)) h = (lit< tt, (lit< tt, ((lit< tt, lit< tt), (lit< tt, (lit< tt, (lit< tt, h))))))
  stop_fit (Steps l) h = (lit< tt, (lit< tt, ((lit< tt, lit< tt), (h, (lit< tt, (lit< tt, no_val_lem))))))
  stop_fit (Unknown at x) h = unknown_fit at x h.0 h.1
  stop_fit (NoBlock b) h = (lit< tt, (lit< tt, ((lit< tt, lit< tt), (h, (lit< tt, (lit< tt, no_val_lem))))))
  stop_fit NoBlocks h = (lit< tt, (lit< tt, ((lit< tt, lit< tt), (lit< tt, (lit< tt, (lit< tt, no_val_lem))))))
  stop_fit (NoReturn at) h = (lit< tt, (lit< tt, (address_fit at h, (lit< tt, (lit< tt, (lit< tt, no_val_lem))))))
  stop_fit (Halted at t) h = (lit< tt, (lit< tt, (address_fit at h.0, (h.1, (lit< tt, (lit< tt, no_val_lem))))))

-- ---- names that were taken

abbrev taken_in : Note → List ℕ
taken_in x = (note_fields x).1.1.1.1

length_step : (e : Step) → length (step_format.write (step_fields e)) ≡ 63 + 2 * length (taken_in e.note)
length_step e = omega (arith, length_names (taken_in e.note))

length_read : (s : List ℕ) (i k : ℕ) → length (names_in s i k) ≡ k
unfolding names_in
length_read s i zero = refl
length_read s i (suc k) = ap suc (length_read s (i + 2) k)

module _ (n : ℕ) where
  taken_few : (x : Note) → NoteFits n x → length (taken_in x) ≤ 16
  taken_few no_note h = omega arith
  taken_few (fields_written a c) h = omega arith
  taken_few (value_written a v) h = omega arith
  taken_few result_unknown h = omega arith
  taken_few (not_followed []) h = omega arith
  taken_few (not_followed (x ∷ xs)) h = h.0

  taken_there : (x : Note) → NoteFits n x → Each (λ x. x < n) (taken_in x)
  taken_there no_note h = tt
  taken_there (fields_written a c) h = tt
  taken_there (value_written a v) h = tt
  taken_there result_unknown h = tt
  taken_there (not_followed []) h = tt
  taken_there (not_followed (x ∷ xs)) h = h.1

  each_read : (s : List ℕ) (i c k : ℕ) → Each (λ x. x < n) (names_in s i c) → k < c → number_at s (i + k * 2) 2 < n
  unfolding names_in
  each_read s i zero k h l = absurd (omega arith)
  each_read s i (suc c) zero h l = subst (λ (j : ℕ). number_at s j 2 < n) (omega arith) h.0
  each_read s i (suc c) (suc k) h l = subst (λ (j : ℕ). number_at s j 2 < n) (omega arith) (each_read s (i + 2) c k h.1 (omega arith))

  wrote_there : (o : Option (ℕ × Val)) (f x : ℕ) → WroteFits n o → bool_of f ≡ (wrote_fields o).0 → x ≡ (wrote_fields o).1.0 → (f ≡ 0 → ⊥) → x < n
  wrote_there None zero x h e g z = absurd (z refl)
  wrote_there None (suc f) x h e g z = absurd (omega (arith, ap {B = ℕ} (λ (b : Bool). elim b [ true ↦ 1 | false ↦ 0 ]) e))
  wrote_there (Some w) f x h e g z = subst (λ (y : ℕ). y < n) (sym g) h.0

-- ---- a step

module _ (n : ℕ) (few : n ≤ 512) (e : Step) (fits : StepFits n e) (s rest : List ℕ) (is : s ≡ step_format.write (step_fields e) ++ rest) where
  step_fields_lem : step_fields_in s ≡ step_fields e
  step_fields_lem =
      sym (step_at s)
      ∙ ap (λ (l : List ℕ). (step_format.read l).0) is
      ∙ ap (λ (r : StepFields × List ℕ). r.0) (step_sound.back (step_fields e) (step_fit n few e fits) rest)

  -- it is read back
  pub step_read : step_in s ≡ e
  unfolding step_in address_in wrote_in note_in
  step_read = ap step_of step_fields_lem ∙ step_back e

  step_taken : names_in s 63 (number_at s 61 2) ≡ taken_in e.note
  step_taken = ap (λ (f : StepFields). f.1.1.1.1.1.1.1.1) step_fields_lem

  step_count : number_at s 61 2 ≡ length (taken_in e.note)
  step_count = sym (length_read s 63 (number_at s 61 2)) ∙ ap length step_taken

  -- it is as long as was written
  pub step_length : step_size s ≡ length (step_format.write (step_fields e))
  unfolding step_size
  step_length = omega (arith, step_count, length_step e)

  -- and it is there
  pub step_there : StepThere n s
  step_there = record {
    inside = omega (arith, ap length is, length-append (step_format.write (step_fields e)) rest, step_count, length_step e);
    few = omega (arith, step_count, taken_few n e.note fits.note);
    wrote = wrote_there n e.wrote (number_at s 17 1) (number_at s 18 2) fits.wrote
        (ap (λ (f : StepFields). f.1.1.1.0.0) step_fields_lem) (ap (λ (f : StepFields). f.1.1.1.0.1.0) step_fields_lem);
    taken = λ k h. each_read n s 63 (number_at s 61 2) k (subst (λ (l : List ℕ). Each (λ x. x < n) l) (sym step_taken) (taken_there n e.note fits.note)) h;
  }

-- ---- a stop

why_there : (n : ℕ) (at : Option ℕ) (x : Why) → WhyFits n x → (unknown_fields at x).1.0 ≡ 7 → (unknown_fields at x).1.1.1.1.1.0 < n
why_there n at (branch_unknown k) h e = absurd (omega (arith, e))
why_there n at (switch_unknown k) h e = absurd (omega (arith, e))
why_there n at (no_case v) h e = absurd (omega (arith, e))
why_there n at (struct_to k) h e = absurd (omega (arith, e))
why_there n at (unknown_address k) h e = absurd (omega (arith, e))
why_there n at (unknown_value v) h e = absurd (omega (arith, e))
why_there n at (no_width x) h e = h
why_there n at (store_to k) h e = absurd (omega (arith, e))
why_there n at by_zero h e = absurd (omega (arith, e))

stop_names : (n : ℕ) (x : Stop) → StopFits n x → (stop_fields x).1.0 ≡ 7 → (stop_fields x).1.1.1.1.1.0 < n
stop_names n (Returned None) h e = absurd (omega (arith, e))
stop_names n (Returned (Some v)) h e = absurd (omega (arith, e))
stop_names n (Steps l) h e = absurd (omega (arith, e))
stop_names n (Unknown at x) h e = why_there n at x h.1 e
stop_names n (NoBlock b) h e = absurd (omega (arith, e))
stop_names n NoBlocks h e = absurd (omega (arith, e))
stop_names n (NoReturn at) h e = absurd (omega (arith, e))
stop_names n (Halted at t) h e = absurd (omega (arith, e))

module _ (n : ℕ) (few : n ≤ 512) (x : Stop) (fits : StopFits n x) where
  stop_fields_lem : stop_fields_in (stop_body x) ≡ stop_fields x
  unfolding stop_body
  stop_fields_lem =
      let w = stop_format.write (stop_fields x) in
      sym (stop_at_lem w)
      ∙ ap (λ (l : List ℕ). (stop_format.read l).0) (sym (append-nil w))
      ∙ ap (λ (r : StopFields × List ℕ). r.0) (stop_sound.back (stop_fields x) (stop_fit n few x fits) [])

  pub stop_read : stop_in (stop_body x) ≡ x
  unfolding stop_in address_in why_in
  stop_read = ap stop_of stop_fields_lem ∙ stop_back x

  pub stop_there : StopThere n (stop_body x)
  stop_there = record {
    inside = omega (arith, stop_length x);
    named = λ e. subst (λ (k : ℕ). k < n) (sym (ap (λ (f : StopFields). f.1.1.1.1.1.0) stop_fields_lem))
        (stop_names n x fits (sym (ap (λ (f : StopFields). f.1.0) stop_fields_lem) ∙ e));
  }

-- ---- a variable

module _ (n : ℕ) (few : n ≤ 512) (p : ℕ × Val) (fits : VariableFits n p) (s rest : List ℕ) (is : s ≡ (pair (number 2) val).write p ++ rest) where
  pub variable_read : (number_at s 0 2, val_at s 2) ≡ p
  variable_read =
      sym (variable_at_lem s)
      ∙ ap (λ (l : List ℕ). ((pair (number 2) val).read l).0) is
      ∙ ap (λ (r : (ℕ × Val) × List ℕ). r.0) (variable_sound.back p (name_fit n few p.0 fits.0, fits.1) rest)

  pub variable_there : VariableThere n s
  variable_there = record {
    inside = omega (arith, ap length is, length-append ((pair (number 2) val).write p) rest);
    named = subst (λ (k : ℕ). k < n) (sym (ap (λ (q : ℕ × Val). q.0) variable_read)) fits.0;
  }
