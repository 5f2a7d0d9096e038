-- The lines that are made from a record's bytes are the listing. Assumes nothing.
use mathlib.Core.Path.{◌≡◌, refl, sym, ap, ◌∙◌, subst}
use mathlib.Core.List.{List, [], ◌∷◌, ◌++◌, append_assoc}
use Prim.Native.Nat.{ℕ, zero, suc, ◌+◌, ◌*◌, ◌^◌, ◌≤◌, ◌<◌}
use native.Mathlib.Omega.{arith}
use lib.ListN.{length, drop, length-drop}
use lib.Seq.{drop_at}
use Rattle.layout.specs.Each.{Each}
use Rattle.layout.specs.Text.{text}
use Rattle.layout.specs.Number.{number_at}
use Rattle.layout.specs.Format.{number, pair}
use Rattle.memory.specs.Overlay.{Overlay}
use Rattle.value.specs.declared.Val.{Val}
use Rattle.files.specs.Program.{Program, program_of}
use Rattle.definition.specs.Act.{Step}
use Rattle.definition.specs.Statements.{Stop}
use Rattle.definition.specs.Numerals.{digits, decimal, hexadecimal}
use Rattle.memory.specs.Entries.{memory_body}
use Rattle.definition.specs.Record.{stop_body, counts_body, step_fields, step_format, steps_body, variables_body, questions_body, Ran, record_bytes, body_at}
use Rattle.definition.specs.Run.{ran, number as number_of, workspace_needed}
use Rattle.definition.specs.Listing.{name_text, val_text, step_text, stop_text, steps_text, variables_text, text_of, listing_of}
use Rattle.definition.proofs.Record.{body_back, body_inside}
use Rattle.value.specs.Encoding.{val, val_at}
use Rattle.text.specs.Read.{step_in, step_size, StepThere, stop_in, StopThere, VariableThere}
use Rattle.text.specs.Lines.{header_text, stop_line, variable_line, step_lines, variable_lines, lines_of}
use Rattle.text.specs.Left.{StepsLeft, VariablesLeft}
use Rattle.text.specs.Fits.{StepFits, VariableFits, RanFits}
use Rattle.text.proofs.Decoded.{step_read, step_length, step_there, stop_read, stop_there, variable_read, variable_there}

step_size_lem : (s : List ℕ) → 63 ≤ step_size s
unfolding step_size
step_size_lem s = omega arith

step_size_is : (s : List ℕ) → step_size s ≡ 63 + 2 * number_at s 61 2
unfolding step_size
step_size_is s = refl

-- ---- a body of steps

steps_cons : (e : Step) (es : List Step) → steps_body (e ∷ es) ≡ step_format.write (step_fields e) ++ steps_body es
unfolding steps_body
steps_cons e es = refl

module _ (n : ℕ) (few : n ≤ 512) (e : Step) (es : List Step) (fits : Each (StepFits n) (e ∷ es)) (s : List ℕ) (is : s ≡ steps_body (e ∷ es)) where
  first : s ≡ step_format.write (step_fields e) ++ steps_body es
  first = is ∙ steps_cons e es

  after : drop (step_size s) s ≡ steps_body es
  after =
      ap (drop (step_size s)) first
      ∙ drop_at (step_format.write (step_fields e)) (steps_body es) (step_size s) (sym (step_length n few e fits.0 s (steps_body es) first))

  next_there : StepThere n s × StepsLeft n (drop (step_size s) s)
  next_there = (step_there n few e fits.0 s (steps_body es) first, record { few = few; steps = es; is = after; fits = fits.1 })

  next_text : step_in s ≡ e
  next_text = step_read n few e fits.0 s (steps_body es) first

no_steps : {s : List ℕ} → s ≡ steps_body [] → s ≡ []
unfolding steps_body
no_steps e = e

-- the next step is there, and what is behind it is left
pub steps_next : {n : ℕ} {s : List ℕ} → StepsLeft n s → 0 < length s → StepThere n s × StepsLeft n (drop (step_size s) s)
steps_next {n} {s} l h = go l.steps l.fits l.is
  where
    go : (es : List Step) → Each (StepFits n) es → s ≡ steps_body es → StepThere n s × StepsLeft n (drop (step_size s) s)
    go [] f e = absurd (omega (arith, ap length (no_steps e)))
    go (x ∷ es) f e = next_there n l.few x es f s e

module _ (names : List (List ℕ)) where
  lines_none : (f : ℕ) (s : List ℕ) → s ≡ [] → step_lines names f s ≡ []
  unfolding step_lines
  lines_none zero s e = refl
  lines_none (suc f) [] e = refl
  lines_none (suc f) (b ∷ s) e = absurd (omega (arith, ap length e))

  lines_cons : (f : ℕ) (s : List ℕ) → 0 < length s → step_lines names (suc f) s ≡ step_text names (step_in s) ++ step_lines names f (drop (step_size s) s)
  unfolding step_lines
  lines_cons f [] h = absurd (omega arith)
  lines_cons f (b ∷ s) h = refl

  -- the lines of a body are the steps' text
  pub step_lines_lem : (n : ℕ) → n ≤ 512 → (es : List Step) → Each (StepFits n) es → (f : ℕ) (s : List ℕ) → length s ≤ f → s ≡ steps_body es → step_lines names f s ≡ steps_text names es
  unfolding steps_text
  step_lines_lem n few [] fits f s l is = lines_none f s (no_steps is)
  step_lines_lem n few (e ∷ es) fits zero s l is = absurd (omega (arith, (step_there n few e fits.0 s (steps_body es) (first n few e es fits s is)).inside))
  step_lines_lem n few (e ∷ es) fits (suc f) s l is =
      let there = step_there n few e fits.0 s (steps_body es) (first n few e es fits s is) in
      let size = step_size_lem s in
      lines_cons f s (omega (arith, there.inside))
      ∙ ap (λ (x : Step). step_text names x ++ step_lines names f (drop (step_size s) s)) (next_text n few e es fits s is)
      ∙ ap (λ (r : List ℕ). step_text names e ++ r)
      (step_lines_lem n few es fits.1 f (drop (step_size s) s) (rw length-drop (omega (arith, size, there.inside))) (after n few e es fits s is))

-- ---- a body of variables

module _ (n : ℕ) (few : n ≤ 512) (p : ℕ × Val) (ps : Overlay Val) (fits : Each (VariableFits n) (p ∷ ps)) (s : List ℕ) (is : s ≡ variables_body (p ∷ ps)) where
  first_variable : s ≡ (pair (number 2) val).write p ++ variables_body ps
  unfolding variables_body
  first_variable = is

  after_variable : drop 16 s ≡ variables_body ps
  after_variable = ap (drop 16) first_variable ∙ drop_at ((pair (number 2) val).write p) (variables_body ps) 16 refl

  variable_next : VariableThere n s × VariablesLeft n (drop 16 s)
  variable_next =
      (variable_there n few p fits.0 s (variables_body ps) first_variable, record { few = few; variables = ps; is = after_variable; fits = fits.1 })

no_variables : {s : List ℕ} → s ≡ variables_body [] → s ≡ []
unfolding variables_body
no_variables e = e

pub variables_next : {n : ℕ} {s : List ℕ} → VariablesLeft n s → 0 < length s → VariableThere n s × VariablesLeft n (drop 16 s)
variables_next {n} {s} l h = go l.variables l.fits l.is
  where
    go : (ps : Overlay Val) → Each (VariableFits n) ps → s ≡ variables_body ps → VariableThere n s × VariablesLeft n (drop 16 s)
    go [] f e = absurd (omega (arith, ap length (no_variables e)))
    go (p ∷ ps) f e = variable_next n l.few p ps f s e

module _ (names : List (List ℕ)) where
  variables_none : (f : ℕ) (s : List ℕ) → s ≡ [] → variable_lines names f s ≡ []
  unfolding variable_lines
  variables_none zero s e = refl
  variables_none (suc f) [] e = refl
  variables_none (suc f) (b ∷ s) e = absurd (omega (arith, ap length e))

  variables_cons : (f : ℕ) (s : List ℕ) → 0 < length s → variable_lines names (suc f) s ≡ variable_line names (number_at s 0 2, val_at s 2) ++ variable_lines names f (drop 16 s)
  unfolding variable_lines
  variables_cons f [] h = absurd (omega arith)
  variables_cons f (b ∷ s) h = refl

  variable_text : (p : ℕ × Val) (r : List ℕ)
      → variable_line names p ++ r ≡ text ";   " ++ (name_text names p.0 ++ (text " = " ++ (val_text p.1 ++ (text "\n" ++ r))))
  unfolding variable_line
  variable_text p r = rw (append_assoc (name_text names p.0), append_assoc (val_text p.1))

  pub variable_lines_lem : (n : ℕ) → n ≤ 512 → (ps : Overlay Val) → Each (VariableFits n) ps → (f : ℕ) (s : List ℕ) → length s ≤ f → s ≡ variables_body ps
      → variable_lines names f s ≡ variables_text names ps
  unfolding variables_text
  variable_lines_lem n few [] fits f s l is = variables_none f s (no_variables is)
  variable_lines_lem n few (p ∷ ps) fits zero s l is =
      absurd (omega (arith, (variable_there n few p fits.0 s (variables_body ps) (first_variable n few p ps fits s is)).inside))
  variable_lines_lem n few (p ∷ ps) fits (suc f) s l is =
      let e = first_variable n few p ps fits s is in
      let there = variable_there n few p fits.0 s (variables_body ps) e in
      variables_cons f s (omega (arith, there.inside))
      ∙ ap (λ (q : ℕ × Val). variable_line names q ++ variable_lines names f (drop 16 s)) (variable_read n few p fits.0 s (variables_body ps) e)
      ∙ ap (λ (r : List ℕ). variable_line names p ++ r)
      (variable_lines_lem n few ps fits.1 f (drop 16 s) (rw length-drop (omega (arith, there.inside))) (after_variable n few p ps fits s is))
      ∙ variable_text p (variables_text names ps)

-- ---- what stands behind a line

module _ (names : List (List ℕ)) where
  header_then : (name address : ℕ) (r : List ℕ)
      → header_text names name address ++ r ≡ text "; " ++ (name_text names name ++ (text " at " ++ (hexadecimal address ++ (text ": emulated\n" ++ r))))
  unfolding header_text
  header_then name address r = rw (append_assoc (name_text names name), append_assoc (digits 64 16 address))

  stop_then : (x : Stop) (r : List ℕ) → stop_line names x ++ r ≡ text "; " ++ (stop_text names x ++ (text "\n" ++ r))
  unfolding stop_line
  stop_then x r = rw (append_assoc (stop_text names x))

-- ---- the record of a run

module _ (r : Ran) (short : length (record_bytes r) < 256 ^ 4) where
  pub stop_located : body_at (record_bytes r) 0 ≡ stop_body r.stop
  unfolding record_bytes
  stop_located =
      body_back []
      (stop_body r.stop)
      (counts_body r.entered r.recorded ∷ steps_body r.steps ∷ variables_body r.variables ∷ memory_body r.memory ∷ questions_body r.questions ∷ [])
      short

  pub steps_located : body_at (record_bytes r) 2 ≡ steps_body r.steps
  unfolding record_bytes
  steps_located =
      body_back (stop_body r.stop ∷ counts_body r.entered r.recorded ∷ [])
      (steps_body r.steps)
      (variables_body r.variables ∷ memory_body r.memory ∷ questions_body r.questions ∷ [])
      short

  pub variables_located : body_at (record_bytes r) 3 ≡ variables_body r.variables
  unfolding record_bytes
  variables_located =
      body_back (stop_body r.stop ∷ counts_body r.entered r.recorded ∷ steps_body r.steps ∷ [])
      (variables_body r.variables)
      (memory_body r.memory ∷ questions_body r.questions ∷ [])
      short

  -- each lies in the record
  pub stop_inside : number_at (record_bytes r) 0 4 + number_at (record_bytes r) 4 4 ≤ length (record_bytes r)
  unfolding record_bytes
  stop_inside =
      body_inside []
      (stop_body r.stop)
      (counts_body r.entered r.recorded ∷ steps_body r.steps ∷ variables_body r.variables ∷ memory_body r.memory ∷ questions_body r.questions ∷ [])
      short

  pub steps_inside : number_at (record_bytes r) 16 4 + number_at (record_bytes r) 20 4 ≤ length (record_bytes r)
  unfolding record_bytes
  steps_inside =
      body_inside (stop_body r.stop ∷ counts_body r.entered r.recorded ∷ [])
      (steps_body r.steps)
      (variables_body r.variables ∷ memory_body r.memory ∷ questions_body r.questions ∷ [])
      short

  pub variables_inside : number_at (record_bytes r) 24 4 + number_at (record_bytes r) 28 4 ≤ length (record_bytes r)
  unfolding record_bytes
  variables_inside =
      body_inside (stop_body r.stop ∷ counts_body r.entered r.recorded ∷ steps_body r.steps ∷ [])
      (variables_body r.variables)
      (memory_body r.memory ∷ questions_body r.questions ∷ [])
      short

  -- what the functions that write lines ask for
  module _ (n : ℕ) (fits : RanFits n r) where
    pub stop_is_there : StopThere n (body_at (record_bytes r) 0)
    stop_is_there = subst (λ (b : List ℕ). StopThere n b) (sym stop_located) (stop_there n fits.few r.stop fits.stop)

    pub steps_left : StepsLeft n (body_at (record_bytes r) 2)
    steps_left = record { few = fits.few; steps = r.steps; is = steps_located; fits = fits.steps }

    pub variables_left : VariablesLeft n (body_at (record_bytes r) 3)
    variables_left = record { few = fits.few; variables = r.variables; is = variables_located; fits = fits.variables }

    -- the lines are the listing
    pub lines_are : (P : Program) → lines_of P.names P.name P.address (record_bytes r) ≡ text_of P r
    unfolding lines_of text_of
    lines_are P =
        let N = P.names in
        let b = record_bytes r in
        let s = step_lines_lem N n fits.few r.steps fits.steps (length (body_at b 2)) (body_at b 2) (omega arith) steps_located in
        let v = variable_lines_lem N n fits.few r.variables fits.variables (length (body_at b 3)) (body_at b 3) (omega arith) variables_located in
        let x = ap stop_in stop_located ∙ stop_read n fits.few r.stop fits.stop in
        (λ i. header_text N P.name P.address ++ (s i ++ (stop_line N (x i) ++ v i)))
        ∙ header_then N P.name P.address (steps_text N r.steps ++ (stop_line N r.stop ++ variables_text N r.variables))
        ∙ ap (λ (l : List ℕ). text "; " ++ (name_text N P.name ++ (text " at " ++ (hexadecimal P.address ++ (text ": emulated\n" ++ (steps_text N r.steps ++ l))))))
        (stop_then N r.stop (variables_text N r.variables))

-- ---- the listing of a routine, a world and a call

module _ (routine world call : List ℕ) where
  abbrev picked : ℕ → List ℕ
  picked k = elim k [
    | zero ↦ text_of (program_of routine) (ran routine world call)
    | suc k ↦ text "; refused " ++ (decimal (suc k) ++ text "\n")
  ]

  pub listing_run : number_of routine world call 65536 workspace_needed ≡ 0 → listing_of routine world call ≡ text_of (program_of routine) (ran routine world call)
  unfolding listing_of
  listing_run e = ap picked e

  pub listing_refused : (k : ℕ) → number_of routine world call 65536 workspace_needed ≡ suc k → listing_of routine world call ≡ text "; refused " ++ (decimal (suc k) ++ text "\n")
  unfolding listing_of
  listing_refused k e = ap picked e
