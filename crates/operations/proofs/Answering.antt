-- What the steps that give a value, or tell what was done, come to. Assumes nothing.
use Rattle.std.proofs.Common.{◌≡◌, ℕ, zero, suc, ◌*◌, ◌<◌, Bool, true, false, not, ◌&&◌, ◌||◌, eqb, List, sym, refl, ap, ◌∙◌, subst, ap₂, arith, ne_eqb}
use Rattle.std.specs.Prelude.{[], Option, None, Some, Result, Ok, Err}
use mir.Val.{bool_byte}
use Rattle.layout.specs.Format.{bool_of}
use Rattle.value.specs.declared.Ty.{Ty}
use Rattle.value.specs.declared.Val.{Val}
use Rattle.value.specs.declared.ArithmeticError.{ArithmeticError}
use Rattle.value.specs.declared.ArithmeticError.TheVariants.{DivisionByZero}
use Rattle.value.specs.declared.BinaryOp.{BinaryOp}
use Rattle.value.specs.Value.{type, type_of_val, known_val, unknown_val, cast_to}
use Rattle.value.specs.Operators.{binary_of, operator_of}
use Rattle.files.specs.Nodes.{flag_of, width_of, value_of}
use Rattle.definition.specs.Act as act
use Rattle.definition.specs.Evaluate.{Did, chosen, did, unknown_note}
use Rattle.definition.specs.Evaluate as ev
use Rattle.workspace.specs.Parts.{registers_part, note_part}
use Rattle.workspace.specs.Note.{noted, pending_in}
use Rattle.workspace.specs.Registers.{word_count, word_at, value_at}
use Rattle.workspace.specs.Post.{SetsWord, SetsValue}
use Rattle.hosting.specs.declared.Counts.{Counts}
use Rattle.hosting.specs.declared.How.{How}
use Rattle.hosting.specs.declared.Short.{Short}
use Rattle.hosting.specs.declared.Short.TheVariants.{Full, Why}
use Rattle.stream.specs.declared.NotePiece.TheVariants.{Nothing, Fields, Written, Unknown}
use Rattle.hosting.specs.declared.Did as code
use Rattle.operations.specs.declared.results.Told.{Told}
use Rattle.operations.specs.declared.results.Told.TheVariants as told
use Rattle.stream.specs.declared.Reason.{Reason}
use Rattle.stream.specs.declared.Reason.TheVariants.{ByZero}
use Rattle.stream.specs.Bodies.{reason_at}
use Rattle.stream.specs.Pieces.{note_of}
use Rattle.hosting.specs.Ending.{ended, end_of, did_of, done_of, answer_end}
use Rattle.operations.specs.Registers.{counts_in, short_at, short_in, result_in, told_at, kind_in, told_in, did_write, did_by, did_in, end_in}
use Rattle.operations.specs.Steps.{Gives, GivesShort, TellsPlace, Tells, Answers, Enters, EntersCounts, EntersHow, noted_end}
use Rattle.operations.specs.Steps as steps
use Rattle.operations.proofs.Registers.{counts_by_lem, how_by, short_by, told_by, counts_kept, result_value, aside_aside, beside_beside, beside_word, beside_value}
use Rattle.operations.proofs.Going.{by_true, by_false}

-- ---- put in the registers

-- a word stays as it was said to be, where another is set
on : {w : List ℕ} {k x : ℕ} {w' : List ℕ} → SetsWord w k x w' → (j : ℕ) {y : ℕ} → j < word_count → (j ≡ k → ⊥) → word_at (registers_part w) j ≡ y → word_at (registers_part w') j ≡ y
on h j l d e = h.words j l d ∙ e

pub gives_value : {w : List ℕ} {v : Val} {w' : List ℕ} → SetsValue w 0 v w' → Gives w v true w'
unfolding result_in told_in
gives_value {w} {w' = w'} h = record {
  beside = beside_value h;
  yes = refl;
  value = h.here;
  told = told_by w' (word_at (registers_part w) 11) (word_at (registers_part w) 12) (word_at (registers_part w) 13) (value_at (registers_part w) 1)
      (h.words 11 (omega arith)) (h.words 12 (omega arith)) (h.words 13 (omega arith)) (h.values 1 (omega arith) (λ q. absurd (omega (arith, q))));
}

pub gives_short : {w : List ℕ} {s : Short} {z : ℕ × ℕ} {w₁ w₂ : List ℕ} → short_at (reason_at z.0) z.1 ≡ s → SetsWord w 9 z.0 w₁ → SetsWord w₁ 10 z.1 w₂ → GivesShort w s false w₂
gives_short {z = z} {w₂ = w₂} e p q = record {
  beside = beside_beside (beside_word (omega arith) p) (beside_word (omega arith) q);
  no = refl;
  why = short_by w₂ z.0 z.1 (on q 9 (omega arith) (λ e. absurd (omega (arith, e))) p.here) q.here ∙ e;
}

pub tells_place : {w : List ℕ} {k : Told} {t x : ℕ} {w₁ w₂ : List ℕ} → told_at t ≡ k → SetsWord w 11 t w₁ → SetsWord w₁ 12 x w₂ → TellsPlace w k x w₂
unfolding kind_in
tells_place e p q = record {
  beside = beside_beside (beside_word (omega arith) p) (beside_word (omega arith) q);
  told = ap told_at (on q 11 (omega arith) (λ e. absurd (omega (arith, e))) p.here) ∙ e;
  place = q.here;
  fields = on q 13 (omega arith) (λ e. absurd (omega (arith, e))) (p.words 13 (omega arith) (λ e. absurd (omega (arith, e))));
}

module _ {w : List ℕ} {x : ℕ} {w₁ w₂ : List ℕ} where
  -- with a value, or with how many fields
  pub tells_value : {k : Told} {v : Val} → TellsPlace w k x w₁ → SetsValue w₁ 1 v w₂ → Tells w (did_in w k x v) true w₂
  unfolding kind_in
  tells_value {v = v} p r = record {
    beside = beside_beside p.beside (beside_value r);
    yes = refl;
    told = told_by w₂ (word_at (registers_part w₁) 11) x (word_at (registers_part w) 13) v (r.words 11 (omega arith)) (r.words 12 (omega arith) ∙ p.place) (r.words 13 (omega arith) ∙ p.fields) r.here
        ∙ ap (λ (k : Told). did_in w k x v) p.told;
  }

  pub tells_fields : {n : ℕ} → TellsPlace w told.Fields x w₁ → SetsWord w₁ 13 n w₂ → Tells w (did (act.fields_written x n)) true w₂
  unfolding kind_in
  tells_fields {n} p r = record {
    beside = beside_beside p.beside (beside_word (omega arith) r);
    yes = refl;
    told = told_by w₂ (word_at (registers_part w₁) 11) x n (value_at (registers_part w₂) 1)
        (on r 11 (omega arith) (λ e. absurd (omega (arith, e))) refl)
        (on r 12 (omega arith) (λ e. absurd (omega (arith, e))) p.place)
        r.here
        refl
        ∙ ap (λ (k : Told). did_by k x n (value_at (registers_part w₂) 1)) p.told;
  }

-- ---- what a caller hands over

-- a word stands through the words set after it
past : {w : List ℕ} {k x : ℕ} {w' : List ℕ} → SetsWord w k x w' → k < word_count → (j : ℕ) {y : ℕ} → j < k → word_at (registers_part w) j ≡ y → word_at (registers_part w') j ≡ y
past h l j m e = on h j (omega (arith, l, m)) (λ q. absurd (omega (arith, q, m))) e

pub enters_counts : {w w₁ w₂ w₃ w₄ w₅ w₆ : List ℕ} {a : Counts} → SetsWord w 0 a.stored w₁ → SetsWord w₁ 1 a.tally.recorded w₂ → SetsWord w₂ 2 a.tally.asked w₃
    → SetsWord w₃ 3 a.tally.left w₄ → SetsWord w₄ 4 a.tally.entered w₅ → SetsWord w₅ 5 a.tally.steps w₆ → EntersCounts w a w₆
enters_counts {w₆ = w₆} {a = a} h₀ h₁ h₂ h₃ h₄ h₅ = record {
  aside = aside_aside h₀.aside (aside_aside h₁.aside (aside_aside h₂.aside (aside_aside h₃.aside (aside_aside h₄.aside h₅.aside))));
  counts = counts_by_lem w₆ a
      (past h₅ (omega arith) 0 (omega arith) (past h₄ (omega arith) 0 (omega arith) (past h₃ (omega arith) 0 (omega arith) (past h₂ (omega arith) 0 (omega arith) (past h₁ (omega arith) 0 (omega arith) h₀.here)))))
      (past h₅ (omega arith) 1 (omega arith) (past h₄ (omega arith) 1 (omega arith) (past h₃ (omega arith) 1 (omega arith) (past h₂ (omega arith) 1 (omega arith) h₁.here))))
      (past h₅ (omega arith) 2 (omega arith) (past h₄ (omega arith) 2 (omega arith) (past h₃ (omega arith) 2 (omega arith) h₂.here)))
      (past h₅ (omega arith) 3 (omega arith) (past h₄ (omega arith) 3 (omega arith) h₃.here))
      (past h₅ (omega arith) 4 (omega arith) h₄.here)
      h₅.here;
}

byte_bool : (b : Bool) → bool_of (bool_byte b) ≡ b
byte_bool true = refl
byte_bool false = refl

pub enters_how : {w w₁ w₂ w₃ : List ℕ} (h : How) → SetsWord w 6 h.depth w₁ → SetsWord w₁ 7 h.regions w₂ → SetsWord w₂ 8 (bool_byte h.second) w₃ → EntersHow w h w₃
enters_how {w₃ = w₃} h p q r = record {
  aside = aside_aside p.aside (aside_aside q.aside r.aside);
  counts = counts_kept r (omega arith) ∙ counts_kept q (omega arith) ∙ counts_kept p (omega arith);
  how = how_by w₃ h (past r (omega arith) 6 (omega arith) (past q (omega arith) 6 (omega arith) p.here)) (past r (omega arith) 7 (omega arith) q.here) (ap bool_of r.here ∙ byte_bool h.second);
}

pub enters : {w w₁ w₂ : List ℕ} {h : How} {a : Counts} → EntersCounts w a w₁ → EntersHow w₁ h w₂ → Enters w h a w₂
enters p q = record { aside = aside_aside p.aside q.aside; counts = q.counts ∙ p.counts; how = q.how }

-- ---- what a caller gets

pub counts_is : (w : List ℕ) (a : Counts) → a.stored ≡ word_at (registers_part w) 0 → a.tally.recorded ≡ word_at (registers_part w) 1 → a.tally.asked ≡ word_at (registers_part w) 2
    → a.tally.left ≡ word_at (registers_part w) 3 → a.tally.entered ≡ word_at (registers_part w) 4 → a.tally.steps ≡ word_at (registers_part w) 5 → a ≡ counts_in w
counts_is w a e₀ e₁ e₂ e₃ e₄ e₅ = sym (counts_by_lem w a (sym e₀) (sym e₁) (sym e₂) (sym e₃) (sym e₄) (sym e₅))

-- the reason that a word tells
module _ (w : List ℕ) {k : ℕ} {o : Option Reason} (ek : k ≡ word_at (registers_part w) 9) (eo : o ≡ reason_at k) where
  short_as : {z : Option Reason} (n : ℕ) → o ≡ z → n ≡ word_at (registers_part w) 10 → short_in w ≡ short_at z n
  short_as n e en = short_by w k n (sym ek) (sym en) ∙ ap (λ (y : Option Reason). short_at y n) (sym eo ∙ e)

  pub short_why : {r : Reason} {n : ℕ} → o ≡ Some r → n ≡ word_at (registers_part w) 10 → Why r n ≡ short_in w
  short_why {n = n} e en = sym (short_as n e en)

  pub short_full : o ≡ None → Full ≡ short_in w
  short_full e = sym (short_as (word_at (registers_part w) 10) e refl)

module _ (w : List ℕ) {ok : Bool} where
  pub outcome_value : {v : Val} → ok ≡ true → v ≡ value_at (registers_part w) 0 → end_of (Ok v) ≡ end_in ok w
  outcome_value y e = sym (by_true (short_in w) y (sym (e ∙ result_value w)))

-- what an Assign told, by its number
pub told_zero : (n : ℕ) → n ≡ 0 → told.Wrote ≡ told_at n
told_zero n q = ap told_at (sym q)

pub told_one : (n : ℕ) → n ≡ 1 → told.Fields ≡ told_at n
told_one n q = ap told_at (sym q)

pub told_other : (n : ℕ) → (n ≡ 0 → ⊥) → (n ≡ 1 → ⊥) → told.Written ≡ told_at n
told_other zero z o = absurd (z refl)
told_other (suc zero) z o = absurd (o refl)
told_other (suc (suc n)) z o = refl

pub told_last : (w : List ℕ) {n : ℕ} {t : Told} → n ≡ word_at (registers_part w) 11 → t ≡ told_at n → t ≡ kind_in w
unfolding kind_in
told_last w e q = q ∙ ap told_at e

-- the same of a word that is, or is not, a choice's own number
pub told_same : (w : List ℕ) {n k : ℕ} {t : Told} → n ≡ word_at (registers_part w) 11 → told_at k ≡ t → n ≡ k → t ≡ kind_in w
unfolding kind_in
told_same w e et q = sym et ∙ ap told_at (sym q ∙ e)

wrote_number : (k : ℕ) → told_at k ≡ told.Wrote → k ≡ 0
wrote_number zero e = refl
wrote_number (suc zero) e = cc
wrote_number (suc (suc k)) e = cc

fields_number : (k : ℕ) → told_at k ≡ told.Fields → k ≡ 1
fields_number zero e = cc
fields_number (suc zero) e = refl
fields_number (suc (suc k)) e = cc

pub told_neither : (w : List ℕ) {n j k : ℕ} → n ≡ word_at (registers_part w) 11 → told_at j ≡ told.Wrote → told_at k ≡ told.Fields → (n ≡ j → ⊥) → (n ≡ k → ⊥) → told.Written ≡ kind_in w
told_neither w {n} {j} {k} e ej ek z o = told_last w e (told_other n (λ q. z (q ∙ sym (wrote_number j ej))) (λ q. o (q ∙ sym (fields_number k ek))))

-- what an Assign told, by its words
module _ (w : List ℕ) {t : Told} (et : t ≡ kind_in w) where
  told_as : {k : Told} → t ≡ k → told_in w ≡ did_by k (word_at (registers_part w) 12) (word_at (registers_part w) 13) (value_at (registers_part w) 1)
  unfolding told_in kind_in
  told_as e = ap (λ (k : Told). did_by k (word_at (registers_part w) 12) (word_at (registers_part w) 13) (value_at (registers_part w) 1)) (sym et ∙ e)

  module _ {x : ℕ} {v : Val} (ex : x ≡ word_at (registers_part w) 12) (ev : v ≡ value_at (registers_part w) 1) where
    pub did_wrote : t ≡ told.Wrote → did_of (record { wrote = Some (x, v); note = Nothing }) ≡ told_in w
    did_wrote e = ap₂ did_write ex ev ∙ sym (told_as e)

    pub did_value : (d : code.Did) → t ≡ told.Written → did_of d ≡ did (note_of (Written x v) []) → did_of d ≡ told_in w
    did_value d e h = h ∙ ap₂ (λ (y : ℕ) (u : Val). did (act.value_written y u)) ex ev ∙ sym (told_as e)

    pub did_fields : {n : ℕ} (d : code.Did) → t ≡ told.Fields → n ≡ word_at (registers_part w) 13 → did_of d ≡ did (note_of (Fields x n) []) → did_of d ≡ told_in w
    did_fields d e en h = h ∙ ap₂ (λ (y m : ℕ). did (act.fields_written y m)) ex en ∙ sym (told_as e)

-- ---- the note of a statement that is no Assign

abbrev note_if : Bool → act.Note
note_if true = act.result_unknown
note_if false = act.no_note

note_is : (k known signed : Bool) (bits number : ℕ) (p : act.Pending)
    → elim k [ true ↦ unknown_note (record { known = known; signed = signed; bits = bits; number = number }) p | false ↦ act.no_note ] ≡ note_if ((k && not known) && not (noted p))
note_is false known signed bits number p = refl
note_is true true signed bits number None = refl
note_is true true signed bits number (Some xs) = refl
note_is true false signed bits number None = refl
note_is true false signed bits number (Some xs) = refl

module _ (w : List ℕ) (kind : ℕ) (ok : Bool) where
  module _ (d : code.Did) (v : Val) (h : Bool) (y : ok ≡ true) (e : v ≡ value_at (registers_part w) 0) (eh : h ≡ noted (pending_in (note_part w))) where
    noted_if : (t : Bool) → ((eqb kind 14 || eqb kind 15) && not v.known) && not h ≡ t → steps.noted kind (result_in w) (pending_in (note_part w)) ≡ note_if t
    noted_if t c = ap (λ (u : Val). steps.noted kind u (pending_in (note_part w))) (sym (e ∙ result_value w))
        ∙ note_is (eqb kind 14 || eqb kind 15) v.known v.signed v.bits v.number (pending_in (note_part w))
        ∙ ap (λ (b : Bool). note_if (((eqb kind 14 || eqb kind 15) && not v.known) && not b)) (sym eh) ∙ ap note_if c

    noted_as : (t : Bool) → ((eqb kind 14 || eqb kind 15) && not v.known) && not h ≡ t → did_of d ≡ did (note_if t) → done_of (Ok d) ≡ noted_end kind ok w
    noted_as t c ed = ap (λ (z : Did). ended z) ed ∙ sym (by_true (short_in w) y (ap (λ (z : act.Note). did z) (noted_if t c)))

    pub noted_unknown : ((eqb kind 14 || eqb kind 15) && not v.known) && not h ≡ true → did_of d ≡ did (note_of Unknown []) → done_of (Ok d) ≡ noted_end kind ok w
    noted_unknown c g = noted_as true c g

    pub noted_nothing : ((eqb kind 14 || eqb kind 15) && not v.known) && not h ≡ false → did_of d ≡ did (note_of Nothing []) → done_of (Ok d) ≡ noted_end kind ok w
    noted_nothing c g = noted_as false c g

-- ---- a value told in another way

none_told : (k : Told) (x n : ℕ) (v : Val) → (k ≡ told.Wrote → ⊥) → ev.value_of (did_by k x n v).wrote ≡ unknown_val (type 64 true)
none_told told.Wrote x n v z = absurd (z refl)
none_told told.Fields x n v z = refl
none_told told.Written x n v z = refl

pub constant_is : (b : List ℕ) (n x k : ℕ) (v : Val) → x ≡ value_of b n → k ≡ width_of b n → v ≡ known_val x (type (k * 8) true) → v ≡ known_val (value_of b n) (type (width_of b n * 8) true)
constant_is b n x k v ex ek ev = ev ∙ ap₂ (λ (i j : ℕ). known_val i (type (j * 8) true)) ex ek

module _ (w : List ℕ) (r : Bool) (w' : List ℕ) where
  pub gives_as : (v u : Val) → v ≡ u → Gives w v r w' → Gives w u r w'
  gives_as v u e g = subst (λ (z : Val). Gives w z r w') e g

  pub register_gives : (b : List ℕ) (n k : ℕ) (v : Val) → k ≡ width_of b n → v ≡ unknown_val (type k true) → Gives w v r w' → Gives w (unknown_val (type (width_of b n) true)) r w'
  register_gives b n k v ek ev g = gives_as v _ (ev ∙ ap (λ (j : ℕ). unknown_val (type j true)) ek) g

  pub decided_gives : (b : List ℕ) (n x : ℕ) → x ≡ flag_of b n → Gives w (known_val x (type 8 false)) r w' → Gives w (known_val (flag_of b n) (type 8 false)) r w'
  decided_gives b n x e g = gives_as _ _ (ap (λ (i : ℕ). known_val i (type 8 false)) e) g

  pub cast_gives : (v u : Val) (t s : Ty) → v ≡ value_at (registers_part w) 0 → t ≡ s → u ≡ cast_to v t → Gives w u r w' → Gives w (cast_to (result_in w) s) r w'
  cast_gives v u t s e et eu g = gives_as u _ (eu ∙ ap₂ cast_to (e ∙ result_value w) et) g

  -- ---- a Ternary's choice

  module _ (c t : Val) where
    pub chosen_unknown : c.known ≡ false → Gives w (unknown_val (type t.bits t.signed)) r w' → Gives w (chosen c t (result_in w)) r w'
    chosen_unknown k g = gives_as _ _ (sym same) g
      where
        same : chosen c t (result_in w) ≡ unknown_val (type_of_val t)
        same = rw k

    pub chosen_zero : (e : Val) → e ≡ value_at (registers_part w) 0 → c.known ≡ true → c.number ≡ 0 → Gives w e r w' → Gives w (chosen c t (result_in w)) r w'
    chosen_zero e ee k z g = gives_as e _ (ee ∙ result_value w ∙ sym same) g
      where
        same : chosen c t (result_in w) ≡ result_in w
        same = rw (k, z)

    pub chosen_other : c.known ≡ true → (c.number ≡ 0 → ⊥) → Gives w t r w' → Gives w (chosen c t (result_in w)) r w'
    chosen_other k z g = gives_as t _ (sym same) g
      where
        same : chosen c t (result_in w) ≡ t
        same = rw (k, ne_eqb c.number 0 z, chosen)

  -- ---- the value of an Assign

  module _ {t : Told} (et : t ≡ kind_in w) where
    pub values_wrote : (v : Val) → v ≡ value_at (registers_part w) 1 → t ≡ told.Wrote → Gives w v r w' → Gives w (ev.value_of (told_in w).wrote) r w'
    values_wrote v e z g = gives_as v _ (e ∙ sym (ap (λ (d : Did). ev.value_of d.wrote) (told_as w et z))) g

    pub values_none : (t ≡ told.Wrote → ⊥) → Gives w (unknown_val (type 64 true)) r w' → Gives w (ev.value_of (told_in w).wrote) r w'
    values_none z g = gives_as _ _ (sym (ap (λ (d : Did). ev.value_of d.wrote) (told_as w et refl) ∙ none_told t (word_at (registers_part w) 12) (word_at (registers_part w) 13) (value_at (registers_part w) 1) z)) g

-- ---- an operator's answer

module _ (w : List ℕ) (q : Bool) (w' : List ℕ) (l r : Val) (p : BinaryOp) (f : ℕ) (b : List ℕ) (n : ℕ) (z : Result Val ArithmeticError)
    (ez : z ≡ binary_of p l r) (ep : p ≡ operator_of f) (ef : f ≡ flag_of b n) where
  answer_is : z ≡ binary_of (operator_of (flag_of b n)) l r
  answer_is = ez ∙ ap (λ (o : BinaryOp). binary_of o l r) (ep ∙ ap operator_of ef)

  pub answers_value : (v : Val) → z ≡ Ok v → Gives w v q w' → Answers w (binary_of (operator_of (flag_of b n)) l r) q w'
  answers_value v e g = record { beside = g.beside; ends = by_true (short_in w') g.yes g.value ∙ ap answer_end (sym e ∙ answer_is) }

  pub answers_zero : z ≡ Err DivisionByZero → GivesShort w (Why ByZero 0) q w' → Answers w (binary_of (operator_of (flag_of b n)) l r) q w'
  answers_zero e g = record { beside = g.beside; ends = by_false (result_in w') g.no g.why ∙ ap answer_end (sym e ∙ answer_is) }
