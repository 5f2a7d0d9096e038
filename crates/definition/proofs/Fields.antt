-- Questions with their answers: what is written is read back (`entry_sound`), an answer is known by its fields (`fields_tell`), and every question that
-- `run` asks is one that its fields hold (`cut_fits`). Assumes nothing.
use mathlib.Core.Path.{◌≡◌, refl, ap}
use mathlib.Core.Bool.{Bool, true, false}
use mathlib.Core.List.{List, [], ◌∷◌, map}
use Rattle.std.specs.Prelude.{Option, None, Some}
use Prim.Native.Nat.{ℕ, zero, suc, ◌<◌}
use native.Mathlib.Nat.{mod-lt}
use native.Mathlib.Omega.{arith}
use lib.ListN.{length, take, length-take}
use lib.Dec.{lit<}
use Rattle.layout.specs.Each.{Each}
use Rattle.value.specs.declared.Val.{Val}
use Rattle.layout.specs.Format.{flag, flag_of, bool_of}
use Rattle.definition.specs.Question.{Asked, address_of, size_of, read_at, call_to, Question, Answer, cut_val, cut}
use Rattle.value.specs.Encoding.{from_val, to_val, val}
use Rattle.definition.specs.Fields.{flag_and_number, code_of, asked_of, asked, from_span, to_span, from_calling, to_calling, question, Fields, fields_of, fields, Written, entry}
use Rattle.layout.proofs.FormatLaws.{Sound, Below, number_sound, then_sound, pair_sound, via_sound, times_sound, counted_sound}

-- ---- what the fields of a question and of an answer hold

abbrev pub OptionFits : Option ℕ → Type 0
OptionFits None = Unit
OptionFits (Some n) = Below 8 n

abbrev pub ValFits : Val → Type 0
ValFits v = Below 4 v.bits × Below 8 v.number

abbrev pub QuestionFits : (κ : Asked) → Question κ → Type 0
QuestionFits address_of n = Below 2 n
QuestionFits size_of n = Below 2 n
QuestionFits read_at q = Below 8 q.address × Below 1 q.size
QuestionFits call_to q = Below 2 q.name × Below 8 q.address × Below 4 q.depth × Below 1 (length q.values) × Each ValFits q.values

-- what a world may answer
abbrev pub AnswerFits : (κ : Asked) → Answer κ → Type 0
AnswerFits address_of o = OptionFits o
AnswerFits size_of o = OptionFits o
AnswerFits read_at bs = Below 1 (length bs) × Each (Below 1) bs
AnswerFits call_to u = Unit

abbrev pub FieldsFit : (κ : Asked) → Fields κ → Type 0
FieldsFit address_of f = Below 1 f.0 × Below 8 f.1
FieldsFit size_of f = Below 1 f.0 × Below 8 f.1
FieldsFit read_at f = Below 1 f.0 × ((length f.1 ≡ f.0) × Each (Below 1) f.1)
FieldsFit call_to f = Below 1 f

abbrev pub WrittenFits : Written → Type 0
WrittenFits e = Unit {0} × (QuestionFits e.0 e.1.0 × FieldsFit e.0 e.1.1)

flag_and_number_fits : (o : Option ℕ) → OptionFits o → Below 1 (flag_and_number o).0 × Below 8 (flag_and_number o).1
flag_and_number_fits None h = (lit< tt, lit< tt)
flag_and_number_fits (Some n) h = (lit< tt, h)

pub fields_fit : (κ : Asked) (a : Answer κ) → AnswerFits κ a → FieldsFit κ (fields_of κ a)
fields_fit address_of a h = flag_and_number_fits a h
fields_fit size_of a h = flag_and_number_fits a h
fields_fit read_at bs h = (h.0, (refl, h.1))
fields_fit call_to a h = lit< tt

-- ---- read back

pub bool_back : (b : Bool) → bool_of (flag_of b) ≡ b
bool_back false = refl
bool_back true = refl

flag_below : (b : Bool) → Below 1 (flag_of b)
flag_below false = lit< tt
flag_below true = lit< tt

pub flag_sound : Sound flag (λ _. Unit {0})
flag_sound = via_sound flag_of bool_of (number_sound 1) bool_back (λ _. Unit {0}) (λ b _. flag_below b) (λ _ _. tt)

pub val_sound : Sound val ValFits
val_sound =
    via_sound from_val to_val (pair_sound flag_sound (pair_sound flag_sound (pair_sound (number_sound 4) (number_sound 8))))
    (λ v. refl)
    ValFits
    (λ v h. (tt, (tt, (h.0, h.1))))
    (λ p h. (h.1.1.0, h.1.1.1))

asked_back : (κ : Asked) → asked_of (code_of κ) ≡ κ
asked_back address_of = refl
asked_back size_of = refl
asked_back read_at = refl
asked_back call_to = refl

asked_below : (κ : Asked) → Below 1 (code_of κ)
asked_below address_of = lit< tt
asked_below size_of = lit< tt
asked_below read_at = lit< tt
asked_below call_to = lit< tt

pub asked_sound : Sound asked (λ _. Unit {0})
asked_sound = via_sound code_of asked_of (number_sound 1) asked_back (λ _. Unit {0}) (λ κ _. asked_below κ) (λ _ _. tt)

pub question_sound : (κ : Asked) → Sound (question κ) (QuestionFits κ)
question_sound address_of = number_sound 2
question_sound size_of = number_sound 2
question_sound read_at =
    via_sound from_span to_span (pair_sound (number_sound 8) (number_sound 1)) (λ q. refl) (QuestionFits read_at) (λ q h. h) (λ p h. h)
question_sound call_to =
    via_sound from_calling to_calling (pair_sound (number_sound 2) (pair_sound (number_sound 8) (pair_sound (number_sound 4) (counted_sound val_sound 1))))
    (λ q. refl) (QuestionFits call_to)
    (λ q h. (h.0, (h.1, (h.2, (h.3, h.4)))))
    (λ p h. (h.0, h.1.0, h.1.1.0, h.1.1.1.0, h.1.1.1.1))

pub fields_sound : (κ : Asked) → Sound (fields κ) (FieldsFit κ)
fields_sound address_of = pair_sound (number_sound 1) (number_sound 8)
fields_sound size_of = pair_sound (number_sound 1) (number_sound 8)
fields_sound read_at = then_sound (number_sound 1) (λ count. times_sound (number_sound 1) count)
fields_sound call_to = number_sound 1

pub entry_sound : Sound entry WrittenFits
entry_sound = then_sound asked_sound (λ κ. pair_sound (question_sound κ) (fields_sound κ))

pub entry_some : (e : Written) → 0 < length (entry.write e)
entry_some e = omega arith

-- ---- an answer is known by its fields

flag_and_number_tells : (a b : Option ℕ) → flag_and_number a ≡ flag_and_number b → a ≡ b
flag_and_number_tells None None e = refl
flag_and_number_tells None (Some n) e = absurd (omega (arith, ap (λ (f : ℕ × ℕ). f.0) e))
flag_and_number_tells (Some n) None e = absurd (omega (arith, ap (λ (f : ℕ × ℕ). f.0) e))
flag_and_number_tells (Some n) (Some m) e = ap (λ (f : ℕ × ℕ). Some f.1) e

pub fields_tell : (κ : Asked) (a b : Answer κ) → fields_of κ a ≡ fields_of κ b → a ≡ b
fields_tell address_of a b e = flag_and_number_tells a b e
fields_tell size_of a b e = flag_and_number_tells a b e
fields_tell read_at a b e = ap (λ (f : ℕ × List ℕ). f.1) e
fields_tell call_to a b e = refl

-- ---- what is asked fits

cut_val_fits : (v : Val) → ValFits (cut_val v)
cut_val_fits v = (mod-lt v.bits (lit< tt), mod-lt v.number (lit< tt))

cut_each : (n : ℕ) (vs : List Val) → Each ValFits (take n (map cut_val vs))
cut_each zero vs = tt
cut_each (suc n) [] = tt
cut_each (suc n) (v ∷ vs) = (cut_val_fits v, cut_each n vs)

pub cut_fits : (κ : Asked) (q : Question κ) → QuestionFits κ (cut κ q)
unfolding cut
cut_fits address_of n = mod-lt n (lit< tt)
cut_fits size_of n = mod-lt n (lit< tt)
cut_fits read_at q = (mod-lt q.address (lit< tt), mod-lt q.size (lit< tt))
cut_fits call_to q = (
  mod-lt q.name (lit< tt),
  mod-lt q.address (lit< tt),
  mod-lt q.depth (lit< tt),
  rw length-take (omega arith),
  cut_each 255 q.values,
)
