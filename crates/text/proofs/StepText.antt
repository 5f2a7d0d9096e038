-- The parts of a step's line from the fields of the step. Assumes nothing.
use mathlib.Core.Path.{◌≡◌, refl, sym, ap, ◌∙◌}
use Rattle.value.specs.declared.Val.{Val}
use mathlib.Core.List.{List, ◌++◌}
use Prim.Native.Nat.{ℕ, zero, suc}
use native.Mathlib.Omega.{arith}
use borrow.Author.Tests.{ne_eqb}
use Rattle.layout.specs.Text.{text}
use Rattle.layout.specs.Number.{number_at}
use Rattle.definition.specs.Act.{Note, no_note, fields_written, value_written, result_unknown, not_followed}
use Rattle.definition.specs.Listing.{note_text}
use Rattle.value.specs.Encoding.{val_at}
use Rattle.text.specs.Read.{names_in, note_in}
use Rattle.text.specs.Lines.{commaed}
use Rattle.text.specs.Told.{note_kind_in}
use Rattle.text.proofs.StopText.{or_last}
use Rattle.stream.specs.declared.NoteKind.{NoteKind}
use Rattle.stream.specs.declared.NoteKind.TheVariants.{Nothing, Fields, Written, Unknown, NotFollowed, Taken}
use Rattle.stream.specs.Pieces.{note_kind_at}
use Rattle.std.specs.Prelude.{Option, Result, eqb, unwrap_or}
use Rattle.std.specs.Result.{result_ok, result_unwrap_or}
use mathlib.Core.Bool.{cond}
use mathlib.Core.Logic.{◌⊎◌, inl, inr}

-- ---- a call that is not followed

module _ (names : List (List ℕ)) (s : List ℕ) where
  abbrev followed : ℕ → List ℕ
  followed k = note_text names (not_followed (names_in s 63 k))

  pub followed_none : number_at s 61 2 ≡ 0 → text "  ; not followed; its result is unknown, and what it wrote to memory is not known" ≡ followed (number_at s 61 2)
  unfolding names_in
  followed_none z = ap followed (sym z)

  some_followed : (k : ℕ) → (k ≡ 0 → ⊥) → text "  ; not followed; its result is unknown, as are " ++ (commaed names (names_in s 63 k) ++ text " after it") ≡ followed k
  unfolding names_in
  some_followed zero h = absurd (h refl)
  some_followed (suc k) h = refl

  pub followed_some : (number_at s 61 2 ≡ 0 → ⊥)
      → text "  ; not followed; its result is unknown, as are " ++ (commaed names (names_in s 63 (number_at s 61 2)) ++ text " after it") ≡ followed (number_at s 61 2)
  followed_some h = some_followed (number_at s 61 2) h

-- ---- the note by its kind

module _ (s : List ℕ) where
  pub kind_is : {E : Type 0} {k : ℕ} (r : Result NoteKind E) {x : NoteKind} → k ≡ number_at s 34 1 → result_ok r ≡ note_kind_at k → x ≡ result_unwrap_or r NotFollowed → x ≡ note_kind_in s
  unfolding note_kind_in
  kind_is r e o u = u ∙ or_last r NotFollowed ∙ ap (λ (y : Option NoteKind). unwrap_or y NotFollowed) (o ∙ ap note_kind_at e)

-- what a note of a kind tells, of the address, the count, the value and the names beside it
abbrev note_by : NoteKind → (address count : ℕ) → Val → List ℕ → Note
note_by Nothing address count v taken = no_note
note_by Fields address count v taken = fields_written address count
note_by Written address count v taken = value_written address v
note_by Unknown address count v taken = result_unknown
note_by NotFollowed address count v taken = not_followed taken
note_by Taken address count v taken = not_followed taken

note_numbered : (k address count : ℕ) (v : Val) (taken : List ℕ) → note_by (unwrap_or (note_kind_at k) NotFollowed) address count v taken
    ≡ cond (eqb k 0) no_note (cond (eqb k 1) (fields_written address count) (cond (eqb k 2) (value_written address v) (cond (eqb k 3) result_unknown (not_followed taken))))
note_numbered zero address count v taken = refl
note_numbered (suc zero) address count v taken = refl
note_numbered (suc (suc zero)) address count v taken = refl
note_numbered (suc (suc (suc zero))) address count v taken = refl
note_numbered (suc (suc (suc (suc zero)))) address count v taken = refl
note_numbered (suc (suc (suc (suc (suc zero))))) address count v taken = refl
note_numbered (suc (suc (suc (suc (suc (suc k)))))) address count v taken =
    let n = suc (suc (suc (suc (suc (suc k))))) in
    simp (ne_eqb n 0 (λ z. absurd (omega arith)), ne_eqb n 1 (λ z. absurd (omega arith)), ne_eqb n 2 (λ z. absurd (omega arith)), ne_eqb n 3 (λ z. absurd (omega arith)))

module _ (s : List ℕ) {x y : NoteKind} (e : x ≡ note_kind_in s) (z : x ≡ y) where
  pub note_is : note_by y (number_at s 35 8) (number_at s 43 4) (val_at s 47) (names_in s 63 (number_at s 61 2)) ≡ note_in s
  unfolding note_in note_kind_in
  note_is =
      ap (λ (k : NoteKind). note_by k (number_at s 35 8) (number_at s 43 4) (val_at s 47) (names_in s 63 (number_at s 61 2))) (sym z ∙ e)
      ∙ note_numbered (number_at s 34 1) (number_at s 35 8) (number_at s 43 4) (val_at s 47) (names_in s 63 (number_at s 61 2))

pub followed_is : (s : List ℕ) {x : NoteKind} → x ≡ note_kind_in s → (x ≡ NotFollowed) ⊎ (x ≡ Taken) → not_followed (names_in s 63 (number_at s 61 2)) ≡ note_in s
followed_is s e (inl z) = note_is s e z
followed_is s e (inr z) = note_is s e z
