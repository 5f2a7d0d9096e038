-- A statement's step as the code sends it is the definition's. Assumes nothing.
use mathlib.Core.Path.{◌≡◌, refl, sym, ap, ◌∙◌, subst}
use mathlib.Core.Bool.{Bool, true, false, not, true≢false}
use mathlib.Core.List.{List, [], ◌++◌, append-nil}
use Rattle.std.specs.Prelude.{None, Some}
use Prim.Native.Nat.{ℕ, zero, suc, ◌+◌, ◌*◌, ◌≤◌, ◌<◌}
use native.Mathlib.Omega.{arith}
use lib.Dec.{eqb}
use lib.ListN.{length, take, drop, length-append}
use lib.Seq.{take_at}
use Rattle.value.proofs.EncodingLaws.{flag_read}
use Rattle.layout.specs.Each.{Each}
use Rattle.layout.specs.Number.{le, num, number_at}
use Rattle.layout.specs.Format.{number, writes, reads, bool_of}
use Rattle.layout.proofs.NumberLaws.{length_le, num_le, number_at_lt}
use Rattle.layout.proofs.FormatLaws.{Below}
use Rattle.definition.specs.Act.{no_note, not_followed, Pending}
use Rattle.definition.specs.Evaluate as ev
use Rattle.definition.specs.Statements as statements
use Rattle.definition.specs.Record.{note_fields, step_fields}
use Rattle.workspace.specs.Parts.{registers_part, note_part}
use Rattle.workspace.specs.Note.{names, names_bytes, pending_in, noted, taken, Few}
use Rattle.workspace.specs.Registers.{word_at}
use Rattle.workspace.specs.Post.{SetsWord}
use Rattle.stream.specs.declared.NotePiece.{NotePiece}
use Rattle.stream.specs.declared.NotePiece.TheVariants.{Nothing, Fields, Written, Unknown, NotFollowed}
use Rattle.stream.specs.declared.StepPiece.{StepPiece}
use Rattle.stream.specs.Stream.{Sent}
use Rattle.stream.specs.Pieces.{taken_count, taken_names, step_bytes, note_of, note_from, step_from}
use Rattle.stream.proofs.FieldLaws.{step_sent, taken_back}
use Rattle.stream.proofs.StepLaws.{length_names}
use Rattle.hosting.specs.declared.Did.{Did}
use Rattle.hosting.specs.Ending.{did_of}
use Rattle.hosting.specs.Held.{with_recorded}
use Rattle.operations.specs.Registers.{counts_in, how_in}
use Rattle.operations.proofs.Registers.{recorded_word, second_word, recorded_set, recorded_how}
use Rattle.outcomes.specs.declared.steps.Site.{Site}
use Rattle.outcomes.specs.Steps.{piece_of, step_as}
use Rattle.outcomes.specs.Post.{Sends}

-- ---- which note a step tells

-- the pending one, where it has none of its own
left_told : (note : NotePiece) (p : Pending) → note ≡ Nothing → noted p ≡ true → statements.note_of (note_of note []) p ≡ not_followed (taken p)
left_told note None e h = absurd (true≢false (sym h))
left_told note (Some xs) e h = ap (λ (z : NotePiece). statements.note_of (note_of z []) (Some xs)) e

none_told : (note : NotePiece) (p : Pending) → note ≡ Nothing → noted p ≡ false → statements.note_of (note_of note []) p ≡ no_note
none_told note None e h = ap (λ (z : NotePiece). statements.note_of (note_of z []) None) e
none_told note (Some xs) e h = absurd (true≢false h)

own_told : (note : NotePiece) (p : Pending) → (note ≡ Nothing → ⊥) → note_from note [] ≡ note_fields (statements.note_of (note_of note []) p)
unfolding note_from
own_told Nothing p ne = absurd (ne refl)
own_told (Fields a n) p ne = refl
own_told (Written a v) p ne = refl
own_told Unknown p ne = refl
own_told NotFollowed p ne = refl

-- ---- the names in bytes

module _ (xs : List ℕ) where
  names_count : length xs < 65536 → number_at (names_bytes xs) 0 2 ≡ length xs
  unfolding names_bytes number_at
  names_count h = ap num (take_at (le 2 (length xs)) (writes (number 2) xs) 2 (length_le 2 (length xs))) ∙ num_le 2 (length xs) h

  names_length : length (names_bytes xs) ≡ 2 + length (writes (number 2) xs)
  unfolding names_bytes
  names_length = length-append (le 2 (length xs)) (writes (number 2) xs) ∙ ap (λ (n : ℕ). n + length (writes (number 2) xs)) (length_le 2 (length xs))

-- names that were read are names that can be written
reads_below : (k : ℕ) (s : List ℕ) → Each (Below 2) (reads (number 2) k s).0
unfolding number_at
reads_below zero s = tt
reads_below (suc k) s = (number_at_lt s 0 2, reads_below k (drop 2 s))

pub pending_below : (p : List ℕ) → Each (Below 2) (taken (pending_in p))
unfolding pending_in
pending_below p = go (bool_of (number_at p 0 1))
  where
    go : (b : Bool) → Each (Below 2) (taken (elim b [ true ↦ Some (names.read (drop 1 p)).0 | false ↦ None ]))
    go true = reads_below (num (take 2 (drop 1 p))) (drop 2 (drop 1 p))
    go false = tt

names_taken : (xs : List ℕ) → length xs < 65536 → Each (Below 2) xs → taken_names NotFollowed (names_bytes xs) ≡ xs
unfolding names_bytes
names_taken xs l h = ap (taken_names NotFollowed) (sym (append-nil (le 2 (length xs) ++ writes (number 2) xs))) ∙ taken_back xs [] l h

left_fields : (xs : List ℕ) → length xs < 65536 → Each (Below 2) xs → note_from NotFollowed (names_bytes xs) ≡ note_fields (not_followed xs)
unfolding note_from
left_fields xs l h = ap (λ (ys : List ℕ). note_fields (not_followed ys)) (names_taken xs l h)

-- ---- the step

module _ {on : Bool} {out out' : List ℕ} {at r : ℕ} (site : Site) (did : Did) (s : StepPiece) (p : Pending) (made : s ≡ piece_of site did) where
  -- a piece with a note has the step's fields where the note has
  sent_with : (n : NotePiece) (names : List ℕ) → note_from n names ≡ note_fields (statements.note_of (note_of did.note []) p) → Sent on out at (step_bytes (step_from s n names)) out' r
      → Sent on out at (step_bytes (step_fields (step_as site (did_of did) p))) out' r
  sent_with n names e t =
      step_sent (piece_of site did) n names (step_as site (did_of did) p) (subst (λ (z : StepPiece). Sent on out at (step_bytes (step_from z n names)) out' r) made t) refl refl refl refl e

  pub sent_own : (did.note ≡ Nothing → ⊥) → Sent on out at (step_bytes (step_from s did.note [])) out' r → Sent on out at (step_bytes (step_fields (step_as site (did_of did) p))) out' r
  sent_own ne t = sent_with did.note [] (own_told did.note p ne) t

  module _ (none : did.note ≡ Nothing) {b : Bool} (has : b ≡ noted p) where
    pub sent_plain : b ≡ false → Sent on out at (step_bytes (step_from s Nothing [])) out' r → Sent on out at (step_bytes (step_fields (step_as site (did_of did) p))) out' r
    unfolding note_from
    sent_plain f t = sent_with Nothing [] (ap note_fields (sym (none_told did.note p none (sym has ∙ f)))) t

    pub sent_left : {names : List ℕ} → b ≡ true → names ≡ names_bytes (taken p) → Few p → Each (Below 2) (taken p) → Sent on out at (step_bytes (step_from s NotFollowed names)) out' r
        → Sent on out at (step_bytes (step_fields (step_as site (did_of did) p))) out' r
    sent_left f bytes few h t =
        sent_with NotFollowed (names_bytes (taken p))
        (left_fields (taken p) (omega (arith, few)) h ∙ ap note_fields (sym (left_told did.note p none (sym has ∙ f))))
        (subst (λ (z : List ℕ). Sent on out at (step_bytes (step_from s NotFollowed z)) out' r) bytes t)

-- in the first pass
turned : (b : Bool) {d : Bool} → not b ≡ d → b ≡ not d
turned true e = ap not e
turned false e = ap not e

pub sent_on : (w : List ℕ) {k : ℕ} {out out' : List ℕ} {at r : ℕ} {piece : List ℕ} → k ≡ word_at (registers_part w) 8 → Sent (eqb k 0) out at piece out' r → Sent (not (how_in w).second) out at piece out' r
sent_on w {k} {out} {out'} {at} {r} {piece} e s =
    subst (λ (b : Bool). Sent b out at piece out' r) (turned (eqb k 0) (flag_read k ∙ ap bool_of e ∙ second_word w)) s

-- and the cursor is kept in the registers
pub sends_of : {site : Site} {d : ev.Did} {w o w' o' : List ℕ} {at cursor : ℕ} → at ≡ word_at (registers_part w) 1
    → Sent (not (how_in w).second) o at (step_bytes (step_fields (step_as site d (pending_in (note_part w))))) o' cursor → SetsWord w 1 cursor w' → Sends site d w o w' o'
sends_of {site} {d} {w} {o} {w'} {o'} {at} {cursor} e s h = record {
  aside = h.aside;
  how = recorded_how h;
  counts = recorded_set h ∙ ap (λ (c : ℕ). with_recorded c (counts_in w)) after;
  sent = subst (λ (c : ℕ). Sent (not (how_in w).second) o c piece o' (counts_in w').tally.recorded) (e ∙ recorded_word w) (subst (λ (c : ℕ). Sent (not (how_in w).second) o at piece o' c) after s);
}
  where
    piece : List ℕ
    piece = step_bytes (step_fields (step_as site d (pending_in (note_part w))))

    after : cursor ≡ (counts_in w').tally.recorded
    after = sym h.here ∙ recorded_word w'

-- what a step needs of the names beside it
pub names_fit : (xs : List ℕ) {names : List ℕ} → names ≡ names_bytes xs → length xs ≤ 16 → 2 + 2 * taken_count NotFollowed names ≤ length names
names_fit xs {names} bytes few =
    let t : taken_count NotFollowed names ≡ length xs = ap (taken_count NotFollowed) bytes ∙ names_count xs (omega arith) in
    omega (arith, t, ap length bytes, names_length xs, length_names xs)
