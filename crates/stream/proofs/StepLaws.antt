-- The bytes of a step: their groups, the taken names, and their length. Assumes nothing.
use mathlib.Core.Path.{◌≡◌, refl, sym, ap, ap₂, ◌∙◌}
use mathlib.Core.Bool.{Bool, cond}
use mathlib.Core.List.{List, [], ◌∷◌, ◌++◌}
use Rattle.std.specs.Prelude.{Option, None, Some, is_some, unwrap_or}
use Prim.Native.Nat.{ℕ, suc, ◌+◌, ◌-◌, ◌*◌, ◌≤◌}
use native.Mathlib.Omega.{arith}
use borrow.Author.Tests.{ne_eqb}
use lib.ListN.{length, take, drop, get_or, length-drop}
use lib.Seq.{sets, take-take}
use mir.Syntax.{w8}
use mir.Val.{bool_byte, Fits}
use Rattle.value.specs.declared.Val.{Val}
use Rattle.layout.specs.Each.{Bytes}
use lib.Dec.{eqb}
use Rattle.layout.specs.Number.{le, number_at, put_number}
use Rattle.layout.specs.Format.{number, writes, reads}
use Rattle.layout.proofs.StoreLaws.{each_drop, each_byte}
use Rattle.layout.proofs.FormatLaws.{length_reads}
use Rattle.memory.proofs.EntryLaws.{Sized, number_sized, length_writes, writes_reads}
use Rattle.definition.specs.Act.{not_followed}
use Rattle.definition.specs.Fields.{no_val}
use Rattle.definition.specs.Record.{wrote_fields, NoteFields, note_fields}
use Rattle.stream.specs.declared.NotePiece.{NotePiece}
use Rattle.stream.specs.declared.NotePiece.TheVariants.{Nothing, Fields, Written, Unknown, NotFollowed}
use Rattle.stream.specs.declared.NoteNumbers.{NoteNumbers}
use Rattle.stream.specs.declared.StepPiece.{StepPiece}
use Rattle.value.specs.Encoding.{val_bytes}
use Rattle.stream.specs.Pieces.{step_bytes, note_from, step_from, taken_count, taken_names, told_count, told_names, note_with_numbers, step_with_numbers}
use Rattle.stream.specs.Groups.{flagged_bytes, place_bytes, wrote_bytes, note_bytes, head_bytes, names_bytes}
use Rattle.stream.proofs.StoreLaws.{two_stored}

-- ---- its groups

pub place_stored : (s t u w : List ℕ) (at block statement : ℕ) (o : Option ℕ) → t ≡ sets s at (flagged_bytes o) → u ≡ put_number t (at + 9) 4 block
    → w ≡ put_number u (at + 13) 4 statement → w ≡ sets s at (place_bytes o block statement)
unfolding put_number flagged_bytes place_bytes
place_stored s t u w at block statement o p q r =
    two_stored (flagged_bytes o ++ le 4 block) (le 4 statement) s u w at (at + 13) (two_stored (flagged_bytes o) (le 4 block) s t u at (at + 9) p q refl) r refl

wrote_bytes_lem : (o : Option (ℕ × Val)) → let z : ℕ × Val = unwrap_or o (0, no_val) in le 1 (bool_byte (is_some o)) ++ le 2 z.0 ++ val_bytes z.1 ≡ wrote_bytes (wrote_fields o)
unfolding val_bytes wrote_bytes
wrote_bytes_lem None = refl
wrote_bytes_lem (Some x) = refl

pub wrote_stored : (s t u w : List ℕ) (at : ℕ) (o : Option (ℕ × Val)) (b : Bool) (x : ℕ × Val) (v : Val) → v ≡ no_val → x ≡ unwrap_or o (0, v) → b ≡ is_some o
    → t ≡ put_number s at 1 (bool_byte b) → u ≡ put_number t (at + 1) 2 x.0 → w ≡ sets u (at + 3) (val_bytes x.1)
    → w ≡ sets s at (wrote_bytes (wrote_fields o))
unfolding put_number
wrote_stored s t u w at o b x v z e f p q r =
    two_stored (le 1 (bool_byte b) ++ le 2 x.0) (val_bytes x.1) s u w at (at + 3) (two_stored (le 1 (bool_byte b)) (le 2 x.0) s t u at (at + 1) p q refl) r refl
    ∙ ap₂ (λ (c : Bool) (y : ℕ × Val). sets s at (le 1 (bool_byte c) ++ le 2 y.0 ++ val_bytes y.1)) f (e ∙ ap (λ (d : Val). unwrap_or o (0, d)) z)
    ∙ ap (sets s at) (wrote_bytes_lem o)

pub note_stored : (s t u w x : List ℕ) (at note place count : ℕ) (v : Val) → t ≡ put_number s at 1 note → u ≡ put_number t (at + 1) 8 place
    → w ≡ put_number u (at + 9) 4 count → x ≡ sets w (at + 13) (val_bytes v) → x ≡ sets s at (note_bytes note place count v)
unfolding put_number note_bytes val_bytes
note_stored s t u w x at note place count v p q r e =
    two_stored (le 1 note ++ le 8 place ++ le 4 count) (val_bytes v) s w x at (at + 13)
    (two_stored (le 1 note ++ le 8 place) (le 4 count) s u w at (at + 9) (two_stored (le 1 note) (le 8 place) s t u at (at + 1) p q refl) r refl) e refl

pub names_stored : (s t u names : List ℕ) (at count : ℕ) → 2 + 2 * count ≤ length names → t ≡ put_number s at 2 count
    → u ≡ sets t (at + 2) (take (2 * count) (take (length names - 2) (drop 2 names))) → u ≡ sets s at (names_bytes count names)
unfolding put_number names_bytes
names_stored s t u names at count h p q =
    two_stored (le 2 count) (take (2 * count) (take (length names - 2) (drop 2 names))) s t u at (at + 2) p q refl
    ∙ ap (λ (l : List ℕ). sets s at (le 2 count ++ l)) (take-take (2 * count) (length names - 2) (drop 2 names) (omega arith))

-- ---- the taken names

name : Sized (number 2) 2
name = number_sized 2

-- so many names read from bytes are those bytes when written again
names_again : (k : ℕ) (bs : List ℕ) → Bytes bs → 2 * k ≤ length bs → writes (number 2) (reads (number 2) k bs).0 ≡ take (2 * k) bs
names_again k bs all h = let e : k * 2 ≡ 2 * k = omega arith in writes_reads name k bs (omega arith) all ∙ ap (λ (n : ℕ). take n bs) e

pub length_taken : (note : NotePiece) (names : List ℕ) → length (taken_names note names) ≡ taken_count note names
unfolding taken_names
length_taken note names = length_reads (number 2) (taken_count note names) (drop 2 names)

pub length_names : (xs : List ℕ) → length (writes (number 2) xs) ≡ 2 * length xs
length_names xs = omega (arith, length_writes name xs)

names_are : (k count : ℕ) (names : List ℕ) → Bytes names → 2 + 2 * count ≤ length names → count ≡ k
    → names_bytes count names ≡ le 2 (length (reads (number 2) k (drop 2 names)).0) ++ writes (number 2) (reads (number 2) k (drop 2 names)).0
unfolding names_bytes
names_are k count names all h e =
    ap₂ (λ (n : ℕ) (l : List ℕ). le 2 n ++ l) (sym (length_reads (number 2) count (drop 2 names))) (sym (names_again count (drop 2 names) (each_drop 2 names all) (rw length-drop (omega arith))))
    ∙ ap (λ (k : ℕ). le 2 (length (reads (number 2) k (drop 2 names)).0) ++ writes (number 2) (reads (number 2) k (drop 2 names)).0) e

names_bytes_lem : (note : NotePiece) (count : ℕ) (names : List ℕ) → Bytes names → 2 + 2 * count ≤ length names → count ≡ taken_count note names
    → names_bytes count names ≡ le 2 (length (taken_names note names)) ++ writes (number 2) (taken_names note names)
unfolding taken_names
names_bytes_lem note count names all h e = names_are (taken_count note names) count names all h e

-- ---- the note

-- a note's fields but for the names, and the names that it tells
head_none : (xs : List ℕ) → note_bytes (cond (eqb (length xs) 0) 4 5) 0 0 no_val ≡ (let f = note_fields (not_followed xs) in note_bytes f.0 f.1.0 f.1.1.0 f.1.1.1.0)
head_none [] = refl
head_none (x ∷ xs) = rw (ne_eqb (suc (length xs)) 0 (λ e. omega arith))

head_is : (note : NotePiece) (names : List ℕ) (count : ℕ) → count ≡ taken_count note names
    → head_bytes note count ≡ (let f = note_from note names in note_bytes f.0 f.1.0 f.1.1.0 f.1.1.1.0)
unfolding note_from
head_is Nothing names count e = refl
head_is (Fields address n) names count e = refl
head_is (Written address v) names count e = refl
head_is Unknown names count e = refl
head_is NotFollowed names count e =
    ap (λ (k : ℕ). note_bytes (cond (eqb k 0) 4 5) 0 0 no_val) (e ∙ sym (length_taken NotFollowed names)) ∙ head_none (taken_names NotFollowed names)

told_taken : (xs : List ℕ) → (note_fields (not_followed xs)).1.1.1.1 ≡ xs
told_taken [] = refl
told_taken (x ∷ xs) = refl

told_is : (note : NotePiece) (names : List ℕ) → (note_from note names).1.1.1.1 ≡ taken_names note names
unfolding note_from taken_names
told_is Nothing names = refl
told_is (Fields address n) names = refl
told_is (Written address v) names = refl
told_is Unknown names = refl
told_is NotFollowed names = told_taken (reads (number 2) (number_at names 0 2) (drop 2 names)).0

-- ---- the step

-- up to the taken names
abbrev fixed : StepPiece → List ℕ → List ℕ
fixed p note = place_bytes p.address p.block p.statement ++ wrote_bytes (wrote_fields p.wrote) ++ note

fixed_stored : (p : StepPiece) (note last s t u w x : List ℕ) (at : ℕ) → length note ≡ 27
    → t ≡ sets s at (place_bytes p.address p.block p.statement)
    → u ≡ sets t (at + 17) (wrote_bytes (wrote_fields p.wrote))
    → w ≡ sets u (at + 34) note
    → x ≡ sets w (at + 61) last
    → x ≡ sets s at (fixed p note ++ last)
unfolding place_bytes wrote_bytes
fixed_stored p note last s t u w x at l a b c d =
    let place = place_bytes p.address p.block p.statement in
    let wrote = wrote_bytes (wrote_fields p.wrote) in
    two_stored (place ++ wrote ++ note) last s w x at (at + 61)
    (two_stored (place ++ wrote) note s u w at (at + 34) (two_stored place wrote s t u at (at + 17) a b refl) c refl) d (omega (arith, l))

abbrev head : NoteFields → List ℕ
head f = note_bytes f.0 f.1.0 f.1.1.0 f.1.1.1.0

length_head : (f : NoteFields) → length (head f) ≡ 27
unfolding note_bytes
length_head f = refl

module _ (p : StepPiece) (n : NotePiece) (names : List ℕ) where
  step_bytes_lem : (xs : List ℕ) → (note_from n names).1.1.1.1 ≡ xs → fixed p (head (note_from n names)) ++ (le 2 (length xs) ++ writes (number 2) xs) ≡ step_bytes (step_from p n names)
  unfolding place_bytes wrote_bytes note_bytes step_bytes step_from
  step_bytes_lem xs e = sym (ap (λ (ys : List ℕ). fixed p (head (note_from n names)) ++ (le 2 (length ys) ++ writes (number 2) ys)) e)

  pub step_stored : (s t u w x : List ℕ) (at count : ℕ) → count ≡ taken_count n names → 2 + 2 * count ≤ length names → ((i : ℕ) → Fits w8 (get_or names i 0))
      → t ≡ sets s at (place_bytes p.address p.block p.statement)
      → u ≡ sets t (at + 17) (wrote_bytes (wrote_fields p.wrote))
      → w ≡ sets u (at + 34) (head_bytes n count)
      → x ≡ sets w (at + 61) (names_bytes count names)
      → x ≡ sets s at (step_bytes (step_from p n names))
  step_stored s t u w x at count e h all a b c d =
      fixed_stored p (head (note_from n names)) (names_bytes count names) s t u w x at (length_head (note_from n names)) a b (c ∙ ap (sets u (at + 34)) (head_is n names count e)) d
      ∙ ap (λ (l : List ℕ). sets s at (fixed p (head (note_from n names)) ++ l)) (names_bytes_lem n count names (each_byte names (λ i. (all i).fits)) h e)
      ∙ ap (sets s at) (step_bytes_lem (taken_names n names) (told_is n names))

  length_whole : (xs : List ℕ) → length (fixed p (head (note_from n names)) ++ (le 2 (length xs) ++ writes (number 2) xs)) ≡ 63 + 2 * length xs
  unfolding place_bytes wrote_bytes note_bytes
  length_whole xs = omega (arith, length_names xs)

  pub length_step : (count : ℕ) → count ≡ taken_count n names → length (step_bytes (step_from p n names)) ≡ 63 + 2 * count
  length_step count e =
      ap length (sym (step_bytes_lem (taken_names n names) (told_is n names))) ∙ length_whole (taken_names n names) ∙ ap (λ (k : ℕ). 63 + 2 * k) (length_taken n names ∙ sym e)

-- no names taken
none_counted : (n : NotePiece) → 0 ≡ taken_count n []
unfolding number_at
none_counted Nothing = refl
none_counted (Fields address count) = refl
none_counted (Written address v) = refl
none_counted Unknown = refl
none_counted NotFollowed = refl

none_taken : (n : NotePiece) → taken_names n [] ≡ []
unfolding taken_names
none_taken n = ap (λ (k : ℕ). (reads (number 2) k []).0) (sym (none_counted n))

module _ (p : StepPiece) (n : NotePiece) where
  pub noted_stored : (s t u w x : List ℕ) (at : ℕ)
      → t ≡ sets s at (place_bytes p.address p.block p.statement)
      → u ≡ sets t (at + 17) (wrote_bytes (wrote_fields p.wrote))
      → w ≡ sets u (at + 34) (head_bytes n 0)
      → x ≡ put_number w (at + 61) 2 0
      → x ≡ sets s at (step_bytes (step_from p n []))
  unfolding put_number
  noted_stored s t u w x at a b c d =
      fixed_stored p (head (note_from n [])) (le 2 0) s t u w x at (length_head (note_from n [])) a b (c ∙ ap (sets u (at + 34)) (head_is n [] 0 (none_counted n))) d
      ∙ ap (sets s at) (step_bytes_lem p n [] [] (told_is n [] ∙ none_taken n))

  pub length_noted : length (step_bytes (step_from p n [])) ≡ 63
  length_noted = length_step p n [] 0 (none_counted n)

-- ---- a step whose note is given by its numbers

module _ (p : StepPiece) (n : NoteNumbers) (names : List ℕ) where
  numbers_lem : fixed p (head (note_with_numbers n names)) ++ (le 2 (length (told_names n.taken names)) ++ writes (number 2) (told_names n.taken names)) ≡ step_bytes (step_with_numbers p n names)
  unfolding place_bytes wrote_bytes note_bytes step_bytes note_with_numbers step_with_numbers
  numbers_lem = refl

  pub numbers_stored : (s t u w x : List ℕ) (at count : ℕ) → count ≡ told_count n.taken names → 2 + 2 * count ≤ length names → ((i : ℕ) → Fits w8 (get_or names i 0))
      → t ≡ sets s at (place_bytes p.address p.block p.statement)
      → u ≡ sets t (at + 17) (wrote_bytes (wrote_fields p.wrote))
      → w ≡ sets u (at + 34) (note_bytes n.kind n.address n.count n.value)
      → x ≡ sets w (at + 61) (names_bytes count names)
      → x ≡ sets s at (step_bytes (step_with_numbers p n names))
  unfolding note_with_numbers told_names
  numbers_stored s t u w x at count e h all a b c d =
      fixed_stored p (head (note_with_numbers n names)) (names_bytes count names) s t u w x at (length_head (note_with_numbers n names)) a b c d
      ∙ ap (λ (l : List ℕ). sets s at (fixed p (head (note_with_numbers n names)) ++ l)) (names_are (told_count n.taken names) count names (each_byte names (λ i. (all i).fits)) h e)
      ∙ ap (sets s at) numbers_lem

  pub length_numbered : (count : ℕ) → count ≡ told_count n.taken names → length (step_bytes (step_with_numbers p n names)) ≡ 63 + 2 * count
  unfolding step_bytes note_with_numbers step_with_numbers told_names
  length_numbered count e =
      omega (arith, length_names (told_names n.taken names), length_reads (number 2) (told_count n.taken names) (drop 2 names))
