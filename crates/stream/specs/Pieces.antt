-- The bytes of a stream's pieces, from what the code is given. The formats are the definition's (document 01, "The record"). Assumes nothing.
use Rattle.std.specs.Prelude.{Bool, true, false, List, [], ◌∷◌, ◌++◌, ℕ, zero, suc, drop, Option, None, Some}
use Rattle.value.specs.declared.Val.{Val}
use Rattle.layout.specs.Number.{le, number_at}
use Rattle.layout.specs.Format.{number, reads}
use Rattle.definition.specs.Question.{Asked, address_of, size_of, read_at, call_to, Entry}
use Rattle.definition.specs.Fields.{no_val, flag_and_number, written, entry}
use Rattle.definition.specs.Act.{Note, no_note, fields_written, value_written, result_unknown, not_followed}
use Rattle.definition.specs.Record.{wrote_fields, NoteFields, note_fields, StepFields, step_format}
use Rattle.stream.specs.declared.Symbol.{Symbol}
use Rattle.stream.specs.declared.Symbol.TheVariants.{AddressOf, SizeOf}
use Rattle.stream.specs.declared.Question.{Question}
use Rattle.stream.specs.declared.Question.TheVariants.{Of, Read, Call}
use Rattle.stream.specs.declared.NotePiece.{NotePiece}
use Rattle.stream.specs.declared.NotePiece.TheVariants.{Nothing, Fields, Written, Unknown, NotFollowed}
use Rattle.stream.specs.declared.NoteKind.{NoteKind}
use Rattle.stream.specs.declared.NoteKind.TheVariants as kind
use Rattle.stream.specs.declared.NoteNumbers.{NoteNumbers}
use Rattle.stream.specs.declared.StepPiece.{StepPiece}

-- ---- questions

unfoldable pub question_bytes : Entry → List ℕ
question_bytes e = entry.write (written e)

abbrev pub asked_by : Symbol → Asked
asked_by AddressOf = address_of
asked_by SizeOf = size_of

abbrev pub asked_in : Question → Asked
asked_in (Of kind) = asked_by kind
asked_in Read = read_at
asked_in Call = call_to

abbrev pub symbol_entry : Symbol → ℕ → Option ℕ → Entry
symbol_entry AddressOf name answer = (address_of, (name, answer))
symbol_entry SizeOf name answer = (size_of, (name, answer))

-- the answered bytes, so many, as one number
abbrev pub read_entry : (address size count number : ℕ) → Entry
read_entry address size count number = (read_at, (record { address = address; size = size }, le count number))

abbrev pub call_entry : (name address depth : ℕ) → List Val → Entry
call_entry name address depth values = (call_to, (record { name = name; address = address; depth = depth; values = values }, tt))

-- its bytes, where the values are given as the bytes that they are in the record
unfoldable pub call_bytes : (name address depth count : ℕ) → List ℕ → List ℕ
call_bytes name address depth count values =
    le 1 4 ++ (le 2 name ++ (le 8 address ++ (le 4 depth ++ (le 1 count ++ (values ++ le 1 0)))))

-- ---- steps

unfoldable pub step_bytes : StepFields → List ℕ
step_bytes f = step_format.write f

-- how many names were taken, and which: "count u16 of taken names, each u16", or none where there are none to tell
abbrev pub taken_count : NotePiece → List ℕ → ℕ
taken_count Nothing names = 0
taken_count (Fields address count) names = 0
taken_count (Written address v) names = 0
taken_count Unknown names = 0
taken_count NotFollowed names = number_at names 0 2

unfoldable pub taken_names : NotePiece → List ℕ → List ℕ
taken_names note names = (reads (number 2) (taken_count note names) (drop 2 names)).0

-- the definition's note, and its fields
abbrev pub note_of : NotePiece → List ℕ → Note
note_of Nothing names = no_note
note_of (Fields address count) names = fields_written address count
note_of (Written address v) names = value_written address v
note_of Unknown names = result_unknown
note_of NotFollowed names = not_followed (taken_names NotFollowed names)

-- a note of a kind, and the kind's number in the record
abbrev pub kind_note : NoteKind → Note
kind_note kind.Nothing = no_note
kind_note kind.Fields = fields_written 0 0
kind_note kind.Written = value_written 0 no_val
kind_note kind.Unknown = result_unknown
kind_note kind.NotFollowed = not_followed []
kind_note kind.Taken = not_followed (0 ∷ [])

abbrev pub note_number : NoteKind → ℕ
note_number k = (note_fields (kind_note k)).0

-- the kind of a number
abbrev pub note_kind_at : ℕ → Option NoteKind
note_kind_at zero = Some kind.Nothing
note_kind_at (suc zero) = Some kind.Fields
note_kind_at (suc (suc zero)) = Some kind.Written
note_kind_at (suc (suc (suc zero))) = Some kind.Unknown
note_kind_at (suc (suc (suc (suc zero)))) = Some kind.NotFollowed
note_kind_at (suc (suc (suc (suc (suc zero))))) = Some kind.Taken
note_kind_at (suc (suc (suc (suc (suc (suc n)))))) = None

unfoldable pub note_from : NotePiece → List ℕ → NoteFields
note_from note names = note_fields (note_of note names)

unfoldable pub step_from : StepPiece → NotePiece → List ℕ → StepFields
step_from s note names = (flag_and_number s.address, (s.block, (s.statement, (wrote_fields s.wrote, note_from note names))))

-- ---- a step whose note is given by its numbers, whatever they are

-- how many names stand beside it, and which
abbrev pub told_count : (taken : Bool) → List ℕ → ℕ
told_count true names = number_at names 0 2
told_count false names = 0

unfoldable pub told_names : (taken : Bool) → List ℕ → List ℕ
told_names taken names = (reads (number 2) (told_count taken names) (drop 2 names)).0

unfoldable pub note_with_numbers : NoteNumbers → List ℕ → NoteFields
note_with_numbers n names = (n.kind, (n.address, (n.count, (n.value, told_names n.taken names))))

unfoldable pub step_with_numbers : StepPiece → NoteNumbers → List ℕ → StepFields
step_with_numbers s note names = (flag_and_number s.address, (s.block, (s.statement, (wrote_fields s.wrote, note_with_numbers note names))))
