-- What the code reads from the bodies of a record, as the definition has it. Assumes nothing.
use Rattle.std.specs.Prelude.{List, [], ◌++◌, ℕ, Option, None, Some, unwrap_or}
use Rattle.definition.specs.Act as act
use Rattle.definition.specs.Statements as stop
use Rattle.files.specs.Program.{texts_in}
use Rattle.value.specs.declared.Val.{Val}
use Rattle.definition.specs.Listing.{why_text, stopped_text, stop_text, wrote_text}
use Rattle.stream.specs.declared.NotePiece.{NotePiece}
use Rattle.stream.specs.declared.NotePiece.TheVariants as note
use Rattle.text.specs.declared.bodies.Name.{Name}
use Rattle.text.specs.declared.stops.Why.{Why}
use Rattle.text.specs.declared.stops.Why.TheVariants as why
use Rattle.text.specs.declared.stops.Stop.{Stop}
use Rattle.text.specs.declared.stops.Stop.TheVariants as read
use Rattle.stream.specs.declared.NoteKind.{NoteKind}
use Rattle.stream.specs.declared.NoteKind.TheVariants as noted
use Rattle.stream.specs.Pieces.{note_kind_at}
use Rattle.stream.specs.declared.Kind.{Kind}
use Rattle.stream.specs.declared.Kind.TheVariants as kind
use Rattle.stream.specs.declared.Reason.{Reason}
use Rattle.stream.specs.declared.Reason.TheVariants as reason
use Rattle.stream.specs.Bodies.{kind_at, reason_at}
use Rattle.layout.specs.Number.{number_at}
use Rattle.text.specs.Read.{names_in}

-- the kind of a step's note in these bytes: a number that is no kind's is taken as that of a call that is not followed
unfoldable pub note_kind_in : List ℕ → NoteKind
note_kind_in s = unwrap_or (note_kind_at (number_at s 34 1)) noted.NotFollowed

-- a note, of a step in these bytes
abbrev pub note_told : List ℕ → NotePiece → act.Note
note_told s note.Nothing = act.no_note
note_told s (note.Fields address count) = act.fields_written address count
note_told s (note.Written address v) = act.value_written address v
note_told s note.Unknown = act.result_unknown
note_told s note.NotFollowed = act.not_followed (names_in s 63 (number_at s 61 2))

-- the kind of a stop and the reason in these bytes: a number that is none's is taken as the last
unfoldable pub kind_in : List ℕ → Kind
kind_in s = unwrap_or (kind_at (number_at s 0 1)) kind.Halted

unfoldable pub reason_in : List ℕ → Reason
reason_in s = unwrap_or (reason_at (number_at s 1 1)) reason.ByZero

-- ---- what is written of what the code reads: a name is one of the texts that it was read with, and where nothing is named the texts are none

abbrev pub wrote_said : Option (Name × Val) → List ℕ
wrote_said None = wrote_text [] None
wrote_said (Some w) = wrote_text (texts_in w.0.names.body.now) (Some (w.0.number, w.1))

abbrev pub why_said : Why → List ℕ
why_said (why.BranchUnknown node) = why_text [] (act.branch_unknown node)
why_said (why.SwitchUnknown node) = why_text [] (act.switch_unknown node)
why_said (why.NoCase value) = why_text [] (act.no_case value)
why_said (why.StructTo node) = why_text [] (act.struct_to node)
why_said (why.UnknownAddress node) = why_text [] (act.unknown_address node)
why_said (why.UnknownValue address) = why_text [] (act.unknown_value address)
why_said (why.NoWidth name) = why_text (texts_in name.names.body.now) (act.no_width name.number)
why_said (why.StoreTo node) = why_text [] (act.store_to node)
why_said why.ByZero = why_text [] act.by_zero

abbrev pub stop_said : Stop → List ℕ
stop_said (read.Returned v) = stop_text [] (stop.Returned v)
stop_said (read.Steps limit) = stop_text [] (stop.Steps limit)
stop_said (read.Unknown at x) = stopped_text [] at ++ why_said x
stop_said (read.NoBlock block) = stop_text [] (stop.NoBlock block)
stop_said read.NoBlocks = stop_text [] stop.NoBlocks
stop_said (read.NoReturn at) = stop_text [] (stop.NoReturn at)
stop_said (read.Halted at target) = stop_text [] (stop.Halted at target)
