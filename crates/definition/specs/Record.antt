-- A record's bytes (document 01, "The record"): "Six pairs (offset u32 from the record's first byte, length u32), then the bodies back to back in this
-- order. Unused fields are 0." Assumes nothing.
use Rattle.std.specs.Prelude.{Bool, true, false, List, [], ◌∷◌, ◌++◌, map, ℕ, ◌+◌, ◌*◌, length, take, drop, Option, None, Some}
use Rattle.value.specs.declared.Val.{Val}
use Rattle.layout.specs.Number.{le, number_at}
use Rattle.layout.specs.Format.{Format, number, flag, pair, counted, whole, writes}
use Rattle.memory.specs.Entries.{memory_body}
use Rattle.memory.specs.Overlay.{Overlay, Cell}
use Rattle.definition.specs.Question.{Entry}
use Rattle.definition.specs.Act.{Why, branch_unknown, switch_unknown, no_case, struct_to, unknown_address, unknown_value, no_width, store_to, by_zero, Note, no_note, fields_written, value_written, result_unknown, not_followed, Step}
use Rattle.definition.specs.Statements.{Stop, Returned, Steps, Unknown, NoBlock, NoBlocks, NoReturn, Halted}
use Rattle.value.specs.Encoding.{val}
use Rattle.definition.specs.Fields.{no_val, flag_and_number, Written, written, entry}

-- ---- Stop: "kind u8, reason u8, address flag u8, address u64, number u64 (limit, block, target, value or store address), node u32, name u16, value"

abbrev pub StopFields : Type 0
StopFields = ℕ × (ℕ × ((ℕ × ℕ) × (ℕ × (ℕ × (ℕ × Val)))))

abbrev pub stop_format : Format StopFields
stop_format = pair (number 1) (pair (number 1) (pair (pair (number 1) (number 8)) (pair (number 8) (pair (number 4) (pair (number 2) val)))))

-- kind, reason, address, number, node, name, value
abbrev pub stop_with : ℕ → ℕ → Option ℕ → ℕ → ℕ → ℕ → Val → StopFields
stop_with kind reason address number node name value = (kind, (reason, (flag_and_number address, (number, (node, (name, value))))))

-- "3 Unknown", with "Reasons: 1 branch unknown, 2 switch unknown, 3 no case, 4 struct stored to a node, 5 store to an unknown address, 6 unknown
-- value stored, 7 symbol without width, 8 store to a node, 9 division by zero"
abbrev pub unknown_fields : Option ℕ → Why → StopFields
unknown_fields at (branch_unknown node) = stop_with 3 1 at 0 node 0 no_val
unknown_fields at (switch_unknown node) = stop_with 3 2 at 0 node 0 no_val
unknown_fields at (no_case value) = stop_with 3 3 at value 0 0 no_val
unknown_fields at (struct_to node) = stop_with 3 4 at 0 node 0 no_val
unknown_fields at (unknown_address node) = stop_with 3 5 at 0 node 0 no_val
unknown_fields at (unknown_value address) = stop_with 3 6 at address 0 0 no_val
unknown_fields at (no_width name) = stop_with 3 7 at 0 0 name no_val
unknown_fields at (store_to node) = stop_with 3 8 at 0 node 0 no_val
unknown_fields at by_zero = stop_with 3 9 at 0 0 0 no_val

-- "0 Returned with a value, 1 Returned, 2 Steps, 3 Unknown, 4 NoBlock, 5 NoBlocks, 6 NoReturn, 7 Halted"
abbrev pub stop_fields : Stop → StopFields
stop_fields (Returned (Some v)) = stop_with 0 0 None 0 0 0 v
stop_fields (Returned None) = stop_with 1 0 None 0 0 0 no_val
stop_fields (Steps limit) = stop_with 2 0 None limit 0 0 no_val
stop_fields (Unknown at x) = unknown_fields at x
stop_fields (NoBlock block) = stop_with 4 0 None block 0 0 no_val
stop_fields NoBlocks = stop_with 5 0 None 0 0 0 no_val
stop_fields (NoReturn at) = stop_with 6 0 at 0 0 0 no_val
stop_fields (Halted at target) = stop_with 7 0 at target 0 0 no_val

unfoldable pub stop_body : Stop → List ℕ
stop_body s = stop_format.write (stop_fields s)

-- ---- Counts: "blocks entered, steps recorded, units spent, each u32. Spent is the sum of the two others"

unfoldable pub counts_body : (entered recorded : ℕ) → List ℕ
counts_body entered recorded = le 4 entered ++ (le 4 recorded ++ le 4 (entered + recorded))

-- ---- Steps: "address flag u8, address u64, block u32, statement u32, wrote flag u8, name u16, value, note u8, address u64, field count u32, value,
-- count u16 of taken names, each u16"

abbrev pub WroteFields : Type 0
WroteFields = Bool × (ℕ × Val)

abbrev pub wrote_fields : Option (ℕ × Val) → WroteFields
wrote_fields None = (false, (0, no_val))
wrote_fields (Some w) = (true, w)

abbrev pub NoteFields : Type 0
NoteFields = ℕ × (ℕ × (ℕ × (Val × List ℕ)))

-- "Notes: 1 fields written, 2 value written, 3 result unknown, 4 not followed, 5 not followed with taken names"
abbrev pub note_fields : Note → NoteFields
note_fields no_note = (0, (0, (0, (no_val, []))))
note_fields (fields_written address count) = (1, (address, (count, (no_val, []))))
note_fields (value_written address v) = (2, (address, (0, (v, []))))
note_fields result_unknown = (3, (0, (0, (no_val, []))))
note_fields (not_followed []) = (4, (0, (0, (no_val, []))))
note_fields (not_followed (x ∷ xs)) = (5, (0, (0, (no_val, x ∷ xs))))

abbrev pub StepFields : Type 0
StepFields = (ℕ × ℕ) × (ℕ × (ℕ × (WroteFields × NoteFields)))

abbrev pub step_fields : Step → StepFields
step_fields s = (flag_and_number s.address, (s.block, (s.statement, (wrote_fields s.wrote, note_fields s.note))))

abbrev pub step_format : Format StepFields
step_format =
    pair (pair (number 1) (number 8)) (pair (number 4) (pair (number 4)
    (pair (pair flag (pair (number 2) val))
    (pair (number 1) (pair (number 8) (pair (number 4) (pair val (counted 2 (number 2)))))))))

unfoldable pub steps_body : List Step → List ℕ
steps_body ss = writes step_format (map step_fields ss)

-- ---- "Variables, by name: u16, value. Memory, by address: u64, byte. Questions to `World`, in order". The Memory body is memory/specs/Entries: memory_body

unfoldable pub variables_body : Overlay Val → List ℕ
variables_body m = writes (pair (number 2) val) m

unfoldable pub questions_body : List Entry → List ℕ
questions_body es = writes entry (map written es)

-- ---- the record of a run

pub record Ran : Type 0 where
  pub stop : Stop
  pub entered : ℕ
  pub recorded : ℕ
  pub steps : List Step
  pub variables : Overlay Val
  pub memory : Overlay Cell
  pub questions : List Entry

abbrev pub bodies_before : Ran → List (List ℕ)
bodies_before r =
    stop_body r.stop
    ∷ counts_body r.entered r.recorded
    ∷ steps_body r.steps
    ∷ variables_body r.variables
    ∷ memory_body r.memory
    ∷ []

abbrev pub bodies : Ran → List (List ℕ)
bodies r = bodies_before r ++ (questions_body r.questions ∷ [])

-- ---- pairs and bodies

abbrev pub join : List (List ℕ) → List ℕ
join [] = []
join (b ∷ bs) = b ++ join bs

-- the pairs of bodies of which the first starts at o
abbrev pub pairs : ℕ → List (List ℕ) → List ℕ
pairs o [] = []
pairs o (b ∷ bs) = le 4 o ++ (le 4 (length b) ++ pairs (o + length b) bs)

unfoldable pub layout : List (List ℕ) → List ℕ
layout bs = pairs (8 * length bs) bs ++ join bs

unfoldable pub record_bytes : Ran → List ℕ
record_bytes r = layout (bodies r)

-- ---- what stands in a record

-- the body that pair i, counted from 0, locates
unfoldable pub body_at : List ℕ → ℕ → List ℕ
body_at r i = take (number_at r (8 * i + 4) 4) (drop (number_at r (8 * i) 4) r)

-- the questions, each with the answer written there: what the sixth pair locates
unfoldable pub questions_in : List ℕ → List Written
questions_in r = whole entry (body_at r 5)
