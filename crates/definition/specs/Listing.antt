-- The listing (document 01, "The listing"): the Rust's `Run::text`, "with the statement's number for its text and `node N` where the Rust prints an
-- expression". Assumes nothing.
use Rattle.std.specs.Prelude.{true, false, List, [], ◌∷◌, ◌++◌, ℕ, zero, suc, get_or, ltb, ℤ, pos, negsuc, Option, None, Some}
use Rattle.value.specs.declared.Val.{Val}
use Rattle.value.specs.Value.{type, read_as, meaning}
use Rattle.layout.specs.Text.{text}
use Rattle.definition.specs.Numerals.{digits, decimal, hexadecimal, padded}
use Rattle.memory.specs.Overlay.{Overlay}
use Rattle.definition.specs.Act.{Why, branch_unknown, switch_unknown, no_case, struct_to, unknown_address, unknown_value, no_width, store_to, by_zero, Note, no_note, fields_written, value_written, result_unknown, not_followed, Step}
use Rattle.files.specs.Program.{Program, program_of}
use Rattle.definition.specs.Statements.{Stop, Returned, Steps, Unknown, NoBlock, NoBlocks, NoReturn, Halted}
use Rattle.definition.specs.Record.{Ran}
use Rattle.definition.specs.Run.{ran, number, workspace_needed}

-- ---- values

abbrev pub integer_text : ℤ → List ℕ
integer_text (pos n) = decimal n
integer_text (negsuc n) = text "-" ++ decimal (suc n)

-- "decimal, with the hex beside it when it is wide"
abbrev pub hex_beside : ℕ → List ℕ
hex_beside n = elim (ltb 9 n) [ true ↦ text " (" ++ (hexadecimal n ++ text ")") | false ↦ [] ]

abbrev pub val_text : Val → List ℕ
val_text v = elim v.known [ true ↦ integer_text (meaning v) ++ hex_beside v.number | false ↦ text "unknown" ]

abbrev pub node_text : ℕ → List ℕ
node_text n = text "node " ++ decimal n

module _ (names : List (List ℕ)) where
  abbrev pub name_text : ℕ → List ℕ
  name_text x = get_or names x []

  -- ---- the stop

  abbrev pub why_text : Why → List ℕ
  why_text (branch_unknown node) = text "the branch on " ++ (node_text node ++ text " depends on an unknown value")
  why_text (switch_unknown node) = text "the switch on " ++ (node_text node ++ text " depends on an unknown value")
  why_text (no_case value) = text "no case of the switch takes " ++ integer_text (read_as (type 64 true) value)
  why_text (struct_to node) = text "a struct stored to " ++ node_text node
  why_text (unknown_address node) = text "the store through " ++ (node_text node ++ text " goes to an unknown address")
  why_text (unknown_value address) = text "an unknown value stored at " ++ hexadecimal address
  why_text (no_width name) = text "a store to " ++ (name_text name ++ text ", whose width the image does not say")
  why_text (store_to node) = text "a store to " ++ node_text node
  why_text by_zero = text "a division by zero"

  abbrev pub stopped_text : Option ℕ → List ℕ
  stopped_text None = text "stopped: "
  stopped_text (Some a) = text "stopped at " ++ (hexadecimal a ++ text ": ")

  abbrev pub stop_text : Stop → List ℕ
  stop_text (Returned None) = text "returned"
  stop_text (Returned (Some v)) = text "returned " ++ val_text v
  stop_text (Steps limit) = text "stopped after " ++ (decimal limit ++ text " steps")
  stop_text (Unknown at x) = stopped_text at ++ why_text x
  stop_text (NoBlock block) = text "stopped: no block " ++ decimal block
  stop_text NoBlocks = text "stopped: the function has no blocks at the medium level"
  stop_text (NoReturn at) = stopped_text at ++ text "the call does not return"
  stop_text (Halted at target) = stopped_text at ++ (hexadecimal target ++ text " is not analyzed")

  -- ---- steps

  abbrev pub commas : ℕ → List ℕ → List ℕ
  commas x [] = name_text x
  commas x (y ∷ ys) = name_text x ++ (text ", " ++ commas y ys)

  -- what stands before a note, and the note
  abbrev pub note_text : Note → List ℕ
  note_text no_note = []
  note_text (fields_written address count) = text "  ; wrote " ++ (decimal count ++ (text " fields at " ++ hexadecimal address))
  note_text (value_written address v) = text "  ; wrote " ++ (val_text v ++ (text " at " ++ hexadecimal address))
  note_text result_unknown = text "  ; its result is unknown"
  note_text (not_followed []) = text "  ; not followed; its result is unknown, and what it wrote to memory is not known"
  note_text (not_followed (x ∷ xs)) = text "  ; not followed; its result is unknown, as are " ++ (commas x xs ++ text " after it")

  abbrev pub address_text : Option ℕ → List ℕ
  address_text None = text "        "
  address_text (Some a) = padded (digits 64 16 a)

  abbrev pub wrote_text : Option (ℕ × Val) → List ℕ
  wrote_text None = []
  wrote_text (Some w) = text "  ; " ++ (name_text w.0 ++ (text " = " ++ val_text w.1))

  abbrev pub step_text : Step → List ℕ
  step_text s =
      text "  " ++ (address_text s.address ++ (text "  " ++ (decimal s.statement ++ (wrote_text s.wrote ++ (note_text s.note ++ text "\n")))))

  unfoldable pub steps_text : List Step → List ℕ
  steps_text [] = []
  steps_text (s ∷ ss) = step_text s ++ steps_text ss

  unfoldable pub variables_text : Overlay Val → List ℕ
  variables_text [] = []
  variables_text (p ∷ ps) = text ";   " ++ (name_text p.0 ++ (text " = " ++ (val_text p.1 ++ (text "\n" ++ variables_text ps))))

-- ---- the whole: "Header; step lines (address, number, write, note); stop; variables"

unfoldable pub text_of : Program → Ran → List ℕ
text_of P r =
    text "; " ++ (get_or P.names P.name [] ++ (text " at " ++ (hexadecimal P.address ++ (text ": emulated\n"
    ++ (steps_text P.names r.steps
    ++ (text "; " ++ (stop_text P.names r.stop ++ (text "\n"
    ++ variables_text P.names r.variables))))))))

-- "a record buffer of 65,536 bytes and the least workspace"; "After a refusal the one line is `; refused N`"
unfoldable pub listing_of : (routine world call : List ℕ) → List ℕ
listing_of routine world call = elim (number routine world call 65536 workspace_needed) [
  | zero ↦ text_of (program_of routine) (ran routine world call)
  | suc n ↦ text "; refused " ++ (decimal (suc n) ++ text "\n")
]
