-- What a store in the frame or in the note does to what the workspace stands for: the other parts are as they were. Assumes nothing.
use mathlib.Core.Path.{◌≡◌, ap₂, ◌∙◌}
use mathlib.Core.List.{List}
use Prim.Native.Nat.{ℕ, ◌+◌, ◌*◌, ◌≤◌, ◌<◌}
use native.Mathlib.Numerals.{add-one}
use native.Mathlib.Omega.{arith}
use lib.ListN.{length, drop, length-drop}
use lib.Seq.{sets, length-sets, length-take-le}
use Rattle.layout.specs.Number.{put_number}
use Rattle.layout.proofs.StoreLaws.{take_sets, drop_sets}
use Rattle.value.specs.declared.Val.{Val}
use Rattle.memory.specs.Overlay.{Overlay, Cell}
use Rattle.memory.specs.Entries.{entries}
use Rattle.workspace.specs.Parts.{workspace_size, memory_size, frame_place, frame_size, note_place, note_size, registers_place, registers_size, tables_place, tables_size, questions_place, memory_part, frame_part, note_part, registers_part, tables, questions_part}
use Rattle.value.specs.Encoding.{val_bytes, Whole}
use Rattle.workspace.specs.Variables.{slot_size, name_limit, variables_in}
use Rattle.workspace.specs.Note.{pending_in, Few}
use Rattle.workspace.specs.View.{View, view, Changes, setting}
use Rattle.workspace.proofs.PartLaws.{part_sets, part_above, part_below}
use Rattle.value.proofs.EncodingLaws.{length_val_bytes}
use Rattle.workspace.proofs.FrameLaws.{slot_bytes, variables_set}

-- the workspace w became w', with the frame f and the note p, and all else is as it was
pub record Becomes (w w' f p : List ℕ) : Type 0 where
  pub memory : memory_part w' ≡ memory_part w
  pub frame : frame_part w' ≡ f
  pub note : note_part w' ≡ p
  pub tables : tables w' ≡ tables w
  pub size : length w' ≡ length w
  pub registers : registers_part w' ≡ registers_part w
  pub questions : questions_part w' ≡ questions_part w

pub length_frame : (w : List ℕ) → workspace_size ≤ length w → length (frame_part w) ≡ frame_size
unfolding frame_part
length_frame w h = length-take-le frame_size (drop frame_place w) (rw length-drop (omega arith))

pub length_note : (w : List ℕ) → workspace_size ≤ length w → length (note_part w) ≡ note_size
unfolding note_part
length_note w h = length-take-le note_size (drop note_place w) (rw length-drop (omega arith))

module _ (w vs : List ℕ) (i : ℕ) (room : workspace_size ≤ length w) where
  pub frame_stored : i + length vs ≤ frame_size → Becomes w (sets w (frame_place + i) vs) (sets (frame_part w) i vs) (note_part w)
  unfolding memory_part frame_part note_part registers_part tables questions_part
  frame_stored h = record {
    memory = take_sets vs w (frame_place + i) memory_size (omega arith);
    frame = part_sets frame_place frame_size i w vs (omega arith) h;
    note = part_below note_place note_size (frame_place + i) w vs (omega arith);
    tables = part_below tables_place tables_size (frame_place + i) w vs (omega arith);
    size = length-sets w (frame_place + i) vs;
    registers = part_below registers_place registers_size (frame_place + i) w vs (omega arith);
    questions = drop_sets vs w (frame_place + i) questions_place (omega arith);
  }

  pub note_stored : i + length vs ≤ note_size → Becomes w (sets w (note_place + i) vs) (frame_part w) (sets (note_part w) i vs)
  unfolding memory_part frame_part note_part registers_part tables questions_part
  note_stored h = record {
    memory = take_sets vs w (note_place + i) memory_size (omega arith);
    frame = part_above frame_place frame_size (note_place + i) w vs (omega arith);
    note = part_sets note_place note_size i w vs (omega arith) h;
    tables = part_below tables_place tables_size (note_place + i) w vs (omega arith);
    size = length-sets w (note_place + i) vs;
    registers = part_below registers_place registers_size (note_place + i) w vs (omega arith);
    questions = drop_sets vs w (note_place + i) questions_place (omega arith);
  }

-- what is done to the variables and the note is done to the view
pub changes : (w w' f p : List ℕ) (F : View → View) → Becomes w w' f p
    → ((m : Overlay Cell) → ◌≡◌ {A = View} (record { variables = variables_in f; memory = m; pending = pending_in p }) (F (record { variables = variables_in (frame_part w); memory = m; pending = pending_in (note_part w) })))
    → (Few (pending_in (note_part w)) → Few (pending_in p)) → Changes w F w'
unfolding view
changes w w' f p F b e few = record {
  holds = λ n. rw (b.frame, b.note, b.memory) (e (entries (memory_part w) n));
  tables = b.tables;
  fit = λ n h. record { room = omega (arith, h.room, b.size); sorted = rw b.memory h.sorted; few = rw b.note (few h.few) };
  size = b.size;
  registers = b.registers;
  questions = b.questions;
}

-- a variable is set, its flag and then its value
pub variable_set : (w t w' : List ℕ) (x : ℕ) (v : Val) → workspace_size ≤ length w → x < name_limit → Whole v
    → t ≡ put_number w (frame_place + x * slot_size) 1 1 → w' ≡ sets t (frame_place + x * slot_size + 1) (val_bytes v) → Changes w (setting x v) w'
unfolding put_number
variable_set w t w' x v room few whole p q =
    let e : w' ≡ sets w (frame_place + x * slot_size) (slot_bytes v) = q ∙ ap₂ (λ (l : List ℕ) (i : ℕ). sets l i (val_bytes v)) p (add-one (frame_place + x * slot_size)) in
    rw e (changes w (sets w (frame_place + x * slot_size) (slot_bytes v)) (sets (frame_part w) (x * slot_size) (slot_bytes v)) (note_part w) (setting x v)
    (frame_stored w (slot_bytes v) (x * slot_size) room (omega (arith, length_val_bytes v)))
    (λ m. rw (variables_set (frame_part w) x v (omega (arith, length_frame w room)) few whole))
    (λ h. h))
