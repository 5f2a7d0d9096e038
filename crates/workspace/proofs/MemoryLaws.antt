-- The memory's part lent and given back: what is stored there is stored in the workspace, and all else is as it was. Assumes nothing.
use mathlib.Core.Path.{◌≡◌, ap₂, ◌∙◌}
use mathlib.Core.List.{List}
use Prim.Native.Nat.{ℕ, ◌+◌, ◌≤◌}
use native.Mathlib.Omega.{arith}
use lib.ListN.{length, drop, length-append, length-drop}
use lib.Seq.{take_at, drop_at, length-take-le}
use borrow.Rule.Slice.PartMut.{put_mid}
use Rattle.memory.specs.Overlay.{Cell, stores}
use Rattle.memory.specs.Entries.{entries}
use Rattle.std.specs.Prelude.{Result, Ok, Err}
use Rattle.memory.specs.declared.Full.{Full}
use Rattle.memory.specs.Post.{StoresAll}
use Rattle.workspace.specs.Parts.{workspace_size, memory_size, frame_place, frame_size, note_place, note_size, registers_place, registers_size, tables_place, tables_size, questions_place, memory_part, frame_part, note_part, registers_part, tables, questions_part}
use Rattle.workspace.specs.View.{view, Fit}
use Rattle.workspace.specs.Post.{StoresCells}
use Rattle.workspace.proofs.PartLaws.{drop_back, part_back}

pub length_memory : (w : List ℕ) → workspace_size ≤ length w → length (memory_part w) ≡ memory_size
unfolding memory_part
length_memory w h = length-take-le memory_size w (omega arith)

module _ (w s : List ℕ) (room : workspace_size ≤ length w) (size : length s ≡ memory_size) where
  abbrev back : List ℕ
  back = put_mid 0 memory_size w s

  behind : drop memory_size back ≡ drop memory_size w
  behind = drop_at s (drop memory_size w) memory_size size

  memory_back : memory_part back ≡ s
  unfolding memory_part
  memory_back = take_at s (drop memory_size w) memory_size size

  frame_back : frame_part back ≡ frame_part w
  unfolding frame_part
  frame_back = part_back frame_place frame_size memory_size w back (omega arith) behind

  note_back : note_part back ≡ note_part w
  unfolding note_part
  note_back = part_back note_place note_size memory_size w back (omega arith) behind

  registers_back : registers_part back ≡ registers_part w
  unfolding registers_part
  registers_back = part_back registers_place registers_size memory_size w back (omega arith) behind

  tables_back : tables back ≡ tables w
  unfolding tables
  tables_back = part_back tables_place tables_size memory_size w back (omega arith) behind

  questions_back : questions_part back ≡ questions_part w
  unfolding questions_part
  questions_back = drop_back questions_place memory_size w back (omega arith) behind

  length_back : length back ≡ length w
  length_back = length-append s (drop memory_size w) ∙ ap₂ ◌+◌ size (length-drop memory_size w) ∙ omega arith

  stored_back : (n : ℕ) (address : ℕ) (cells : List Cell) → Fit w n → (r : Result ℕ Full) → StoresAll (stores address cells (entries (memory_part w) n)) s r → StoresCells w n address cells back r
  unfolding view
  stored_back n address cells fit (Ok m) h = record {
    holds = rw (frame_back, note_back, memory_back, h.same);
    tables = tables_back;
    fit = record { room = omega (arith, length_back); sorted = rw memory_back h.sorted; few = rw note_back fit.few };
    size = length_back;
    registers = registers_back;
    questions = questions_back;
  }
  stored_back n address cells fit (Err e) h = (h, length_back, registers_back)

pub stores_cells : (w s : List ℕ) (n address : ℕ) (cells : List Cell) (r : Result ℕ Full) → Fit w n → length s ≡ length (memory_part w)
    → StoresAll (stores address cells (entries (memory_part w) n)) s r → StoresCells w n address cells (put_mid 0 memory_size w s) r
stores_cells w s n address cells r fit e h = stored_back w s fit.room (e ∙ length_memory w fit.room) n address cells fit r h
