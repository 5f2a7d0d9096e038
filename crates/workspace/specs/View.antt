-- What the bytes of a workspace stand for while a routine runs, and what it means that a function did something to that. Assumes nothing.
use Rattle.std.specs.Prelude.{◌≡◌, List, [], ℕ, ◌≤◌, length, Option, None}
use Rattle.value.specs.declared.Val.{Val}
use Rattle.memory.specs.Overlay.{Overlay, Cell, store, stores}
use Rattle.memory.specs.Entries.{Sorted, entries}
use Rattle.workspace.specs.Parts.{workspace_size, memory_part, frame_part, note_part, registers_part, tables, questions_part}
use Rattle.workspace.specs.Variables.{variables_in}
use Rattle.workspace.specs.Note.{pending_in, with_name, Few}

-- variables by name and memory by address, both ascending, and the pending note
pub record View : Type 0 where
  pub variables : Overlay Val
  pub memory : Overlay Cell
  pub pending : Option (List ℕ)

-- with so many entries of memory
unfoldable pub view : List ℕ → ℕ → View
view w stored = record { variables = variables_in (frame_part w); memory = entries (memory_part w) stored; pending = pending_in (note_part w) }

-- nothing is set or stored, and there is no note
abbrev pub fresh : View
fresh = record { variables = []; memory = []; pending = None }

-- the workspace is large enough, and what it holds is in order
pub record Fit (w : List ℕ) (stored : ℕ) : Type 0 where
  pub room : workspace_size ≤ length w
  pub sorted : Sorted (memory_part w) stored
  pub few : Few (pending_in (note_part w))

-- ---- what is done to a view

abbrev pub setting : ℕ → Val → View → View
setting x a v = record { variables = store x a v.variables; memory = v.memory; pending = v.pending }

abbrev pub storing : ℕ → List Cell → View → View
storing address cells v = record { variables = v.variables; memory = stores address cells v.memory; pending = v.pending }

abbrev pub leaving : Option (List ℕ) → View → View
leaving p v = record { variables = v.variables; memory = v.memory; pending = p }

abbrev pub noting : ℕ → View → View
noting x v = record { variables = v.variables; memory = v.memory; pending = with_name x v.pending }

-- ---- what a function did

-- the workspace w with n entries stored became w' with n', f was done to what it stood for, and the tables, registers and questions are as they were
pub record Does (w : List ℕ) (n : ℕ) (f : View → View) (w' : List ℕ) (n' : ℕ) : Type 0 where
  pub holds : view w' n' ≡ f (view w n)
  pub tables : tables w' ≡ tables w
  pub fit : Fit w' n'
  pub size : length w' ≡ length w
  pub registers : registers_part w' ≡ registers_part w
  pub questions : questions_part w' ≡ questions_part w

-- the same of a function that leaves memory alone, however many entries are stored
pub record Changes (w : List ℕ) (f : View → View) (w' : List ℕ) : Type 0 where
  pub holds : (stored : ℕ) → view w' stored ≡ f (view w stored)
  pub tables : tables w' ≡ tables w
  pub fit : (stored : ℕ) → Fit w stored → Fit w' stored
  pub size : length w' ≡ length w
  pub registers : registers_part w' ≡ registers_part w
  pub questions : questions_part w' ≡ questions_part w
