-- What the functions on a workspace give and ensure. Assumes nothing.
use Rattle.std.specs.Prelude.{◌≡◌, List, ℕ, ◌+◌, ◌*◌, ◌<◌, length, Option, Some, Result, Ok, Err}
use Rattle.std.proofs.lemmas.List.Edits.{sets}
use Rattle.value.specs.declared.Val.{Val}
use Rattle.value.specs.declared.Ty.{Ty}
use Rattle.memory.specs.Overlay.{Overlay, Cell, stores}
use Rattle.memory.specs.Entries.{limit}
use Rattle.memory.specs.declared.Full.{Full}
use Rattle.workspace.specs.Parts.{registers_part, tables, symbols_part, regions_part, blocks_part, questions_part}
use Rattle.definition.specs.Record.{variables_body}
use Rattle.workspace.specs.Variables.{variable_size}
use Rattle.workspace.specs.Types.{declared_at, type_at, pointee_at}
use Rattle.workspace.specs.Registers.{word_count, word_at, value_at}
use Rattle.workspace.specs.View.{view, Fit, Does, storing}

-- variables put in a record's bytes at a place of out, which became out', and the next place
pub record PutsVariables (m : Overlay Val) (out : List ℕ) (at : ℕ) (out' : List ℕ) (next : ℕ) : Type 0 where
  pub bytes : out' ≡ sets out at (variables_body m)
  pub place : next ≡ at + length m * variable_size

-- cells stored from an address on; or they would be too many entries, and of the workspace only its size and the registers are known
abbrev pub StoresCells : List ℕ → ℕ → ℕ → List Cell → List ℕ → Result ℕ Full → Type 0
StoresCells w n address cells w' (Ok n') = Does w n (storing address cells) w' n'
StoresCells w n address cells w' (Err e) = (limit < length (stores address cells (view w n).memory)) × (length w' ≡ length w) × (registers_part w' ≡ registers_part w)

-- ---- the tables

-- what changes as a routine runs is as it was
pub record Kept (w w' : List ℕ) : Type 0 where
  pub holds : (stored : ℕ) → view w' stored ≡ view w stored
  pub fit : (stored : ℕ) → Fit w stored → Fit w' stored
  pub size : length w' ≡ length w

-- the indexes of two tables are the same
pub record SameIndexes (t t' : List ℕ) : Type 0 where
  pub symbols : symbols_part t' ≡ symbols_part t
  pub regions : regions_part t' ≡ regions_part t
  pub blocks : blocks_part t' ≡ blocks_part t

-- the types in two tables are the same
pub record SameTypes (t t' : List ℕ) : Type 0 where
  pub declared : (x : ℕ) → declared_at t' x ≡ declared_at t x
  pub types : (i : ℕ) → type_at t' i ≡ type_at t i
  pub pointees : (i : ℕ) → pointee_at t' i ≡ pointee_at t i

-- the name x is declared with a type, and nothing else is changed
pub record Declares (w : List ℕ) (x : ℕ) (type : Ty) (w' : List ℕ) : Type 0 where
  pub kept : Kept w w'
  pub here : declared_at (tables w') x ≡ Some type
  pub others : (y : ℕ) → (y ≡ x → ⊥) → declared_at (tables w') y ≡ declared_at (tables w) y
  pub types : (i : ℕ) → type_at (tables w') i ≡ type_at (tables w) i
  pub pointees : (i : ℕ) → pointee_at (tables w') i ≡ pointee_at (tables w) i
  pub indexes : SameIndexes (tables w) (tables w')

-- the type i is put with what it points at, and nothing else is changed
pub record PutsType (w : List ℕ) (i : ℕ) (type : Ty) (pointee : Option Ty) (w' : List ℕ) : Type 0 where
  pub kept : Kept w w'
  pub here : type_at (tables w') i ≡ type
  pub there : pointee_at (tables w') i ≡ pointee
  pub types : (j : ℕ) → (j ≡ i → ⊥) → type_at (tables w') j ≡ type_at (tables w) j
  pub pointees : (j : ℕ) → (j ≡ i → ⊥) → pointee_at (tables w') j ≡ pointee_at (tables w) j
  pub declared : (x : ℕ) → declared_at (tables w') x ≡ declared_at (tables w) x
  pub indexes : SameIndexes (tables w) (tables w')

-- the three indexes are x, y and z, and nothing else is changed
pub record Fills (w x y z w' : List ℕ) : Type 0 where
  pub kept : Kept w w'
  pub same : SameTypes (tables w) (tables w')
  pub symbols : symbols_part (tables w') ≡ x
  pub regions : regions_part (tables w') ≡ y
  pub blocks : blocks_part (tables w') ≡ z

-- ---- the questions

-- they alone are changed: they are q
pub record PutsQuestions (w q w' : List ℕ) : Type 0 where
  pub kept : Kept w w'
  pub tables : tables w' ≡ tables w
  pub registers : registers_part w' ≡ registers_part w
  pub questions : questions_part w' ≡ q

-- ---- the registers

-- they alone are changed
pub record Aside (w w' : List ℕ) : Type 0 where
  pub holds : (stored : ℕ) → view w' stored ≡ view w stored
  pub fit : (stored : ℕ) → Fit w stored → Fit w' stored
  pub size : length w' ≡ length w
  pub tables : tables w' ≡ tables w
  pub questions : questions_part w' ≡ questions_part w

-- the word k is x, and the other registers are as they were
pub record SetsWord (w : List ℕ) (k x : ℕ) (w' : List ℕ) : Type 0 where
  pub aside : Aside w w'
  pub here : word_at (registers_part w') k ≡ x
  pub words : (j : ℕ) → j < word_count → (j ≡ k → ⊥) → word_at (registers_part w') j ≡ word_at (registers_part w) j
  pub values : (j : ℕ) → j < 2 → value_at (registers_part w') j ≡ value_at (registers_part w) j

-- the value k is v, the same
pub record SetsValue (w : List ℕ) (k : ℕ) (v : Val) (w' : List ℕ) : Type 0 where
  pub aside : Aside w w'
  pub here : value_at (registers_part w') k ≡ v
  pub words : (j : ℕ) → j < word_count → word_at (registers_part w') j ≡ word_at (registers_part w) j
  pub values : (j : ℕ) → j < 2 → (j ≡ k → ⊥) → value_at (registers_part w') j ≡ value_at (registers_part w) j
