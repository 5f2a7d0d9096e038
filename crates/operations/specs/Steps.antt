-- What the operations ensure that ask nothing. Assumes nothing.
use Rattle.std.specs.Prelude.{◌≡◌, ℕ, ◌+◌, ◌%◌, ◌^◌, Bool, true, false, ◌||◌, List, ◌==◌, Option, None, Some, Result}
use Rattle.value.specs.declared.Ty.{Ty}
use Rattle.value.specs.declared.Val.{Val}
use Rattle.value.specs.declared.ArithmeticError.{ArithmeticError}
use Rattle.value.specs.Value.{cast_to}
use Rattle.files.specs.Nodes.{kind_of, ref_of}
use Rattle.files.specs.Program.{Tree, Trees}
use Rattle.files.specs.Spells.{size}
use Rattle.definition.specs.Act.{Act, done, fail, unknown_address, Note, no_note, fields_written, value_written, Pending, ◌>>◌}
use Rattle.definition.specs.Memory.{store_val}
use Rattle.definition.specs.Term.{eval}
use Rattle.definition.specs.Evaluate.{Did, did, number_in, unknown_note, look, type_or}
use Rattle.workspace.specs.Parts.{registers_part, note_part, tables}
use Rattle.workspace.specs.Registers.{word_at}
use Rattle.workspace.specs.Note.{pending_in}
use Rattle.workspace.specs.Types.{pointee_at}
use Rattle.workspace.specs.Post.{Aside}
use Rattle.hosting.specs.declared.How.{How}
use Rattle.hosting.specs.declared.Counts.{Counts}
use Rattle.hosting.specs.declared.Short.{Short}
use Rattle.operations.specs.declared.places.Target.{Target}
use Rattle.operations.specs.declared.results.Told.{Told}
use Rattle.hosting.specs.Scene.{Given}
use Rattle.hosting.specs.Stands.{Stands, FieldsAt}
use Rattle.hosting.specs.Ending.{Ending, ended, answer_end}
use Rattle.operations.specs.Registers.{counts_in, how_in, short_in, result_in, kind_in, told_in, end_by, end_in}
use Rattle.operations.specs.Going.{Goes, Beside}

-- ---- what is put in the registers

-- a value is given, and what an Assign told stays
pub record Gives (w : List ℕ) (v : Val) (r : Bool) (w' : List ℕ) : Type 0 where
  pub beside : Beside w w'
  pub yes : r ≡ true
  pub value : result_in w' ≡ v
  pub told : told_in w' ≡ told_in w

-- an evaluation ends short
pub record GivesShort (w : List ℕ) (s : Short) (r : Bool) (w' : List ℕ) : Type 0 where
  pub beside : Beside w w'
  pub no : r ≡ false
  pub why : short_in w' ≡ s

-- an Assign tells what it wrote, and where or to which variable; how many fields, is not changed
pub record TellsPlace (w : List ℕ) (k : Told) (x : ℕ) (w' : List ℕ) : Type 0 where
  pub beside : Beside w w'
  pub told : kind_in w' ≡ k
  pub place : word_at (registers_part w') 12 ≡ x
  pub fields : word_at (registers_part w') 13 ≡ word_at (registers_part w) 13

-- an Assign tells what it did
pub record Tells (w : List ℕ) (d : Did) (r : Bool) (w' : List ℕ) : Type 0 where
  pub beside : Beside w w'
  pub yes : r ≡ true
  pub told : told_in w' ≡ d

-- what an operator answers
pub record Answers (w : List ℕ) (z : Result Val ArithmeticError) (r : Bool) (w' : List ℕ) : Type 0 where
  pub beside : Beside w w'
  pub ends : end_in r w' ≡ answer_end z

-- ---- between the registers and what a caller hands over

pub record Enters (w : List ℕ) (h : How) (a : Counts) (w' : List ℕ) : Type 0 where
  pub aside : Aside w w'
  pub counts : counts_in w' ≡ a
  pub how : how_in w' ≡ h

-- the one without the other
pub record EntersCounts (w : List ℕ) (a : Counts) (w' : List ℕ) : Type 0 where
  pub aside : Aside w w'
  pub counts : counts_in w' ≡ a

pub record EntersHow (w : List ℕ) (h : How) (w' : List ℕ) : Type 0 where
  pub aside : Aside w w'
  pub counts : counts_in w' ≡ counts_in w
  pub how : how_in w' ≡ h

-- of a statement of a kind that is no Assign, whose value is v: a Call or an Intrinsic may have a note
abbrev pub noted : ℕ → Val → Pending → Note
noted kind v p = elim (kind == 14 || kind == 15) [ true ↦ unknown_note v p | false ↦ no_note ]

abbrev pub noted_end : ℕ → Bool → List ℕ → Ending Did
noted_end kind ok w = end_by ok (did (noted kind (result_in w) (pending_in (note_part w)))) (short_in w)

-- ---- fields

-- the fields from node n up to node e are so many
pub record CountsFields (b : List ℕ) (n e count : ℕ) : Type 0 where
  pub counts : (ts : Trees) → FieldsAt b n e ts → count ≡ size ts

-- they were stored from an address on
pub record Builds (b : List ℕ) (n e address : ℕ) (w : List ℕ) (r : Bool) (w' : List ℕ) : Type 0 where
  pub tells : (ts : Trees) → FieldsAt b n e ts → Tells w (did (fields_written address (size ts))) r w'

-- ---- values at hand

-- a value that is given is that of the tree at node n
pub record AtHand (b : List ℕ) (n : ℕ) (w : List ℕ) (slot : Option Val) : Type 0 where
  pub goes : (v : Val) → slot ≡ Some v → (g : How → Given) (o : List ℕ) (t : Tree) → Stands b n t → Goes g (λ x. eval (look x.env t)) w o (ended v) w o

-- ---- places

-- the type that the node n, a Cast to a pointer, points at, in the tables of a workspace
unfoldable pub pointee_in : List ℕ → List ℕ → ℕ → Option Ty
pointee_in b w n = elim (kind_of b n == 8) [ true ↦ pointee_at (tables w) (ref_of b n) | false ↦ None ]

abbrev pub under_if : Option Ty → ℕ → ℕ
under_if None n = n
under_if (Some t) n = n + 1

-- the node that is evaluated for a pointer at node n, and the type of what it points at
pub record Targets (b w : List ℕ) (n : ℕ) (r : Target) : Type 0 where
  pub node : r.node ≡ under_if (pointee_in b w n) n
  pub type : r.ty ≡ type_or (pointee_in b w n)

-- the pointer of a struct's store without one Cast
unfoldable pub base_at : List ℕ → ℕ → ℕ
base_at b n = elim (kind_of b n == 8) [ true ↦ n + 1 | false ↦ n ]

-- a value of a type is stored at the address that another value is; node n gave that
unfoldable pub store_through : ℕ → Val → Ty → Val → Act Did
store_through n p t v = elim (number_in p) [
  | None ↦ fail (unknown_address n)
  | Some a ↦ store_val a (cast_to v t) >> done (did (value_written a (cast_to v t)))
]

-- a field's value, at an offset from an address
unfoldable pub store_field : ℕ → ℕ → Ty → Val → Act (Unit {0})
store_field a offset t v = store_val ((a + offset) % 2 ^ 64) (cast_to v t)
