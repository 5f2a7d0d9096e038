-- What the steps of a Call ensure. Assumes nothing.
use Rattle.std.specs.Prelude.{◌≡◌, ℕ, ◌+◌, ◌*◌, ◌<◌, ◌≤◌, Bool, List, [], length, Option, None, Some}
use Rattle.std.proofs.lemmas.List.Edits.{sets}
use Rattle.value.specs.declared.Ty.{Ty}
use Rattle.value.specs.declared.Val.{Val}
use Rattle.value.specs.Value.{unknown_val}
use Rattle.layout.specs.Each.{Each}
use Rattle.layout.specs.Format.{writes}
use Rattle.files.specs.Program.{Tree, Trees}
use Rattle.definition.specs.Act.{Act, done, leave, ◌>>=◌}
use Rattle.definition.specs.Term.{Term, Terms, no_terms, more_terms, kid, kids, rest, nothing}
use Rattle.definition.specs.Evaluate.{Env, look, looks, followed, taken_by, take_names}
use Rattle.workspace.specs.Parts.{part, tables, note_part, registers_part, questions_part}
use Rattle.workspace.specs.Note.{pending_in, Open}
use Rattle.value.specs.Encoding.{val, val_bytes, value_size, Whole}
use Rattle.workspace.specs.Types.{declared_at}
use Rattle.workspace.specs.View.{View, view, Fit, setting, leaving, noting}
use Rattle.hosting.specs.Scene.{given}
use Rattle.hosting.specs.Stands.{Stands, KidsAt}
use Rattle.hosting.specs.Ending.{ended}
use Rattle.operations.specs.Registers.{end_in}
use Rattle.operations.specs.Going.{Goes}

-- ---- the values of arguments, put in bytes

-- n values from value k on
pub record ValuesIn (s : List ℕ) (k n : ℕ) (vs : List Val) : Type 0 where
  pub bytes : part (k * value_size) (n * value_size) s ≡ writes val vs
  pub many : length vs ≡ n
  pub whole : Each Whole vs

-- a value stands in bytes, from value k on
pub record PutsVal (s : List ℕ) (k : ℕ) (v : Val) (s' : List ℕ) : Type 0 where
  pub bytes : s' ≡ sets s (k * value_size) (val_bytes v)
  pub whole : Whole v

-- ---- the callee is at node n, and the arguments have the first values of vals

pub record Follows (nodes vals : List ℕ) (count n : ℕ) (w₀ o₀ w o : List ℕ) : Type 0 where
  pub goes : (symbols regions : List ℕ) (vs : List Val) → ValuesIn vals 0 count vs → (t : Tree) → Stands nodes n t
      → Goes (given nodes symbols regions) (λ x. followed x.env (look x.env t) vs) w₀ o₀ (ended None) w o

-- ---- the locals whose address is taken

-- there is a note, with room for a name
abbrev pub NoteOpen : List ℕ → Type 0
NoteOpen w = Open (pending_in (note_part w))

-- a local becomes unknown, and its name is noted
abbrev pub take_view : Option (ℕ × Ty) → View → View
take_view None v = v
take_view (Some p) v = noting p.0 (setting p.0 (unknown_val p.1) v)

abbrev pub take_views : Env → Terms → View → View
take_views E no_terms v = v
take_views E (more_terms t ts) v = take_views E ts (take_view (taken_by E t) v)

-- the tables tell what is declared
abbrev pub Declared : List ℕ → Env → Type 0
Declared t E = (x : ℕ) → x < 512 → declared_at t x ≡ E.declared x

-- a note with at most one name more
pub record OneName (xs : List ℕ) (p : Option (List ℕ)) : Type 0 where
  pub names : List ℕ
  pub noted : p ≡ Some names
  pub most : length names ≤ length xs + 1

-- by the argument at node n
pub record Takes (nodes : List ℕ) (n : ℕ) (w w' : List ℕ) : Type 0 where
  pub holds : (E : Env) → Declared (tables w) E → (t : Tree) → Stands nodes n t → (stored : ℕ) → view w' stored ≡ take_view (taken_by E (look E t)) (view w stored)
  pub tables : tables w' ≡ tables w
  pub fit : (stored : ℕ) → Fit w stored → Fit w' stored
  pub size : length w' ≡ length w
  pub registers : registers_part w' ≡ registers_part w
  pub questions : questions_part w' ≡ questions_part w
  pub note : (xs : List ℕ) → pending_in (note_part w) ≡ Some xs → OneName xs (pending_in (note_part w'))

-- by those from node n up to node e, in a new note
pub record TakesAll (nodes : List ℕ) (n e : ℕ) (w w' : List ℕ) : Type 0 where
  pub holds : (E : Env) → Declared (tables w) E → (ts : Trees) → KidsAt nodes n e ts → (stored : ℕ) → view w' stored ≡ take_views E (looks E ts) (leaving (Some []) (view w stored))
  pub tables : tables w' ≡ tables w
  pub fit : (stored : ℕ) → Fit w stored → Fit w' stored
  pub size : length w' ≡ length w
  pub registers : registers_part w' ≡ registers_part w
  pub questions : questions_part w' ≡ questions_part w

-- ---- the call

-- what a call does once its arguments have values
unfoldable pub after_args : List Val → Env → Term → Act Val
after_args vs E t = followed E (kid 0 (kids t)) vs >>= λ result. elim result [
  | Some answer ↦ done answer
  | None ↦ take_names E (rest (kids t)) >>= λ taken. leave (Some taken) (done nothing)
]

-- the call at node n
pub record Calls (nodes vals : List ℕ) (count n : ℕ) (w₀ o₀ : List ℕ) (r : Bool) (w o : List ℕ) : Type 0 where
  pub goes : (symbols regions : List ℕ) (vs : List Val) → ValuesIn vals 0 count vs → (t : Tree) → Stands nodes n t
      → Goes (given nodes symbols regions) (λ x. after_args vs x.env (look x.env t)) w₀ o₀ (end_in r w) w o
