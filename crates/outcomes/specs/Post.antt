-- What the step of a statement, the lead of a terminator and a unit ensure. Assumes nothing.
use Rattle.std.specs.Prelude.{◌≡◌, true, false, not, List, ℕ, eqb, Option, None, Some, Result, Bool, ◌+◌}
use Rattle.value.specs.declared.Val.{Val}
use Rattle.layout.specs.Number.{number_at}
use Rattle.files.specs.Program.{Statement, Case, case_of, listed, statement_at}
use Rattle.definition.specs.Act.{End, gave, stopped, no_note, branch_unknown, switch_unknown, no_case}
use Rattle.definition.specs.Evaluate.{Did, did, number_in}
use Rattle.definition.specs.Record.{step_fields}
use Rattle.definition.specs.Statements as statements
use Rattle.definition.specs.Walk as walk
use Rattle.index.specs.declared.blocks.Place.{Place}
use Rattle.workspace.specs.Parts.{note_part}
use Rattle.workspace.specs.Note.{pending_in}
use Rattle.workspace.specs.Post.{Aside}
use Rattle.stream.specs.Stream.{Sent}
use Rattle.stream.specs.Pieces.{step_bytes}
use Rattle.std.specs.declared.ops.ControlFlow.{ControlFlow}
use Rattle.std.specs.declared.ops.ControlFlow.TheVariants.{Continue, Break}
use Rattle.hosting.specs.declared.Short.{Short}
use Rattle.hosting.specs.declared.Stop.{Stop}
use Rattle.outcomes.specs.declared.leads.Spot.{Spot}
use Rattle.hosting.specs.Ending.{Ending, ended, short, end_of}
use Rattle.hosting.specs.Held.{with_recorded}
use Rattle.operations.specs.Registers.{counts_in, how_in}
use Rattle.outcomes.specs.declared.steps.Site.{Site}
use Rattle.outcomes.specs.declared.roots.Acts.{Acts}
use Rattle.outcomes.specs.Endings.{tried_end, acts_end, HaltIs, next_end}
use Rattle.outcomes.specs.Steps.{step_as}
use Rattle.outcomes.specs.Units.{paid_counts}

-- ---- statements

-- the step of what was done is sent, with the note of the workspace w, and its end kept in the registers
pub record Sends (site : Site) (d : Did) (w o w' o' : List ℕ) : Type 0 where
  pub aside : Aside w w'
  pub how : how_in w' ≡ how_in w
  pub counts : counts_in w' ≡ with_recorded (counts_in w').tally.recorded (counts_in w)
  pub sent : Sent (not (how_in w).second) o (counts_in w).tally.recorded (step_bytes (step_fields (step_as site d (pending_in (note_part w))))) o' (counts_in w').tally.recorded

abbrev pub SendsIf : Site → Ending statements.Outcome → List ℕ → List ℕ → List ℕ → List ℕ → Type 0
SendsIf site (ended v) w o w' o' = Sends site v.0 w o w' o'
SendsIf site (short (Some y)) w o w' o' = Sends site (did no_note) w o w' o'
SendsIf site (short None) w o w' o' = w' ≡ w

-- a statement's outcome is concluded, unless there is no room
pub record Concludes (site : Site) (w o : List ℕ) (q : Result Acts Short) (r : Option Stop) (w' o' : List ℕ) : Type 0 where
  pub halt : HaltIs site.address q r
  pub sends : SendsIf site (acts_end site.address q) w o w' o'

-- ---- terminators

-- what a Branch and a Switch make of their value
abbrev pub branches : (root taken next : ℕ) → Val → End ℕ
branches root taken next v = elim (number_in v) [
  | None ↦ stopped (branch_unknown root)
  | Some n ↦ gave (elim (eqb n 0) [ true ↦ next | false ↦ taken ])
]

abbrev pub switches : (root : ℕ) → List Case → Val → End ℕ
switches root cases v = elim v.known [
  | false ↦ stopped (switch_unknown root)
  | true ↦ elim (case_of cases (walk.extended v)) [ None ↦ stopped (no_case (walk.extended v)) | Some b ↦ gave b ]
]

-- the statements of the block at a place, whatever the nodes
abbrev pub statements_at : (nodes statements blocks : List ℕ) → Place → List Statement
statements_at nodes ss blocks p = listed (statement_at nodes ss) p.first (number_at blocks p.start 2)

pub record LastIs (ss blocks : List ℕ) (p : Place) (r : Option ℕ) : Type 0 where
  pub is : (nodes : List ℕ) → r ≡ walk.last_address (statements_at nodes ss blocks p)

pub record AddressIs (ss blocks : List ℕ) (p : Place) (address r : Option ℕ) : Type 0 where
  pub is : (nodes : List ℕ) → r ≡ walk.address_or address (statements_at nodes ss blocks p)

-- what comes next is no statement of a block that was entered
abbrev pub Outside : ControlFlow Stop Spot → Type 0
Outside (Break s) = Unit
Outside (Continue s) = s.statement ≡ None

pub record Leads (ss blocks : List ℕ) (p : Place) (address : Option ℕ) (l : Result ℕ Short) (q : ControlFlow Stop Spot) : Type 0 where
  pub is : (nodes : List ℕ) (limit : ℕ) → next_end limit q ≡ tried_end (walk.left_to (walk.address_or address (statements_at nodes ss blocks p))) (end_of l)
  pub outside : Outside q

-- ---- units

-- a unit is spent, on a block or on a statement
pub record Pays (block : Bool) (w w' : List ℕ) : Type 0 where
  pub aside : Aside w w'
  pub how : how_in w' ≡ how_in w
  pub counts : counts_in w' ≡ paid_counts block (counts_in w)

-- the statement before which a walk then settles
abbrev pub ahead_of : Spot → ℕ
ahead_of s = elim s.statement [ Some k ↦ k + 1 | None ↦ 0 ]
