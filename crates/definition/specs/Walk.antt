-- The walk over the blocks, one unit at a time, and the run of a routine (document 01, "Values, then the walk"; the Rust's `walk` and `run_with`).
-- Assumes nothing.
use Rattle.std.specs.Prelude.{Bool, true, false, List, [], ◌∷◌, ◌++◌, ℕ, zero, suc, length, get_or, ltb, eqb, Option, None, Some, slice_get}
use Rattle.value.specs.declared.Ty.{Ty}
use Rattle.value.specs.declared.Val.{Val}
use Rattle.value.specs.Width.{residue}
use Rattle.spelling.specs.Spelling.{type_of}
use Rattle.value.specs.Value.{type, read_as, unknown_val, cast_to}
use Rattle.memory.specs.Overlay.{Overlay, find, store}
use Rattle.definition.specs.Act.{Act, done, fail, ask, spend, End, gave, stopped, try, ◌>>=◌, branch_unknown, switch_unknown, no_case}
use Rattle.definition.specs.Question.{call_to}
use Rattle.files.specs.Program.{Statement, Case, case_of, Terminator, returns, goto, branch, switch, Block, Variable, Program, Tree, place}
use Rattle.definition.specs.Term.{eval}
use Rattle.definition.specs.Evaluate.{Env, number_in, look}
use Rattle.definition.specs.Statements.{Stop, Returned, Steps, Unknown, NoBlock, NoBlocks, run_statement}

-- where the walk is: about to enter a block, or before statement k of a block that has it
pub data Place : Type 0 where
  before : (block : ℕ) → Place
  within : (block k : ℕ) → Place

-- what comes next: a stop, or a place
pub data Next : Type 0 where
  stops : Stop → Next
  goes : Place → Next

-- ---- terminators

-- the last statement's address, which a terminator without one takes
unfoldable pub last_address : List Statement → Option ℕ
last_address [] = None
last_address (s ∷ []) = s.address
last_address (s ∷ t ∷ ss) = last_address (t ∷ ss)

abbrev pub address_or : Option ℕ → List Statement → Option ℕ
address_or None ss = last_address ss
address_or (Some a) ss = Some a

-- a switch's value, extended by its sign bit whatever its sign is, as 64 bits
abbrev pub extended : Val → ℕ
extended v = residue 64 (read_as (type v.bits true) v.number)

-- where a terminator leads: what ends it short is the run's stop, at its address
abbrev pub left_to : Option ℕ → End ℕ → Next
left_to at (gave b) = goes (before b)
left_to at (stopped x) = stops (Unknown at x)

module _ (E : Env) where
  -- Branch: the block that is taken for a value other than 0, else the next
  unfoldable pub taking : Tree → ℕ → ℕ → Act ℕ
  taking root taken next = eval (look E root) >>= λ v. elim (number_in v) [
    | None ↦ fail (branch_unknown (place root))
    | Some n ↦ done (elim (eqb n 0) [ true ↦ next | false ↦ taken ])
  ]

  -- Switch
  unfoldable pub choosing : Tree → List Case → Act ℕ
  choosing root cases = eval (look E root) >>= λ v. elim v.known [
    | false ↦ fail (switch_unknown (place root))
    | true ↦ elim (case_of cases (extended v)) [ None ↦ fail (no_case (extended v)) | Some b ↦ done b ]
  ]

  unfoldable pub terminate : List Statement → Terminator → Act Next
  terminate ss returns = done (stops (Returned None))
  terminate ss (goto b) = done (goes (before b))
  terminate ss (branch at root taken next) = try (taking root taken next) >>= λ e. done (left_to (address_or at ss) e)
  terminate ss (switch at root cases) = try (choosing root cases) >>= λ e. done (left_to (address_or at ss) e)

  -- before statement k of a block: it is there, or the terminator comes, at no cost
  unfoldable pub settle : ℕ → Block → ℕ → Act Next
  settle b block k = elim (ltb k (length block.statements)) [
    | true ↦ done (goes (within b k))
    | false ↦ terminate block.statements block.terminator
  ]

  -- after statement k: its stop, if it makes one
  abbrev pub onward : ℕ → Block → ℕ → Option Stop → Act Next
  onward b block k None = settle b block (suc k)
  onward b block k (Some s) = done (stops s)

-- the block that a place is in
abbrev pub block_of : Place → ℕ
block_of (before b) = b
block_of (within b k) = b

module _ (P : Program) (E : Env) where
  -- what one unit buys: a block is entered (true), or a statement run. None where there is no such block or statement
  unfoldable pub unit : Place → Option (Bool × Act Next)
  unit (before b) = elim (slice_get P.blocks b) [ None ↦ None | Some block ↦ Some (true, settle E b block 0) ]
  unit (within b k) = elim (slice_get P.blocks b) [
    | None ↦ None
    | Some block ↦ elim (slice_get block.statements k) [
      | None ↦ None
      | Some s ↦ Some (false, run_statement P E b s >>= onward E b block k)
    ]
  ]

  -- "a missing block stops NoBlock before the budget is looked at; each block and each statement then costs one unit": a stop, or the place where the
  -- units are spent. The number is at least the units left (proofs/Fuel)
  unfoldable pub walk : ℕ → Place → Act Next
  walk zero p = elim (unit p) [ None ↦ done (stops (NoBlock (block_of p))) | Some u ↦ done (goes p) ]
  walk (suc most) p = elim (unit p) [
    | None ↦ done (stops (NoBlock (block_of p)))
    | Some u ↦ spend u.0 (λ paid. elim paid [
      | false ↦ done (goes p)
      | true ↦ u.1 >>= λ n. elim n [ stops s ↦ done (stops s) | goes q ↦ walk most q ]
    ])
  ]

  -- "An empty routine stops NoBlocks even with 0 steps"
  unfoldable pub walk_from : ℕ → Act Next
  walk_from units = elim P.blocks [ [] ↦ done (stops NoBlocks) | b ∷ bs ↦ walk units (before 0) ]

-- what is not stopped when its units are spent
abbrev pub stop_at : ℕ → Next → Stop
stop_at limit (stops s) = s
stop_at limit (goes p) = Steps limit

-- the Rust's `walk` from block 0
unfoldable pub walk_all : Program → Env → ℕ → Act Stop
walk_all P E limit = walk_from P E limit >>= λ n. done (stop_at limit n)

-- ---- the variables of a routine

-- the type of a name among variables, the last of that name
unfoldable pub declared_in : List (List ℕ) → List Variable → ℕ → Option Ty
declared_in types [] x = None
declared_in types (v ∷ vs) x = elim (declared_in types vs x) [
  | Some t ↦ Some t
  | None ↦ elim (eqb v.name x) [ true ↦ Some (type_of (get_or types v.type [])) | false ↦ None ]
]

-- each parameter has its argument cast to its type; one without an argument is unknown. The last of a name stands
unfoldable pub parameters_set : List (List ℕ) → List Variable → List Val → Overlay Val → Overlay Val
parameters_set types [] args m = m
parameters_set types (v ∷ vs) [] m = parameters_set types vs [] (store v.name (unknown_val (type_of (get_or types v.type []))) m)
parameters_set types (v ∷ vs) (a ∷ args) m = parameters_set types vs args (store v.name (cast_to a (type_of (get_or types v.type []))) m)

-- at the end each declared name that was never set is unknown, of the type of the first of that name
unfoldable pub unset_added : List (List ℕ) → List Variable → Overlay Val → Overlay Val
unset_added types [] m = m
unset_added types (v ∷ vs) m = unset_added types vs (added_to (find v.name m))
  where
    added_to : Option Val → Overlay Val
    added_to (Some x) = m
    added_to None = store v.name (unknown_val (type_of (get_or types v.type []))) m

-- a call is asked of the world if the depth, 0, is below its limit, and the world "answers none"
unfoldable pub follow_at : (left : ℕ) → (name address : ℕ) → List Val → Act (Option Val)
follow_at zero name address vs = done None
follow_at (suc left) name address vs = ask call_to (record { name = name; address = address; depth = 1; values = vs }) (λ _. done None)

abbrev pub env_of : Program → (depth : ℕ) → Env
env_of P depth = record { types = P.types; declared = declared_in P.types (P.parameters ++ P.locals); follow = follow_at depth }

abbrev pub variables_at_start : Program → List Val → Overlay Val
variables_at_start P arguments = parameters_set P.types P.parameters arguments []

abbrev pub variables_at_end : Program → Overlay Val → Overlay Val
variables_at_end P m = unset_added P.types (P.parameters ++ P.locals) m
