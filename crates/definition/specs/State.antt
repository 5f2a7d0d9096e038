-- The state of a run (the fields of the Rust's `Machine`), what each operation does with it, and what a tree comes to in a world. Assumes nothing.
use Rattle.std.specs.Prelude.{Bool, true, false, List, [], ◌∷◌, ◌++◌, ℕ, zero, suc, None}
use Rattle.value.specs.declared.Val.{Val}
use Rattle.memory.specs.Overlay.{Overlay, Cell, find, store}
use Rattle.definition.specs.Question.{World, Entry, cut}
use Rattle.definition.specs.Act.{Step, Pending, Op, peek_op, poke_op, get_op, set_op, pending_op, leave_op, spend_op, emit_op, Reply, Act, done, fail, ask, act, End, gave, stopped}

-- the units left, and those spent on blocks and on statements
pub record Budget : Type 0 where
  pub left : ℕ
  pub entered : ℕ
  pub recorded : ℕ

-- variables by name and memory by address, both ascending; the steps in order
pub record State : Type 0 where
  pub variables : Overlay Val
  pub memory : Overlay Cell
  pub pending : Pending
  pub budget : Budget
  pub steps : List Step

-- a run with so many units and some variables set, and nothing done yet
abbrev pub fresh : ℕ → Overlay Val → State
fresh limit vs = record { variables = vs; memory = []; pending = None; budget = record { left = limit; entered = 0; recorded = 0 }; steps = [] }

-- ---- what each operation gives, and the state after it

abbrev pub poking : ℕ → Cell → State → State
poking a c s = record { variables = s.variables; memory = store a c s.memory; pending = s.pending; budget = s.budget; steps = s.steps }

abbrev pub setting : ℕ → Val → State → State
setting x v s = record { variables = store x v s.variables; memory = s.memory; pending = s.pending; budget = s.budget; steps = s.steps }

abbrev pub leaving : Pending → State → State
leaving p s = record { variables = s.variables; memory = s.memory; pending = p; budget = s.budget; steps = s.steps }

abbrev pub emitting : Step → State → State
emitting t s = record { variables = s.variables; memory = s.memory; pending = s.pending; budget = s.budget; steps = s.steps ++ (t ∷ []) }

-- one unit of those left is spent: the Rust's `step`
abbrev pub paid : (left : ℕ) → (block : Bool) → Budget → Budget
paid zero b g = g
paid (suc n) true g = record { left = n; entered = suc g.entered; recorded = g.recorded }
paid (suc n) false g = record { left = n; entered = g.entered; recorded = suc g.recorded }

abbrev pub spending : (block : Bool) → State → State
spending b s = record { variables = s.variables; memory = s.memory; pending = s.pending; budget = paid s.budget.left b s.budget; steps = s.steps }

abbrev pub some? : ℕ → Bool
some? zero = false
some? (suc n) = true

abbrev pub reply : (o : Op) → State → Reply o
reply (peek_op a) s = find a s.memory
reply (poke_op a c) s = tt
reply (get_op x) s = find x s.variables
reply (set_op x v) s = tt
reply pending_op s = s.pending
reply (leave_op p) s = tt
reply (spend_op b) s = some? s.budget.left
reply (emit_op e) s = tt

abbrev pub next : Op → State → State
next (peek_op a) s = s
next (poke_op a c) s = poking a c s
next (get_op x) s = s
next (set_op x v) s = setting x v s
next pending_op s = s
next (leave_op p) s = leaving p s
next (spend_op b) s = spending b s
next (emit_op e) s = emitting e s

-- ---- running

-- how a run ended, the questions asked with the answers given, in order, and the state after
pub record Out (A : Type 0) : Type 0 where
  pub end : End A
  pub log : List Entry
  pub after : State

-- an outcome with some entries before its own
abbrev pub preceded : {A : Type 0} → List Entry → Out A → Out A
preceded l r = record { end = r.end; log = l ++ r.log; after = r.after }

-- the run of a tree in a world from a state
unfoldable pub run : {A : Type 0} → World → Act A → State → Out A
run w (done a) s = record { end = gave a; log = []; after = s }
run w (fail x) s = record { end = stopped x; log = []; after = s }
run w (ask κ q k) s = let q' = cut κ q in preceded ((κ, (q', w κ q')) ∷ []) (run w (k (w κ q')) s)
run w (act o k) s = run w (k (reply o s)) (next o s)
