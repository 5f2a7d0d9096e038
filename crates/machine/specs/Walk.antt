-- What the parts of a walk over units ensure. Assumes nothing.
use Rattle.std.specs.Prelude.{◌≡◌, List, ℕ, ◌+◌, ◌<◌, Option, None, Some}
use Rattle.layout.specs.Number.{number_at}
use Rattle.files.specs.Program.{Program, statement_at}
use Rattle.definition.specs.Act.{Act, done, ◌>>=◌}
use Rattle.definition.specs.Evaluate.{Env}
use Rattle.definition.specs.Statements as statements
use Rattle.definition.specs.Walk as walk
use Rattle.index.specs.declared.blocks.Place.{Place}
use Rattle.workspace.specs.Parts.{tables}
use Rattle.hosting.specs.declared.Counts.{Counts}
use Rattle.hosting.specs.declared.Facts.{Facts}
use Rattle.hosting.specs.declared.Stop.{Stop}
use Rattle.hosting.specs.Scene.{Given, given, Ready}
use Rattle.hosting.specs.Ending.{Ending}
use Rattle.hosting.specs.Runs.{Kept, Runs}
use Rattle.hosting.specs.Routine.{Named, Told}
use Rattle.hosting.specs.Walking.{stop_end}
use Rattle.operations.specs.Registers.{counts_in, how_in}
use Rattle.operations.specs.Going.{Remains}
use Rattle.operations.specs.Going as going
use Rattle.outcomes.specs.declared.leads.Spot.{Spot}
use Rattle.std.specs.declared.ops.ControlFlow.{ControlFlow}
use Rattle.std.specs.declared.ops.ControlFlow.TheVariants.{Continue, Break}
use Rattle.outcomes.specs.Endings.{halt_end, place_of, next_end}
use Rattle.machine.specs.Statements.{block_of}
use Rattle.machine.specs.Spots.{PlacedAt}
use Rattle.outcomes.specs.Units.{Balanced}

-- ---- units

-- what comes next is a statement of block n, which is at a place, or none that was entered
abbrev pub Stays : List ℕ → Place → ℕ → ControlFlow Stop Spot → Type 0
Stays blocks p n (Break s) = Unit
Stays blocks p n (Continue s) = (k : ℕ) → s.statement ≡ Some k → (s.block ≡ n) × (k < number_at blocks p.start 2)

-- in nodes b, with symbols s and regions r
pub record Settles (b s r ss blocks : List ℕ) (p : Place) (n k : ℕ) (w₀ o₀ : List ℕ) (q : ControlFlow Stop Spot) (w o : List ℕ) : Type 0 where
  pub goes : (limit : ℕ) → going.Goes (given b s r) (λ x. walk.settle x.env n (block_of b ss blocks p) k) w₀ o₀ (next_end limit q) w o
  pub stays : Stays blocks p n q

-- what a unit runs at a spot before the walk settles: the statement there, or nothing where a block is entered
abbrev pub run_act : Program → Env → (nodes ss : List ℕ) → Place → Spot → Act (Option statements.Stop)
run_act P E nodes ss p s = elim s.statement [
  | Some k ↦ statements.run_statement P E s.block (statement_at nodes ss (p.first + k))
  | None ↦ done None
]

pub record RunsAt (b s r ss : List ℕ) (f : Facts) (p : Place) (i : Spot) (w₀ o₀ : List ℕ) (h : Option Stop) (w o : List ℕ) : Type 0 where
  pub goes : (P : Program) → Named f P → (limit : ℕ) → going.Goes (given b s r) (λ x. run_act P x.env b ss p i) w₀ o₀ (halt_end limit h) w o
  pub remains : Kept (halt_end 0 h) (Remains (given b s r) w₀ w)

-- what a unit buys at a spot of the walk
abbrev pub unit_act : Program → Env → (nodes statements blocks : List ℕ) → Place → Spot → Act walk.Next
unit_act P E nodes ss blocks p s = elim s.statement [
  | Some k ↦ statements.run_statement P E s.block (statement_at nodes ss (p.first + k)) >>= walk.onward E s.block (block_of nodes ss blocks p) k
  | None ↦ walk.settle E s.block (block_of nodes ss blocks p) 0
]

pub record UnitOf (b s r ss blocks : List ℕ) (f : Facts) (p : Place) (i : Spot) (w₀ o₀ : List ℕ) (q : ControlFlow Stop Spot) (w o : List ℕ) : Type 0 where
  pub goes : (P : Program) → Named f P → (limit : ℕ) → going.Goes (given b s r) (λ x. unit_act P x.env b ss blocks p i) w₀ o₀ (next_end limit q) w o
  pub remains : Kept (next_end 0 q) (Remains (given b s r) w₀ w)
  pub stays : Stays blocks p i.block q

-- ---- the walk

-- so many units left at a place, of a limit
abbrev pub walk_on : Program → Env → (limit left : ℕ) → walk.Place → Act statements.Stop
walk_on P E limit left p = walk.walk P E left p >>= λ n. done (walk.stop_at limit n)

-- what a turn leaves for the next
pub record Going (g : Given) (blocks : List ℕ) (f : Facts) (left : ℕ) (s : Spot) (w₀ w : List ℕ) : Type 0 where
  pub ready : Ready g w (counts_in w)
  pub how : how_in w ≡ how_in w₀
  pub placed : PlacedAt blocks f.blocks s
  pub balanced : Balanced (counts_in w).tally
  pub less : (counts_in w).tally.left < left
  pub tables : tables w ≡ tables w₀

-- a walk from a spot goes on as the walk from the next, or stops
abbrev pub TurnsTo : Given → (statements blocks : List ℕ) → Facts → Spot → List ℕ → List ℕ → ControlFlow Stop Spot → List ℕ → List ℕ → Type 0
TurnsTo g ss blocks f s w₀ o₀ (Break stop) w o = (P : Program) → Told g.nodes ss blocks f P → (limit : ℕ)
    → Runs g (λ x. walk_on P x.env limit (counts_in w₀).tally.left (place_of s)) w₀ o₀ (counts_in w₀) (stop_end limit stop) w o (counts_in w)
TurnsTo g ss blocks f s w₀ o₀ (Continue q) w o = Going g blocks f (counts_in w₀).tally.left q w₀ w × ((P : Program) → Told g.nodes ss blocks f P
    → (limit : ℕ) (e : Ending statements.Stop) (w' o' : List ℕ) (a' : Counts) → Runs g (λ x. walk_on P x.env limit (counts_in w).tally.left (place_of q)) w o (counts_in w) e w' o' a'
    → Runs g (λ x. walk_on P x.env limit (counts_in w₀).tally.left (place_of s)) w₀ o₀ (counts_in w₀) e w' o' a')

-- g goes as the registers of w₀ say
pub record Turns (g : Given) (ss blocks : List ℕ) (f : Facts) (s : Spot) (w₀ o₀ : List ℕ) (q : ControlFlow Stop Spot) (w o : List ℕ) : Type 0 where
  pub turns : TurnsTo g ss blocks f s w₀ o₀ q w o

pub record WalksFrom (g : Given) (ss blocks : List ℕ) (f : Facts) (w₀ o₀ : List ℕ) (stop : Stop) (w o : List ℕ) : Type 0 where
  pub runs : (P : Program) → Told g.nodes ss blocks f P → (limit : ℕ)
      → Runs g (λ x. walk_on P x.env limit (counts_in w₀).tally.left (walk.before 0)) w₀ o₀ (counts_in w₀) (stop_end limit stop) w o (counts_in w)
