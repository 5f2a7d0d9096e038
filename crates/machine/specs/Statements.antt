-- What statements and terminators ensure. Assumes nothing.
use Rattle.std.specs.Prelude.{List, ℕ, Option, None, Result}
use Rattle.files.specs.Program.{Program, Tree, Block, block_at, statement_at}
use Rattle.definition.specs.Evaluate.{look}
use Rattle.definition.specs.Statements as statements
use Rattle.definition.specs.Walk as walk
use Rattle.index.specs.declared.blocks.Place.{Place}
use Rattle.std.specs.declared.ops.ControlFlow.{ControlFlow}
use Rattle.hosting.specs.declared.Facts.{Facts}
use Rattle.hosting.specs.declared.Short.{Short}
use Rattle.hosting.specs.declared.Stop.{Stop}
use Rattle.outcomes.specs.declared.leads.Spot.{Spot}
use Rattle.hosting.specs.Stands.{Stands}
use Rattle.hosting.specs.Scene.{given}
use Rattle.hosting.specs.Runs.{Kept}
use Rattle.hosting.specs.Routine.{Named}
use Rattle.operations.specs.Going.{Remains}
use Rattle.operations.specs.Going as going
use Rattle.outcomes.specs.declared.roots.Acts.{Acts}
use Rattle.outcomes.specs.Endings.{acts_end, halt_end, next_end}
use Rattle.outcomes.specs.Post.{Outside}

-- ---- statements

-- in nodes b, with symbols s and regions r, the root at node n does what a statement's root does, whatever its address
pub record Acting (b s r : List ℕ) (f : Facts) (n : ℕ) (w₀ o₀ : List ℕ) (q : Result Acts Short) (w o : List ℕ) : Type 0 where
  pub goes : (P : Program) → Named f P → (at : Option ℕ) (t : Tree) → Stands b n t
      → going.Goes (given b s r) (λ x. statements.outcome P x.env at (look x.env t)) w₀ o₀ (acts_end at q) w o
  pub remains : Kept (acts_end None q) (Remains (given b s r) w₀ w)

-- statement k is run, of block n
pub record RunsStatement (b s r ss : List ℕ) (f : Facts) (n k : ℕ) (w₀ o₀ : List ℕ) (h : Option Stop) (w o : List ℕ) : Type 0 where
  pub goes : (P : Program) → Named f P → (limit : ℕ)
      → going.Goes (given b s r) (λ x. statements.run_statement P x.env n (statement_at b ss k)) w₀ o₀ (halt_end limit h) w o
  pub remains : Kept (halt_end 0 h) (Remains (given b s r) w₀ w)

-- ---- terminators

abbrev pub block_of : (nodes statements blocks : List ℕ) → Place → Block
block_of nodes ss blocks p = block_at nodes ss blocks p.start p.first

pub record Terminates (b s r ss blocks : List ℕ) (p : Place) (w₀ o₀ : List ℕ) (q : ControlFlow Stop Spot) (w o : List ℕ) : Type 0 where
  pub goes : (limit : ℕ) → going.Goes (given b s r) (λ x. walk.terminate x.env (block_of b ss blocks p).statements (block_of b ss blocks p).terminator) w₀ o₀ (next_end limit q) w o
  pub outside : Outside q
