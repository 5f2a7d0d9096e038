-- What the functions of the cycle ensure: each does what the definition says of the tree that stands at its node. Assumes nothing.
use Rattle.std.specs.Prelude.{Bool, ◌≡◌, List, ℕ, ◌+◌, ◌*◌, ◌^◌, ◌<◌, ◌≤◌, length, take, Option, None, Some, is_some, Result}
use Rattle.value.specs.declared.Val.{Val}
use Rattle.files.specs.Program.{Tree, Trees}
use Rattle.definition.specs.Act.{Act, done, fail, unknown_address, fields_written, ◌>>◌}
use Rattle.definition.specs.Term.{Terms, eval, evals, kids, count, nothing}
use Rattle.definition.specs.Evaluate.{Env, Did, did, number_in, look, looks, execute, assign_struct, assign_val, store_fields}
use Rattle.value.specs.Encoding.{value_size}
use Rattle.hosting.specs.declared.Reads.{Reads}
use Rattle.hosting.specs.declared.Short.{Short}
use Rattle.hosting.specs.declared.Did as declared
use Rattle.hosting.specs.Scene.{given}
use Rattle.hosting.specs.Stands.{Stands, KidsAt, FieldsAt}
use Rattle.hosting.specs.Ending.{end_of, done_of}
use Rattle.operations.specs.Registers.{short_in, end_by, end_in, told_end, unit_in}
use Rattle.operations.specs.Going.{ReadyIn, Goes}
use Rattle.operations.specs.Taking.{ValuesIn}

-- ---- in nodes b, with symbols s and regions r

-- these being what an evaluation reads
abbrev pub reading : {A : Type 1} → Reads → (List ℕ → List ℕ → List ℕ → A) → A
reading x f = f x.nodes.now x.symbols.now x.regions.now

-- the workspace is in order; and a reference to a slice does not tell what a slice does, that its length is a machine's number
abbrev pub ReadyBy : List ℕ → List ℕ → List ℕ → List ℕ → Type 0
ReadyBy b s r w = ReadyIn (given b s r) w × (length b < 2 ^ 64)

-- the tree at node n is evaluated
pub record Evals (b s r : List ℕ) (n : ℕ) (w₀ o₀ : List ℕ) (q : Result Val Short) (w o : List ℕ) : Type 0 where
  pub goes : (t : Tree) → Stands b n t → Goes (given b s r) (λ x. eval (look x.env t)) w₀ o₀ (end_of q) w o

-- it is executed
pub record Executes (b s r : List ℕ) (n : ℕ) (w₀ o₀ : List ℕ) (q : Result declared.Did Short) (w o : List ℕ) : Type 0 where
  pub goes : (t : Tree) → Stands b n t → Goes (given b s r) (λ x. execute x.env (look x.env t)) w₀ o₀ (done_of q) w o

-- ---- the same, told by the registers

pub record Evaluates (b s r : List ℕ) (n : ℕ) (w₀ o₀ : List ℕ) (q : Bool) (w o : List ℕ) : Type 0 where
  pub goes : (t : Tree) → Stands b n t → Goes (given b s r) (λ x. eval (look x.env t)) w₀ o₀ (end_in q w) w o

-- an Assign is executed
pub record Assigns (b s r : List ℕ) (n : ℕ) (w₀ o₀ : List ℕ) (q : Bool) (w o : List ℕ) : Type 0 where
  pub goes : (t : Tree) → Stands b n t → Goes (given b s r) (λ x. execute x.env (look x.env t)) w₀ o₀ (told_end q w) w o

-- the trees from node n up to node e, one after another, and nothing of what they give
pub record EvaluatesKids (b s r : List ℕ) (n e : ℕ) (w₀ o₀ : List ℕ) (q : Bool) (w o : List ℕ) : Type 0 where
  pub goes : (ts : Trees) → KidsAt b n e ts → Goes (given b s r) (λ x. evals (looks x.env ts) >> done nothing) w₀ o₀ (end_in q w) w o

-- arguments, whose values are put in bytes from value k on
pub record EvaluatesArgs (b s r : List ℕ) (n e k : ℕ) (w₀ o₀ : List ℕ) (q : Option ℕ) (vals vals' w o : List ℕ) : Type 0 where
  pub values : List Val
  pub filled : (count : ℕ) → q ≡ Some count → ValuesIn vals' k count values × (count + k ≤ 16)
  pub goes : (ts : Trees) → KidsAt b n e ts → Goes (given b s r) (λ x. evals (looks x.env ts)) w₀ o₀ (end_by (is_some q) values (short_in w)) w o
  pub before : take (k * value_size) vals' ≡ take (k * value_size) vals

-- ---- Assign

-- a value to what the tree at node l is
pub record AssignsVal (b s r : List ℕ) (l : ℕ) (v : Val) (w₀ o₀ : List ℕ) (q : Bool) (w o : List ℕ) : Type 0 where
  pub goes : (t : Tree) → Stands b l t → Goes (given b s r) (λ x. assign_val x.env (look x.env t) v) w₀ o₀ (told_end q w) w o

-- the struct at node m through what the tree at node l is
pub record AssignsStruct (b s r : List ℕ) (l m : ℕ) (w₀ o₀ : List ℕ) (q : Bool) (w o : List ℕ) : Type 0 where
  pub goes : (t u : Tree) → Stands b l t → Stands b m u → Goes (given b s r) (λ x. assign_struct x.env (look x.env t) (kids (look x.env u))) w₀ o₀ (told_end q w) w o

-- its fields, to the address that a value is; node n gave the value
unfoldable pub store_struct : Env → ℕ → Terms → Val → Act Did
store_struct E n fields v = elim (number_in v) [
  | None ↦ fail (unknown_address n)
  | Some a ↦ store_fields E a fields >> done (did (fields_written a (count fields)))
]

pub record StoresStruct (b s r : List ℕ) (n m : ℕ) (v : Val) (w₀ o₀ : List ℕ) (q : Bool) (w o : List ℕ) : Type 0 where
  pub goes : (u : Tree) → Stands b m u → Goes (given b s r) (λ x. store_struct x.env n (kids (look x.env u)) v) w₀ o₀ (told_end q w) w o

-- fields from node n up to node e, to their offsets from an address
pub record StoresFields (b s r : List ℕ) (n e address : ℕ) (w₀ o₀ : List ℕ) (q : Bool) (w o : List ℕ) : Type 0 where
  pub goes : (ts : Trees) → FieldsAt b n e ts → Goes (given b s r) (λ x. store_fields x.env address (looks x.env ts)) w₀ o₀ (unit_in q w) w o
