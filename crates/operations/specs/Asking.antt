-- What the operations ensure that ask the world: loads, and names that may be symbols. Assumes nothing.
use Rattle.std.specs.Prelude.{◌≡◌, ℕ, Bool, true, false, not, List, length, Option, None, Some}
use Rattle.std.specs.Fn.{Shared}
use denote.Ref.{MutBor}
use Rattle.value.specs.declared.Ty.{Ty}
use Rattle.value.specs.declared.Val.{Val}
use Rattle.value.specs.Value.{type, known_val, unknown_val, cast_to}
use Rattle.files.specs.Nodes.{ref_of}
use Rattle.files.specs.Program.{Tree}
use Rattle.definition.specs.Question.{Asked, Question, Answer, address_of, size_of, cut}
use Rattle.definition.specs.Act.{Act, done, fail, ask, set, no_width, ◌>>=◌, ◌>>◌}
use Rattle.definition.specs.Memory.{load, store_val}
use Rattle.definition.specs.Term.{nothing}
use Rattle.definition.specs.Evaluate.{Env, width_in, type_or, look, address_val, assign_val}
use Rattle.stream.specs.declared.Symbol.{Symbol}
use Rattle.stream.specs.declared.Symbol.TheVariants.{AddressOf, SizeOf}
use Rattle.stream.specs.Stream.{placed, advanced, Sent}
use Rattle.workspace.specs.Parts.{tables, questions_part}
use Rattle.workspace.specs.Types.{declared_at}
use Rattle.workspace.specs.Post.{Kept}
use Rattle.hosting.specs.declared.How.{How}
use Rattle.hosting.specs.Scene.{Given, given, Scene, Meant}
use Rattle.hosting.specs.Held.{held, asked, with_asked}
use Rattle.hosting.specs.Stands.{Stands}
use Rattle.operations.specs.Registers.{counts_in, units_of, how_in, end_in, told_end, did_write}
use Rattle.operations.specs.Going.{Goes}

-- ---- questions

-- a writer of a piece: at a part, the cursor and whether the stream is on, it sends the bytes, and gives where the cursor stands then
pub record Writer {W : Type 0} (g : Shared W (MutBor (List ℕ) × (ℕ × (Bool × Unit {0}))) (ℕ × (MutBor (List ℕ) × Unit {0}))) (f : W) (bytes : List ℕ) : Type 0 where
  pub sent : (p q : MutBor (List ℕ)) (at next : ℕ) (on : Bool) → g.post f (p, (at, (on, tt))) (next, (q, tt)) → Sent on p.now at bytes q.now next

-- bytes are sent to the stream of questions
pub record Sends (bytes w o w' o' : List ℕ) : Type 0 where
  pub kept : Kept w w'
  pub tables : tables w' ≡ tables w
  pub part : o' ≡ placed (how_in w).second o (counts_in w).tally.asked bytes
  pub questions : questions_part w' ≡ placed (not (how_in w).second) (questions_part w) (counts_in w).tally.asked bytes
  pub counts : counts_in w' ≡ with_asked (advanced (counts_in w).tally.asked (length bytes)) (counts_in w)
  pub how : how_in w' ≡ how_in w

-- a question is asked: what the scene's world answers, and what is held then
pub record Asks (g : How → Given) (κ : Asked) (q : Question κ) (y : Answer κ) (w o w' o' : List ℕ) : Type 0 where
  pub kept : Kept w w'
  pub answer : (h : How) (x : Scene) → Meant (g h) x (tables w) → x.world κ (cut κ q) ≡ y
  pub held : held w' o' (counts_in w') ≡ asked (how_in w).second (κ, (cut κ q, y)) (held w o (counts_in w))
  pub stored : (counts_in w').stored ≡ (counts_in w).stored
  pub units : units_of (counts_in w') ≡ units_of (counts_in w)
  pub how : how_in w' ≡ how_in w
  pub tables : tables w' ≡ tables w

-- ---- loads

abbrev pub found_val : Ty → Option ℕ → Val
found_val t (Some n) = known_val n t
found_val t None = unknown_val t

-- with the regions alone, whatever the nodes and symbols are
pub record LoadsAt (regions : List ℕ) (address : ℕ) (t : Ty) (w₀ o₀ : List ℕ) (r : Bool) (w o : List ℕ) : Type 0 where
  pub goes : (nodes symbols : List ℕ) → Goes (given nodes symbols regions) (λ x. load address t) w₀ o₀ (end_in r w) w o

-- ---- symbols

-- a question of either kind is asked of the symbol of a name
abbrev pub AsksOf : (How → Given) → Symbol → ℕ → Option ℕ → (w o w' o' : List ℕ) → Type 0
AsksOf g AddressOf x y w o w' o' = Asks g address_of x y w o w' o'
AsksOf g SizeOf x y w o w' o' = Asks g size_of x y w o w' o'

-- of the name at node n, whatever the regions are
pub record AsksSymbol (nodes symbols : List ℕ) (kind : Symbol) (n : ℕ) (w o : List ℕ) (r : Option ℕ) (w' o' : List ℕ) : Type 0 where
  pub asks : (regions : List ℕ) → AsksOf (given nodes symbols regions) kind (ref_of nodes n) r w o w' o'

-- a name that is not set, read as a symbol
unfoldable pub symbol_val : Env → ℕ → Act Val
symbol_val E x = ask address_of x (λ symbol. elim symbol [
  | None ↦ done (unknown_val (type_or (E.declared x)))
  | Some a ↦ ask size_of x (λ size. elim (width_in size) [ None ↦ done nothing | Some bits ↦ load a (type bits true) ])
])

-- a name that is not declared, written
unfoldable pub write_symbol : ℕ → Val → Act Val
write_symbol x v = ask address_of x (λ symbol. elim symbol [
  | None ↦ set x v (done v)
  | Some a ↦ ask size_of x (λ size. elim (width_in size) [
    | None ↦ fail (no_width x)
    | Some bits ↦ let c = cast_to v (type bits v.signed) in store_val a c >> done c
  ])
])

pub record WritesSymbol (nodes symbols : List ℕ) (n : ℕ) (v : Val) (w₀ o₀ : List ℕ) (r : Bool) (w o : List ℕ) : Type 0 where
  pub goes : (regions : List ℕ) → Goes (given nodes symbols regions) (λ x. write_symbol (ref_of nodes n) v >>= λ u. done (did_write (ref_of nodes n) u)) w₀ o₀ (told_end r w) w o

-- the variable at node n is written
pub record Writes (nodes symbols : List ℕ) (n : ℕ) (v : Val) (w₀ o₀ : List ℕ) (r : Bool) (w o : List ℕ) : Type 0 where
  pub goes : (regions : List ℕ) (t : Tree) → Stands nodes n t → Goes (given nodes symbols regions) (λ x. assign_val x.env (look x.env t) v) w₀ o₀ (told_end r w) w o

-- it is assigned, if it is declared; else nothing is done
pub record IfDeclared (nodes : List ℕ) (n : ℕ) (v : Val) (w : List ℕ) (r : Bool) (w' : List ℕ) : Type 0 where
  pub yes : r ≡ true → (symbols o : List ℕ) → Writes nodes symbols n v w o true w' o
  pub no : r ≡ false → (None ≡ declared_at (tables w) (ref_of nodes n)) × (w' ≡ w)

-- the address of what is at node n
pub record Addresses (nodes symbols : List ℕ) (n : ℕ) (w₀ o₀ : List ℕ) (r : Bool) (w o : List ℕ) : Type 0 where
  pub goes : (regions : List ℕ) (t : Tree) → Stands nodes n t → Goes (given nodes symbols regions) (λ x. address_val x.env (look x.env t)) w₀ o₀ (end_in r w) w o
