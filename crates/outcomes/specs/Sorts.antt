-- What a statement's root is, and that the code tells it. Assumes nothing.
use Rattle.std.specs.Prelude.{◌≡◌, true, false, List, ℕ, ◌+◌, ◌*◌, ◌≤◌, length}
use Rattle.layout.specs.Number.{number_at}
use Rattle.layout.specs.Text.{text}
use Rattle.files.specs.Nodes.{kind_of, span_of}
use Rattle.files.specs.Program.{Program, Tree, tree_at}
use Rattle.files.specs.declared.kinds.Kind.TheVariants.{Return}
use Rattle.definition.specs.Term.{Term, is}
use Rattle.definition.specs.Evaluate.{Env, look}
use Rattle.definition.specs.Statements.{is_named, is_halted}
use Rattle.hosting.specs.declared.Facts.{Facts}
use Rattle.hosting.specs.Stands.{Stands, Fine}
use Rattle.hosting.specs.Routine.{Named}
use Rattle.outcomes.specs.declared.roots.Sort.{Sort}
use Rattle.outcomes.specs.declared.roots.Sort.TheVariants.{Gives, Unreachable, Halts, Plain}

-- each statement's root is a tree
pub record RootsOf (nodes statements : List ℕ) : Type 0 where
  pub roots : (k : ℕ) → k * 13 + 13 ≤ length statements → Stands nodes (number_at statements (k * 13 + 9) 4) (tree_at nodes (number_at statements (k * 13 + 9) 4))

-- in the order of the definition's `outcome`
abbrev pub sort_of : Program → Term → Sort
sort_of P t = elim (is Return t) [
  | true ↦ Gives
  | false ↦ elim (is_named P t (text "__builtin_unreachable")) [
    | true ↦ Unreachable
    | false ↦ elim (is_halted P t) [ true ↦ Halts | false ↦ Plain ]
  ]
]

-- what the code may do next
abbrev pub SortIs : List ℕ → ℕ → Sort → Type 0
SortIs nodes n Gives = kind_of nodes n ≡ 16
SortIs nodes n Unreachable = Unit
SortIs nodes n Halts = (Fine nodes (n + 1)) × (kind_of nodes n ≡ 15) × (span_of nodes n ≡ 2)
SortIs nodes n Plain = Unit

pub record Sorted (nodes : List ℕ) (f : Facts) (n : ℕ) (r : Sort) : Type 0 where
  pub is : (P : Program) → Named f P → (E : Env) (t : Tree) → Stands nodes n t → sort_of P (look E t) ≡ r
  pub here : SortIs nodes n r
