-- What the code that walks a routine's blocks knows of them, and what is told of the routine beside its bodies. Assumes nothing.
use Rattle.std.specs.Prelude.{◌≡◌, List, ℕ, ◌+◌, ◌*◌, ◌<◌, ◌≤◌, length, get_or, eqb, Bool, false, Option, None, Some}
use Rattle.value.specs.declared.Ty.{Ty}
use Rattle.value.specs.declared.Val.{Val}
use Rattle.value.specs.Value.{cast_to}
use Rattle.layout.specs.Number.{number_at}
use Rattle.layout.specs.Text.{text, same}
use Rattle.files.specs.Program.{Program, tree_at, blocks_from}
use Rattle.definition.specs.Statements.{name_of, returned_as}
use Rattle.index.specs.Blocks.{BlocksIndexed, block_start, block_first}
use Rattle.hosting.specs.declared.Facts.{Facts}
use Rattle.hosting.specs.Stands.{Stands}

-- the part is the index of the blocks; each has its statements, and each root is a tree
pub record Rooted (nodes statements blocks part : List ℕ) (count : ℕ) : Type 0 where
  pub indexed : BlocksIndexed blocks part count
  pub dealt : (k : ℕ) → k < count → (block_first blocks k + number_at blocks (block_start blocks k) 2) * 13 ≤ length statements
  pub roots : (k : ℕ) → k * 13 + 13 ≤ length statements → let n = number_at statements (k * 13 + 9) 4 in Stands nodes n (tree_at nodes n)
  pub ends : (k : ℕ) → k < count → 2 ≤ get_or blocks (block_start blocks k + 2) 0 → let n = number_at blocks (block_start blocks k + 12) 4 in Stands nodes n (tree_at nodes n)

-- a value that is returned
abbrev pub returns_as : Option Ty → Val → Val
returns_as (Some t) v = cast_to v t
returns_as None v = v

-- whether a name is one that a routine may have
abbrev pub is_name : Option ℕ → ℕ → Bool
is_name None x = false
is_name (Some n) x = eqb x n

-- the facts are those of a program: what it does with a value that it returns, and the numbers of the two names by which an Intrinsic ends a run
pub record Named (f : Facts) (P : Program) : Type 0 where
  pub returned : (v : Val) → returned_as P v ≡ returns_as f.returns v
  pub unreachable : (x : ℕ) → x < 65536 → same (name_of P x) (text "__builtin_unreachable") ≡ is_name f.unreachable x
  pub halted : (x : ℕ) → x < 65536 → same (name_of P x) (text "__analysis_halted") ≡ is_name f.halted x

-- and the bodies are
pub record Told (nodes statements blocks : List ℕ) (f : Facts) (P : Program) : Type 0 where
  pub spelled : P.blocks ≡ blocks_from (length blocks) nodes statements blocks 0 0
  pub named : Named f P
