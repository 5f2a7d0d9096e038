-- The index of a body of blocks: for each block, in two bytes each, its place and its first statement. What the fields of a block stand for. Assumes nothing.
use Rattle.std.specs.Prelude.{◌≡◌, List, ℕ, zero, suc, ◌+◌, ◌*◌, ◌≤◌, ◌<◌, length, get_or, Option, MatchOption}
use Rattle.layout.specs.Number.{number_at}
use Rattle.files.specs.Program.{tree_at, listed, statement_at, case_at, terminator_of, returns, goto, branch, switch}
use Rattle.files.specs.Program as program
use Rattle.index.specs.declared.blocks.Place.{Place}
use Rattle.index.specs.declared.blocks.Places.{Places}
use Rattle.index.specs.declared.blocks.Statement.{Statement}
use Rattle.index.specs.declared.blocks.Terminator.{Terminator}
use Rattle.index.specs.declared.blocks.Terminator.TheVariants.{Return, Goto, Branch, Switch}
use Rattle.index.specs.Places.{place_from, block_size}

-- the bytes of the index: four for each of at most 2,730 blocks
abbrev pub blocks_room : ℕ
blocks_room = 10920

-- ---- where block k starts, and which is its first statement: "Statements are dealt to blocks in order"

unfoldable pub block_start : List ℕ → ℕ → ℕ
block_start b k = place_from (block_size b) 0 k

-- the same, where the block at place i has the first statement `first`
unfoldable pub first_from : List ℕ → ℕ → ℕ → ℕ → ℕ
first_from b i first zero = first
first_from b i first (suc k) = first_from b (i + block_size b i) (first + number_at b i 2) k

unfoldable pub block_first : List ℕ → ℕ → ℕ
block_first b k = first_from b 0 0 k

-- ---- the index

-- the block at a place is in the body, with its cases, and has one of the four terminators
pub record BlockInside (b : List ℕ) (i : ℕ) : Type 0 where
  pub inside : i + block_size b i ≤ length b
  pub kind : get_or b (i + 2) 0 ≤ 3

-- the blocks of an accepted body fill it, and number at most as many statements as there can be
pub record Blocks (b : List ℕ) : Type 0 where
  pub inside : (k : ℕ) → block_start b k < length b → BlockInside b (block_start b k)
  pub dealt : (k : ℕ) → block_start b k < length b → block_first b k < 65536
  pub short : length b < 65536

-- a place is that of a block of an accepted body, or the end
pub record Stands (b : List ℕ) (p : Place) : Type 0 where
  pub blocks : Blocks b
  pub number : ℕ
  pub start : p.start ≡ block_start b number
  pub first : p.first ≡ block_first b number
  pub most : p.start ≤ length b

-- a step from s gave the place where that stood and left those past that block, or found none left
abbrev pub Steps : Places → Option Place → Places → Type 0
Steps s r t = MatchOption r (length s.blocks.now ≤ s.next.start)
    (λ p. (p ≡ s.next) × (s.next.start < length s.blocks.now) × (t.next.start ≡ s.next.start + block_size s.blocks.now s.next.start)
    × (t.next.first ≡ s.next.first + number_at s.blocks.now s.next.start 2) × (t.blocks ≡ s.blocks))

-- the part tells of each of the body's n blocks where it starts and which is its first statement
pub record BlocksIndexed (b part : List ℕ) (n : ℕ) : Type 0 where
  pub blocks : Blocks b
  pub full : block_start b n ≡ length b
  pub room : n * 4 ≤ length part
  pub starts : (k : ℕ) → k < n → number_at part (k * 4) 2 ≡ block_start b k
  pub firsts : (k : ℕ) → k < n → number_at part (k * 4 + 2) 2 ≡ block_first b k

-- the entry of a block can be read
pub record BlockTold (part : List ℕ) (k : ℕ) : Type 0 where
  pub room : k * 4 + 4 ≤ length part

-- a place is block k's
pub record PlaceIn (b : List ℕ) (k : ℕ) (p : Place) : Type 0 where
  pub start : p.start ≡ block_start b k
  pub first : p.first ≡ block_first b k
  pub inside : BlockInside b p.start

-- the same in whatever body the part is the index of
pub record Placed (part : List ℕ) (k : ℕ) (p : Place) : Type 0 where
  pub is : (b : List ℕ) (n : ℕ) → BlocksIndexed b part n → k < n → PlaceIn b k p

-- ---- what is read of a block

-- a terminator that the code gives, of the block at place i
abbrev pub terminator_as : List ℕ → List ℕ → ℕ → Terminator → program.Terminator
terminator_as nodes b i Return = returns
terminator_as nodes b i (Goto target) = goto target
terminator_as nodes b i (Branch address root taken next) = branch address (tree_at nodes root) taken next
terminator_as nodes b i (Switch address root count) = switch address (tree_at nodes root) (listed (case_at b (i + 24)) 0 count)

abbrev pub cases_in : Terminator → ℕ
cases_in Return = 0
cases_in (Goto target) = 0
cases_in (Branch address root taken next) = 0
cases_in (Switch address root count) = count

-- it is the block's, and a Switch has its cases in the body
pub record Ends (b : List ℕ) (i : ℕ) (t : Terminator) : Type 0 where
  pub is : (nodes : List ℕ) → terminator_of nodes b i (get_or b (i + 2) 0) ≡ terminator_as nodes b i t
  pub inside : i + 24 + cases_in t * 12 ≤ length b

-- a statement that the code gives is statement k
pub record States (b : List ℕ) (k : ℕ) (s : Statement) : Type 0 where
  pub address : (nodes : List ℕ) → (statement_at nodes b k).address ≡ s.address
  pub root : (nodes : List ℕ) → (statement_at nodes b k).root ≡ tree_at nodes s.root
  pub node : s.root ≡ number_at b (k * 13 + 9) 4
