-- Statements and blocks (document 01, "The files"). Assumes nothing.
use Rattle.std.specs.Prelude.{Bool, ◌&&◌, ◌||◌, cond, List, ℕ, ◌+◌, ◌-◌, ◌*◌, ◌/◌, ◌%◌, length, get_or, leb, ltb, eqb}
use Rattle.layout.specs.Number.{number_at}
use Rattle.files.specs.Bytes.{only}
use Rattle.files.specs.Items.{Items, read_from, every}
use Rattle.files.specs.Nodes.{root_ok}

-- "An address flag is 0 or 1, and an address without its flag is 0"
abbrev pub address_ok : ℕ → ℕ → Bool
address_ok flag address = leb flag 1 && (eqb flag 1 || eqb address 0)

-- "Statements: address flag u8, address u64, root u32"
unfoldable pub statement_ok : List ℕ → List ℕ → ℕ → Bool
statement_ok nodes b k = address_ok (get_or b (k * 13) 0) (number_at b (k * 13 + 1) 8) && root_ok nodes (number_at b (k * 13 + 9) 4)

-- 7: whole statements, each as it must be
unfoldable pub statements_ok : List ℕ → List ℕ → Bool
statements_ok nodes b = eqb (length b % 13) 0 && every (length b / 13) (statement_ok nodes b)

-- "terminator u8 (0 Return, 1 Goto, 2 Branch, 3 Switch)", "unused fields are 0 (Return and Goto have no address)":
-- address and root are of Branch and Switch, `taken` of all but Return, `next` of Branch
abbrev pub terminator_ok : ℕ → ℕ → ℕ → ℕ → ℕ → ℕ → Bool → Bool
terminator_ok kind flag address root taken next rooted =
    leb kind 3 && address_ok flag address && (leb 2 kind || eqb flag 0) && (leb 2 kind || eqb root 0) && (ltb kind 2 || rooted)
    && (leb 1 kind || eqb taken 0) && (eqb kind 2 || eqb next 0)

-- "for Switch `taken` cases of i64 and target u32"
abbrev pub cases_of : ℕ → ℕ → ℕ
cases_of kind taken = cond (eqb kind 3) (taken * 12) 0

-- "Blocks: statement count u16, terminator u8, address flag u8, address u64, root u32, taken u32, next u32", then the cases
unfoldable pub block_ok : List ℕ → List ℕ → ℕ → Bool
block_ok nodes b i =
    terminator_ok (get_or b (i + 2) 0) (get_or b (i + 3) 0) (number_at b (i + 4) 8) (number_at b (i + 12) 4) (number_at b (i + 16) 4) (number_at b (i + 20) 4) (root_ok nodes (number_at b (i + 12) 4))

-- the length of the block at byte i, where `left` statements are not dealt yet: its 24 bytes and its cases lie in the body, and it takes no more than are left
unfoldable pub block_at : List ℕ → List ℕ → ℕ → ℕ → ℕ
block_at nodes b left i =
    only (leb 24 (length b - i) && leb (number_at b i 2) left && block_ok nodes b i && leb (cases_of (get_or b (i + 2) 0) (number_at b (i + 16) 4)) (length b - (i + 24))) (cases_of (get_or b (i + 2) 0) (number_at b (i + 16) 4) + 24)

-- "Statements are dealt to blocks in order, none left"
abbrev pub block_items : List ℕ → List ℕ → Items ℕ
block_items nodes b = record { item = block_at nodes b; next = λ left i k. left - number_at b i 2; last = λ left. only (eqb left 0) 1 }

-- 7: 1 for blocks that are as they must be, back to back to the body's end, and take all statements; else 0
unfoldable pub blocks_in : List ℕ → ℕ → List ℕ → ℕ
blocks_in nodes statements b = read_from (block_items nodes b) (length b) statements 0
