-- A body that is items back to back to its end, read from a place with a state. 0 says that the body is refused. Assumes nothing.
use Rattle.std.specs.Prelude.{Bool, true, cond, ◌&&◌, ℕ, zero, suc, ◌+◌, leb}

-- item: the length of the item at a place, 0 where it is not as it must be. next: the state past that item. last: what the body's end gives
pub record Items (S : Type 0) : Type 0 where
  pub item : S → ℕ → ℕ
  pub next : S → ℕ → ℕ → S
  pub last : S → ℕ

-- past an item of a length: on, unless there is none
abbrev pub past : {S : Type 0} → Items S → (S → ℕ → ℕ) → S → ℕ → ℕ → ℕ
past R on s i zero = 0
past R on s i (suc k) = on (R.next s i (suc k)) (i + suc k)

-- at most f items from place i, to the end e
unfoldable pub reading : {S : Type 0} → Items S → ℕ → ℕ → S → ℕ → ℕ
reading R e zero s i = 0
reading R e (suc f) s i = cond (leb e i) (R.last s) (past R (reading R e f) s i (R.item s i))

-- a body of e bytes has at most e items
unfoldable pub read_from : {S : Type 0} → Items S → ℕ → S → ℕ → ℕ
read_from R e s i = reading R e (suc e) s i

-- what holds of each number below n
unfoldable pub every : ℕ → (ℕ → Bool) → Bool
every zero P = true
every (suc n) P = every n P && P n
