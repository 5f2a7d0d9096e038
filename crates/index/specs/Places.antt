-- Items that stand back to back in a body, each as long as its own bytes say: where item k starts. Assumes nothing.
use Rattle.std.specs.Prelude.{List, ℕ, zero, suc, ◌+◌, get_or}
use Rattle.layout.specs.Number.{number_at}
use Rattle.files.specs.Blocks.{cases_of}

-- where the item k past the one at place i starts
unfoldable pub place_from : (ℕ → ℕ) → ℕ → ℕ → ℕ
place_from size i zero = i
place_from size i (suc k) = place_from size (i + size i) k

-- "length u8, bytes", for names and for types
abbrev pub text_size : List ℕ → ℕ → ℕ
text_size b i = number_at b i 1 + 1

-- "address u64, length u32 from 1, bytes"
abbrev pub region_size : List ℕ → ℕ → ℕ
region_size b i = number_at b (i + 8) 4 + 12

-- a block's 24 bytes, "then for Switch `taken` cases"
abbrev pub block_size : List ℕ → ℕ → ℕ
block_size b i = cases_of (get_or b (i + 2) 0) (number_at b (i + 16) 4) + 24
