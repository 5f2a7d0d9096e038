-- Numbers as Rust's `format!` prints them. Assumes nothing.
use Rattle.std.specs.Prelude.{true, false, List, [], ◌∷◌, ◌++◌, ℕ, zero, suc, ◌+◌, ◌-◌, ◌/◌, ◌%◌, length, replicate, ltb}
use Rattle.layout.specs.Text.{text}

-- the character of a digit from 0 to 15
abbrev pub digit : ℕ → ℕ
digit d = elim (ltb d 10) [ true ↦ 48 + d | false ↦ 87 + d ]

-- the digits of a number in a base, at most as many as the first number says: 64 are enough for a number below 2 ^ 64
unfoldable pub digits : ℕ → ℕ → ℕ → List ℕ
digits zero base n = []
digits (suc k) base n = elim (ltb n base) [ true ↦ digit n ∷ [] | false ↦ digits k base (n / base) ++ (digit (n % base) ∷ []) ]

-- `{}` and `{:#x}`
abbrev pub decimal : ℕ → List ℕ
decimal n = digits 64 10 n

abbrev pub hexadecimal : ℕ → List ℕ
hexadecimal n = text "0x" ++ digits 64 16 n

-- `{:08x}`
abbrev pub padded : List ℕ → List ℕ
padded ds = replicate (8 - length ds) 48 ++ ds
