-- Numbers in bytes: "Integers are little-endian". Assumes nothing.
use Rattle.std.specs.Prelude.{List, [], ◌∷◌, ℕ, zero, suc, ◌+◌, ◌*◌, ◌/◌, ◌%◌, take, drop}
use Rattle.std.proofs.lemmas.List.Edits.{sets}

-- a number in k bytes, the lowest first
abbrev pub le : ℕ → ℕ → List ℕ
le zero n = []
le (suc k) n = n % 256 ∷ le k (n / 256)

-- the number that bytes are
abbrev pub num : List ℕ → ℕ
num [] = 0
num (b ∷ bs) = b % 256 + 256 * num bs

-- the number of k bytes at index i; what lies past the end counts as 0
unfoldable pub number_at : List ℕ → ℕ → ℕ → ℕ
number_at s i k = num (take k (drop i s))

-- the list with a number stored in k bytes from index i on
unfoldable pub put_number : List ℕ → ℕ → ℕ → ℕ → List ℕ
put_number s i k n = sets s i (le k n)

-- the bytes that two numbers of k bytes at index i tell of: where they start, and how many they are
unfoldable pub located : List ℕ → ℕ → ℕ → List ℕ
located s i k = take (number_at s (i + k) k) (drop (number_at s i k) s)
