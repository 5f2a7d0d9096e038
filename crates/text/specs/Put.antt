-- Text put into a lent buffer. Assumes nothing.
use Rattle.std.specs.Prelude.{◌≡◌, List, [], ◌∷◌, ◌++◌, ℕ, zero, suc, ◌+◌, ◌/◌, ◌%◌, length}
use Rattle.std.proofs.lemmas.List.Edits.{sets}
use Rattle.definition.specs.Numerals.{digit}

-- the buffer s became t by the text x at a place, which ends at r
pub record Put (s : List ℕ) (at : ℕ) (x t : List ℕ) (r : ℕ) : Type 0 where
  pub same : t ≡ sets s at x
  pub end : r ≡ at + length x
  pub room : length t ≡ length s

-- the last digits of a number, so many: zeros in front where it has fewer
unfoldable pub last_digits : ℕ → ℕ → ℕ → List ℕ
last_digits zero base n = []
last_digits (suc k) base n = last_digits k base (n / base) ++ (digit (n % base) ∷ [])
