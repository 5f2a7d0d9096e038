-- The bytes of two numbers side by side. Assumes nothing.
use mathlib.Core.Path.{◌≡◌, sym, ap, ap₂, subst₂, ◌∙◌}
use mathlib.Core.List.{List, ◌++◌}
use Prim.Native.Nat.{ℕ, zero, suc, ◌+◌, ◌*◌, ◌/◌, ◌^◌, ◌≤◌, ◌<◌}
use native.Mathlib.Nat.{mod-lt}
use native.Mathlib.Omega.{arith}
use lib.Dec.{lit<}
use lib.ListN.{length, take, drop, length-drop, length-append}
use lib.Seq.{length-take-le}
use Rattle.layout.specs.Each.{Bytes}
use Rattle.layout.specs.Number.{le, num, number_at}
use Rattle.layout.proofs.NumberLaws.{length_le, num_le, num_lt, le_num, num_append}
use Rattle.layout.proofs.StoreLaws.{each_take, each_drop, all_append}

-- ---- side by side

le_bytes : (k n : ℕ) → Bytes (le k n)
le_bytes zero n = tt
le_bytes (suc k) n = (mod-lt n (lit< tt), le_bytes k (n / 256))

module _ (j k m n : ℕ) (h : m < 256 ^ j) (g : n < 256 ^ k) where
  joined : num (le j m ++ le k n) ≡ m + 256 ^ j * n
  joined =
      num_append (le j m) (le k n) ∙ ap (λ (l : ℕ). num (le j m) + 256 ^ l * num (le k n)) (length_le j m)
      ∙ ap₂ (λ (x y : ℕ). x + 256 ^ j * y) (num_le j m h) (num_le k n g)

  both : length (le j m ++ le k n) ≡ j + k
  both = length-append (le j m) (le k n) ∙ ap₂ (λ (x y : ℕ). x + y) (length_le j m) (length_le k n)

  -- the bytes of a number above another
  pub le_join : le (j + k) (m + 256 ^ j * n) ≡ le j m ++ le k n
  le_join = ap (le (j + k)) (sym joined) ∙ le_num (j + k) (le j m ++ le k n) both (all_append (λ b. b < 256) (le j m) (le k n) (le_bytes j m) (le_bytes k n))

  pub join_small : m + 256 ^ j * n < 256 ^ (j + k)
  join_small = subst₂ (λ (x l : ℕ). x < 256 ^ l) joined both (num_lt (le j m ++ le k n))

-- bytes read as a number and written again
pub le_read : (s : List ℕ) (i k : ℕ) → Bytes s → i + k ≤ length s → le k (number_at s i k) ≡ take k (drop i s)
unfolding number_at
le_read s i k bytes h = le_num k (take k (drop i s)) (length-take-le k (drop i s) (rw length-drop (omega arith))) (each_take k (drop i s) (each_drop i s bytes))
