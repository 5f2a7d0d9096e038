-- The bytes of a piece stored group by group. Assumes nothing.
use mathlib.Core.Path.{◌≡◌, refl, sym, ap, ap₂, ◌∙◌}
use mathlib.Core.Bool.{Bool}
use mathlib.Core.List.{List, ◌++◌}
use Prim.Native.Nat.{ℕ, ◌+◌}
use lib.ListN.{length}
use lib.Seq.{sets}
use mir.Val.{bool_byte}
use Rattle.layout.specs.Number.{le, put_number}
use Rattle.layout.proofs.StoreLaws.{sets_append}
use Rattle.std.specs.Prelude.{Option, None, Some, is_some, unwrap_or}
use Rattle.stream.specs.Groups.{flagged_bytes}

-- two groups of bytes, one behind the other
pub two_stored : (xs ys s t u : List ℕ) (i j : ℕ) → t ≡ sets s i xs → u ≡ sets t j ys → j ≡ i + length xs → u ≡ sets s i (xs ++ ys)
two_stored xs ys s t u i j p q e =
    q ∙ ap (λ (k : ℕ). sets t k ys) e ∙ ap (λ (l : List ℕ). sets l (i + length xs) ys) p ∙ sym (sets_append xs ys s i)

-- a number that may be none
flagged_lem : (o : Option ℕ) → le 1 (bool_byte (is_some o)) ++ le 8 (unwrap_or o 0) ≡ flagged_bytes o
unfolding flagged_bytes
flagged_lem None = refl
flagged_lem (Some n) = refl

pub flagged_stored : (s t u : List ℕ) (at : ℕ) (o : Option ℕ) (b : Bool) (n : ℕ) → b ≡ is_some o → n ≡ unwrap_or o 0
    → t ≡ put_number s at 1 (bool_byte b) → u ≡ put_number t (at + 1) 8 n → u ≡ sets s at (flagged_bytes o)
unfolding put_number
flagged_stored s t u at o b n f e p q =
    two_stored (le 1 (bool_byte b)) (le 8 n) s t u at (at + 1) p q refl
    ∙ ap₂ (λ (c : Bool) (m : ℕ). sets s at (le 1 (bool_byte c) ++ le 8 m)) f e
    ∙ ap (sets s at) (flagged_lem o)

-- a number stored by one store of k bytes
pub low_stored : (s t : List ℕ) (at k count v : ℕ) → count ≡ k → t ≡ put_number s at k v → t ≡ sets s at (le count v)
unfolding put_number
low_stored s t at k count v e p = p ∙ ap (λ (n : ℕ). sets s at (le n v)) (sym e)
