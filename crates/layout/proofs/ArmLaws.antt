-- What the last arm of a `match` on a number is told, where the other arms are the numbers below one. Assumes nothing.
use mathlib.Core.Path.{◌≡◌}
use Prim.Native.Nat.{ℕ, zero, suc, ◌≤◌}
use native.Mathlib.Omega.{arith}

-- k is none of the numbers below n
abbrev pub NoneBelow : ℕ → ℕ → Type 0
NoneBelow zero k = Unit {0}
NoneBelow (suc n) k = NoneBelow n k × (k ≡ n → ⊥)

pub none_below : (n k : ℕ) → NoneBelow n k → n ≤ k
none_below zero k h = omega arith
none_below (suc n) k h = let l = none_below n k h.0 in let d = h.1 in omega (arith, l, d)
