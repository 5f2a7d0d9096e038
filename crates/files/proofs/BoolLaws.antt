-- Tests joined by `&&`, and tests as numbers. Assumes nothing.
use mathlib.Core.Path.{◌≡◌, refl, sym, ap}
use mathlib.Core.Bool.{Bool, true, false, ◌&&◌}
use mathlib.Core.List.{List, [], ◌∷◌}
use Prim.Native.Nat.{ℕ, ◌+◌}
use native.Mathlib.Omega.{arith}
use lib.Dec.{leb}
use Rattle.files.specs.Bytes.{only}
use borrow.Author.Tests.{le-leb}
use Rattle.std.proofs.lemmas.Bool.{and_parts}

abbrev pub AllTrue : List Bool → Type 0
AllTrue [] = Unit {0}
AllTrue (t ∷ ts) = (t ≡ true) × AllTrue ts

-- t && t₁ && t₂ ..
abbrev pub joined : Bool → List Bool → Bool
joined t [] = t
joined t (u ∷ us) = joined (t && u) us

-- where they hold together each one holds
pub each_true : (t : Bool) (ts : List Bool) → joined t ts ≡ true → AllTrue (t ∷ ts)
each_true t [] e = (e, tt)
each_true t (u ∷ us) e = let r = each_true (t && u) us e in let b = and_parts t u r.0 in (b.0, (b.1, r.1))

-- a length that a test let stand
pub only_there : (t : Bool) (v : ℕ) → (only t v ≡ 0 → ⊥) → (t ≡ true) × (only t v ≡ v)
only_there true v h = (refl, refl)
only_there false v h = absurd (h refl)

-- a test as 1 or 0, and back
pub only_one : (t : Bool) (n : ℕ) → only t 1 ≡ n → t ≡ leb 1 n
only_one true n e = ap (leb 1) e
only_one false n e = ap (leb 1) e

-- 1 more than a count is no 0
pub counts : (k n : ℕ) → k + 1 ≡ n → true ≡ leb 1 n
counts k n e = sym (le-leb 1 n (omega arith))
