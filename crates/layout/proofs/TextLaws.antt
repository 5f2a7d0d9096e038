-- When two texts have the same bytes, as `==` compares slices. Assumes nothing.
use mathlib.Core.Path.{◌≡◌, refl, ap}
use mathlib.Core.Bool.{Bool, ◌&&◌}
use mathlib.Core.List.{List, [], ◌∷◌}
use Prim.Native.Nat.{ℕ}
use lib.Dec.{eqb}
use Rattle.std.specs.Cmp.Lexicographic.{pointwise}
use Rattle.layout.specs.Text.{same}

pub slices_same : (a b : List ℕ) → pointwise eqb a b ≡ same a b
slices_same [] [] = refl
slices_same [] (y ∷ ys) = refl
slices_same (x ∷ xs) [] = refl
slices_same (x ∷ xs) (y ∷ ys) = ap (λ (b : Bool). eqb x y && b) (slices_same xs ys)
