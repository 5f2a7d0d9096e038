-- What holds of every element of a list. Assumes nothing.
use Rattle.std.specs.Prelude.{List, [], ◌∷◌, ℕ, ◌<◌}

abbrev pub Each {ℓ} : {A : Type 0} → (A → Type ℓ) → List A → Type ℓ
Each P [] = Unit
Each P (x ∷ xs) = P x × Each P xs

-- each number of the list is a byte
abbrev pub Bytes : List ℕ → Type 0
Bytes s = Each (λ b. b < 256) s
