-- How values are written as bytes and read back: a number of k bytes, a flag, one thing after another, a counted list, all that a body holds.
-- `read` is total: what it gives on bytes that nothing wrote does not matter. Assumes nothing.
use Rattle.std.specs.Prelude.{Bool, true, false, List, [], ◌∷◌, ◌++◌, ℕ, zero, suc, length, take, drop}
use Rattle.layout.specs.Number.{le, num}

pub record Format (A : Type 0) : Type 0 where
  pub write : A → List ℕ
  pub read : List ℕ → A × List ℕ

abbrev pub number : ℕ → Format ℕ
number k = record { write = le k; read = λ bs. (num (take k bs), drop k bs) }

abbrev pub then : {A : Type 0} {B : A → Type 0} → Format A → ((a : A) → Format (B a)) → Format ((a : A) × B a)
then F G = record {
  write = λ p. F.write p.0 ++ (G p.0).write p.1;
  read = λ bs. let r = F.read bs in let s = (G r.0).read r.1 in ((r.0, s.0), s.1);
}

abbrev pub pair : {A B : Type 0} → Format A → Format B → Format (A × B)
pair F G = then F (λ _. G)

-- the same bytes for another type
abbrev pub via : {A B : Type 0} → (B → A) → (A → B) → Format A → Format B
via from to F = record { write = λ b. F.write (from b); read = λ bs. let r = F.read bs in (to r.0, r.1) }

abbrev pub writes : {A : Type 0} → Format A → List A → List ℕ
writes F [] = []
writes F (x ∷ xs) = F.write x ++ writes F xs

abbrev pub reads : {A : Type 0} → Format A → ℕ → List ℕ → List A × List ℕ
reads F zero bs = ([], bs)
reads F (suc n) bs = let r = F.read bs in let q = reads F n r.1 in (r.0 ∷ q.0, q.1)

-- so many, one after another
abbrev pub times : {A : Type 0} → ℕ → Format A → Format (List A)
times n F = record { write = writes F; read = reads F n }

-- a count in k bytes, then so many
abbrev pub counted : {A : Type 0} → ℕ → Format A → Format (List A)
counted k F = record {
  write = λ xs. le k (length xs) ++ writes F xs;
  read = λ bs. reads F (num (take k bs)) (drop k bs);
}

-- all that a body holds: the first number bounds how many
abbrev pub every : {A : Type 0} → Format A → ℕ → List ℕ → List A
every F zero bs = []
every F (suc n) [] = []
every F (suc n) (b ∷ bs) = let r = F.read (b ∷ bs) in r.0 ∷ every F n r.1

abbrev pub whole : {A : Type 0} → Format A → List ℕ → List A
whole F bs = every F (length bs) bs

abbrev pub flag_of : Bool → ℕ
flag_of false = 0
flag_of true = 1

abbrev pub bool_of : ℕ → Bool
bool_of zero = false
bool_of (suc n) = true

abbrev pub flag : Format Bool
flag = via flag_of bool_of (number 1)
