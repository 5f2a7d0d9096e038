-- The starred cases of document 01, as one table with one theorem.
-- Assumes nothing.
use Rattle.std.specs.Prelude.{ℕ, ◌≡◌, refl, true, false, List, [], ◌∷◌, Ok}
use Prim.Native.String.{String}
use Rattle.layout.specs.Text.{text}
use Rattle.value.specs.declared.Ty.{Ty}
use Rattle.value.specs.declared.Val.{Val}
use Rattle.value.specs.declared.BinaryOp.{BinaryOp}
use Rattle.value.specs.declared.BinaryOp.TheVariants.{Add, Div, Mod, Shl, Shr, Less, LogicalAnd}
use Rattle.value.specs.Value.{type, known_val, unknown_val}
use Rattle.value.specs.Operators.{binary_of, operands_of, arithmetic, division, order, compared, truth, shift}
use Rattle.spelling.specs.Spelling.{type_of, is, dropped, alone, two}

-- (number, width, u or s)
abbrev pub u : ℕ → ℕ → Val
u n bits = known_val n (type bits false)

abbrev pub s : ℕ → ℕ → Val
s n bits = known_val n (type bits true)

-- a case: what is computed, and what the document says
pub data Case : Type 0 where
  operator : Val → BinaryOp → Val → Val → Case
  spelling : String → Ty → Case

abbrev pub Holds : Case → Type 0
Holds (operator l op r v) = binary_of op l r ≡ Ok v
Holds (spelling spelled t) = type_of (text spelled) ≡ t

abbrev pub All : List Case → Type 0
All [] = Unit {0}
All (c ∷ cs) = Holds c × All cs

unfoldable pub starred : List Case
starred =
    operator (u 100 8) Add (s 200 8) (u 44 8)
    ∷ operator (s 255 8) Add (u 1 32) (u 0 32)
    ∷ operator (u 255 8) Add (s 1 32) (s 256 32)
    ∷ operator (u 1 24) Shl (u 8 24) (u 1 24)
    ∷ operator (u 1 32) Shl (u 33 32) (u 2 32)
    ∷ operator (s 128 8) Shr (u 1 8) (s 192 8)
    ∷ operator (s 128 8) Div (s 255 8) (s 128 8)
    ∷ operator (s 249 8) Mod (s 2 8) (s 255 8)
    ∷ operator (s 255 8) Less (u 1 8) (u 0 8)
    ∷ operator (unknown_val (type 32 true)) LogicalAnd (u 0 8) (unknown_val (type 8 true))
    ∷ spelling "unsigned" (type 32 false)
    ∷ spelling "char *const" (type 64 true)
    ∷ spelling "int short" (type 64 true)
    ∷ []

pub the_starred_cases : All starred
unfolding starred binary_of type_of operands_of arithmetic division order compared truth shift is dropped alone two
the_starred_cases = (refl, (refl, (refl, (refl, (refl, (refl, (refl, (refl, (refl, (refl, (refl, (refl, (refl, tt)))))))))))))
