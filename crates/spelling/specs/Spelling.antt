-- The type that a spelling names. A spelling is a list of bytes, and of its bytes only the space is white.
-- Assumes nothing.
use Rattle.std.specs.Prelude.{◌≡◌, ℕ, ◌<◌, Bool, true, false, cond, not, ◌&&◌, ◌||◌, List, [], ◌∷◌, reverse, eqb, ◌==◌, length, take, Option, Some, None}
use Rattle.std.specs.List.{slice_split, list_any, filter}
use Prim.Native.String.{String}
use Rattle.layout.specs.Text.{text, same}
use Rattle.value.specs.declared.Ty.{Ty}
use Rattle.value.specs.Value.{type, bool_type, plain}

-- ---- words

-- Whether a word is the one of a text.
unfoldable pub is : List ℕ → String → Bool
is w word = same w (text word)

-- What stands between the spaces. An empty piece is no word.
abbrev pub pieces : List ℕ → List (List ℕ)
pieces s = slice_split (λ c. c == 32) s

-- Whether a word is one of the pieces.
abbrev pub any_is : List ℕ → List (List ℕ) → Bool
any_is word ws = list_any (λ w. same w word) ws

abbrev pub any_unsigned : List (List ℕ) → Bool
any_unsigned ws = any_is (text "unsigned") ws

abbrev pub any_sign : List (List ℕ) → Bool
any_sign ws = any_unsigned ws || any_is (text "signed") ws

-- The words that name a base type: all but the qualifiers and the two words of sign.
unfoldable pub dropped : List ℕ → Bool
dropped w = is w "" || is w "const" || is w "volatile" || is w "unsigned" || is w "signed"

abbrev pub base_of : List (List ℕ) → List (List ℕ)
base_of ws = filter (λ w. not (dropped w)) ws

-- ---- the types

abbrev pub is_bool : List ℕ → Bool
is_bool w = is w "_Bool" || is w "bool"

abbrev pub is_wide_unsigned : List ℕ → Bool
is_wide_unsigned w = is w "size_t" || is w "uintptr_t" || is w "uint64_t"

abbrev pub is_wide_signed : List ℕ → Bool
is_wide_signed w = is w "int64_t" || is w "intptr_t" || is w "ssize_t"

abbrev pub is_short_int : List ℕ → List ℕ → Bool
is_short_int v w = is v "short" && is w "int"

-- A base type of one word; `u` says whether `unsigned` stood beside it. A signed type of a fixed width, or any other word, `long` among them.
unfoldable pub signed_word : Bool → List ℕ → Ty
signed_word u w =
    cond (is w "int8_t") (type 8 true)
    (cond (is w "int16_t") (type 16 true)
    (cond (is w "int32_t") (type 32 true)
    (cond (is_wide_signed w) (type 64 true)
    (type 64 (not u)))))

-- An unsigned type of a fixed width, or what is left.
unfoldable pub unsigned_word : Bool → List ℕ → Ty
unsigned_word u w =
    cond (is w "uint8_t") (type 8 false)
    (cond (is w "uint16_t") (type 16 false)
    (cond (is w "uint32_t") (type 32 false)
    (cond (is_wide_unsigned w) (type 64 false)
    (signed_word u w))))

-- The bits of a signed type of a fixed width, by its name: `u` before it names the unsigned one.
abbrev pub fixed_bits : List ℕ → Option ℕ
fixed_bits w =
    cond (is w "int8_t") (Some 8)
    (cond (is w "int16_t") (Some 16)
    (cond (is w "int32_t") (Some 32)
    (cond (is w "int64_t" || is w "intptr_t") (Some 64)
    None)))

-- A keyword of C, or what is left.
unfoldable pub alone : Bool → List ℕ → Ty
alone u w =
    cond (is_bool w) bool_type
    (cond (is w "char") (type 8 (not u))
    (cond (is w "short") (type 16 (not u))
    (cond (is w "int") (type 32 (not u))
    (unsigned_word u w))))

-- A base type of two words: of these only `short int` has fewer than 64 bits.
unfoldable pub two : Bool → List ℕ → List ℕ → Ty
two u v w = cond (is_short_int v w) (type 16 (not u)) (type 64 (not u))

-- A base type by its words: none is `int`.
abbrev pub named : Bool → List (List ℕ) → Ty
named u [] = type 32 (not u)
named u (w ∷ []) = alone u w
named u (v ∷ w ∷ []) = two u v w
named u (v ∷ w ∷ x ∷ ws) = type 64 (not u)

abbrev pub base_type : List (List ℕ) → Ty
base_type ws = named (any_unsigned ws) (base_of ws)

-- With a word of sign beside it a base type has bits and a sign alone: `unsigned bool` is 8 bits unsigned and nothing more.
abbrev pub beside : Bool → Ty → Ty
beside sign t = cond sign (plain t) t

-- ---- pointers

abbrev pub after_spaces : List ℕ → List ℕ
after_spaces [] = []
after_spaces (c ∷ s) = cond (eqb c 32) (after_spaces s) (c ∷ s)

-- Whether a list begins with a star.
abbrev pub begins_star : List ℕ → Bool
begins_star [] = false
begins_star (c ∷ s) = eqb c 42

abbrev pub rest : List ℕ → List ℕ
rest [] = []
rest (c ∷ s) = s

-- Whether the last byte but spaces is a star, and what stands before it.
abbrev pub ends_star : List ℕ → Bool
ends_star s = begins_star (after_spaces (reverse s))

abbrev pub before_star : List ℕ → List ℕ
before_star s = reverse (rest (after_spaces (reverse s)))

unfoldable pub type_of : List ℕ → Ty
type_of s = cond (ends_star s) (type 64 false) (beside (any_sign (pieces s)) (base_type (pieces s)))

-- What is found of a last star.
pub record StarAt (s : List ℕ) (k : ℕ) : Type 0 where
  pub within : k < length s
  pub ends : ends_star s ≡ true
  pub before : before_star s ≡ take k s

abbrev pub FoundStar : List ℕ → Option ℕ → Type 0
FoundStar s (Some k) = StarAt s k
FoundStar s None = ends_star s ≡ false

-- What a pointer of a spelling points at.
abbrev pub pointee_of : List ℕ → Option Ty
pointee_of s = cond (ends_star s) (Some (type_of (before_star s))) None
