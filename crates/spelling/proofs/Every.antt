-- A property of every type of 8, 16, 32 or 64 bits, and of _Bool, is one of every type that a spelling names. Assumes nothing.
use Rattle.std.proofs.Common.{◌≡◌, refl, Bool, true, false, not, List, [], ◌∷◌, ℕ, ◌%◌, ◌<◌, ◌≤◌, arith}
use Rattle.value.specs.declared.Ty.{Ty}
use Rattle.value.specs.Value.{type, bool_type, plain}
use Rattle.value.proofs.Pick.{either}
use Rattle.spelling.specs.Spelling.{is, is_bool, is_wide_unsigned, is_wide_signed, is_short_int, signed_word, unsigned_word, alone, two, named, pieces, any_sign, any_unsigned, base_of, beside, ends_star, type_of}

-- of whole bytes, at most 64 bits
abbrev pub Sized : (Ty → Type 0) → Type 0
Sized P = (bits : ℕ) (signed : Bool) → bits % 8 ≡ 0 → 0 < bits → bits ≤ 64 → P (type bits signed)

module _ (P : Ty → Type 0) (bool : P bool_type) (sized : Sized P) where
  -- with a word of sign beside it, too
  abbrev Q : Ty → Type 0
  Q t = P t × P (plain t)

  q8 : (s : Bool) → Q (type 8 s)
  q8 s = let p = sized 8 s refl (omega arith) (omega arith) in (p, p)

  q16 : (s : Bool) → Q (type 16 s)
  q16 s = let p = sized 16 s refl (omega arith) (omega arith) in (p, p)

  q32 : (s : Bool) → Q (type 32 s)
  q32 s = let p = sized 32 s refl (omega arith) (omega arith) in (p, p)

  q64 : (s : Bool) → Q (type 64 s)
  q64 s = let p = sized 64 s refl (omega arith) (omega arith) in (p, p)

  module _ (u : Bool) where
    of_signed : (w : List ℕ) → Q (signed_word u w)
    unfolding signed_word
    of_signed w = either Q (is w "int8_t") (q8 true) (either Q (is w "int16_t") (q16 true) (either Q (is w "int32_t") (q32 true) (either Q (is_wide_signed w) (q64 true) (q64 (not u)))))

    of_unsigned : (w : List ℕ) → Q (unsigned_word u w)
    unfolding unsigned_word
    of_unsigned w =
        either Q (is w "uint8_t") (q8 false) (either Q (is w "uint16_t") (q16 false) (either Q (is w "uint32_t") (q32 false) (either Q (is_wide_unsigned w) (q64 false) (of_signed w))))

    of_alone : (w : List ℕ) → Q (alone u w)
    unfolding alone
    of_alone w =
        either Q (is_bool w) (bool, (q8 false).0) (either Q (is w "char") (q8 (not u)) (either Q (is w "short") (q16 (not u)) (either Q (is w "int") (q32 (not u)) (of_unsigned w))))

    of_named : (ws : List (List ℕ)) → Q (named u ws)
    unfolding two
    of_named [] = q32 (not u)
    of_named (w ∷ []) = of_alone w
    of_named (v ∷ w ∷ []) = either Q (is_short_int v w) (q16 (not u)) (q64 (not u))
    of_named (v ∷ w ∷ x ∷ ws) = q64 (not u)

  of_beside : (sign : Bool) {t : Ty} → Q t → P (beside sign t)
  of_beside true q = q.1
  of_beside false q = q.0

  pub every : (s : List ℕ) → P (type_of s)
  unfolding type_of
  every s = either P (ends_star s) (q64 false).0 (of_beside (any_sign (pieces s)) (of_named (any_unsigned (pieces s)) (base_of (pieces s))))
