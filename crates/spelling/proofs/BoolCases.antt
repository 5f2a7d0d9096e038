-- Conversions by cases: values of every width, of both signs, and what is unknown, converted to bool under its spellings, and to types that are near and are none.
-- `oracle/tests/examples.rs` holds each row to a second reading of ISO C 6.3.1.2 and 6.3.1.3. Assumes nothing.
use Rattle.std.specs.Prelude.{ℕ, ◌≡◌, refl, true, false, List, [], ◌∷◌, map}
use Prim.Native.String.{String}
use Rattle.layout.specs.Text.{text}
use Rattle.value.specs.declared.Ty.{Ty}
use Rattle.value.specs.declared.Val.{Val}
use Rattle.value.specs.Value.{type, known_val, unknown_val, cast_to}
use Rattle.spelling.specs.Spelling.{type_of, is, dropped, signed_word, unsigned_word, alone, two}

abbrev pub u : ℕ → Ty
u bits = type bits false

abbrev pub s : ℕ → Ty
s bits = type bits true

-- the type that is converted, a spelling, the type that a value of it has, numbers, and what they become
pub data Row : Type 0 where
  row : Ty → String → Ty → List ℕ → List ℕ → Row

-- what comes of an unknown value and of the numbers
abbrev pub converted : Row → List Val
converted (row from spelling to ns rs) = map (λ v. cast_to v (type_of (text spelling))) (unknown_val from ∷ map (λ n. known_val n from) ns)

abbrev pub expected : Row → List Val
expected (row from spelling to ns rs) = unknown_val to ∷ map (λ r. known_val r to) rs

unfoldable pub bools : List Row
bools =
    row (u 8) "bool" (u 8) (0 ∷ 1 ∷ 2 ∷ 128 ∷ 240 ∷ 255 ∷ []) (0 ∷ 1 ∷ 1 ∷ 1 ∷ 1 ∷ 1 ∷ [])
    ∷ row (u 8) "_Bool" (u 8) (0 ∷ 1 ∷ 2 ∷ 128 ∷ 240 ∷ 255 ∷ []) (0 ∷ 1 ∷ 1 ∷ 1 ∷ 1 ∷ 1 ∷ [])
    ∷ row (s 8) "const bool" (u 8) (0 ∷ 1 ∷ 2 ∷ 128 ∷ 240 ∷ 255 ∷ []) (0 ∷ 1 ∷ 1 ∷ 1 ∷ 1 ∷ 1 ∷ [])
    ∷ row (s 8) "bool const" (u 8) (0 ∷ 1 ∷ 2 ∷ 128 ∷ 240 ∷ 255 ∷ []) (0 ∷ 1 ∷ 1 ∷ 1 ∷ 1 ∷ 1 ∷ [])
    ∷ row (u 16) "volatile _Bool" (u 8) (0 ∷ 1 ∷ 256 ∷ 32768 ∷ 65280 ∷ 65535 ∷ []) (0 ∷ 1 ∷ 1 ∷ 1 ∷ 1 ∷ 1 ∷ [])
    ∷ row (u 16) "_Bool volatile" (u 8) (0 ∷ 1 ∷ 256 ∷ 32768 ∷ 65280 ∷ 65535 ∷ []) (0 ∷ 1 ∷ 1 ∷ 1 ∷ 1 ∷ 1 ∷ [])
    ∷ row (s 16) "const volatile bool" (u 8) (0 ∷ 1 ∷ 256 ∷ 32768 ∷ 65280 ∷ 65535 ∷ []) (0 ∷ 1 ∷ 1 ∷ 1 ∷ 1 ∷ 1 ∷ [])
    ∷ row (s 16) "volatile const _Bool" (u 8) (0 ∷ 1 ∷ 256 ∷ 32768 ∷ 65280 ∷ 65535 ∷ []) (0 ∷ 1 ∷ 1 ∷ 1 ∷ 1 ∷ 1 ∷ [])
    ∷ row (u 24) "const bool volatile" (u 8) (0 ∷ 1 ∷ 256 ∷ 8388608 ∷ 16773120 ∷ 16777215 ∷ []) (0 ∷ 1 ∷ 1 ∷ 1 ∷ 1 ∷ 1 ∷ [])
    ∷ row (u 24) "volatile _Bool const" (u 8) (0 ∷ 1 ∷ 256 ∷ 8388608 ∷ 16773120 ∷ 16777215 ∷ []) (0 ∷ 1 ∷ 1 ∷ 1 ∷ 1 ∷ 1 ∷ [])
    ∷ row (s 24) "bool const volatile" (u 8) (0 ∷ 1 ∷ 256 ∷ 8388608 ∷ 16773120 ∷ 16777215 ∷ []) (0 ∷ 1 ∷ 1 ∷ 1 ∷ 1 ∷ 1 ∷ [])
    ∷ row (s 24) "_Bool volatile const" (u 8) (0 ∷ 1 ∷ 256 ∷ 8388608 ∷ 16773120 ∷ 16777215 ∷ []) (0 ∷ 1 ∷ 1 ∷ 1 ∷ 1 ∷ 1 ∷ [])
    ∷ row (u 32) "const const bool" (u 8) (0 ∷ 1 ∷ 256 ∷ 2147483648 ∷ 4294901760 ∷ 4294967295 ∷ []) (0 ∷ 1 ∷ 1 ∷ 1 ∷ 1 ∷ 1 ∷ [])
    ∷ row (u 32) " bool  volatile " (u 8) (0 ∷ 1 ∷ 256 ∷ 2147483648 ∷ 4294901760 ∷ 4294967295 ∷ []) (0 ∷ 1 ∷ 1 ∷ 1 ∷ 1 ∷ 1 ∷ [])
    ∷ row (s 32) "bool" (u 8) (0 ∷ 1 ∷ 256 ∷ 2147483648 ∷ 4294901760 ∷ 4294967295 ∷ []) (0 ∷ 1 ∷ 1 ∷ 1 ∷ 1 ∷ 1 ∷ [])
    ∷ row (s 32) "_Bool" (u 8) (0 ∷ 1 ∷ 256 ∷ 2147483648 ∷ 4294901760 ∷ 4294967295 ∷ []) (0 ∷ 1 ∷ 1 ∷ 1 ∷ 1 ∷ 1 ∷ [])
    ∷ row (u 40) "const bool" (u 8) (0 ∷ 1 ∷ 256 ∷ 549755813888 ∷ 1099510579200 ∷ 1099511627775 ∷ []) (0 ∷ 1 ∷ 1 ∷ 1 ∷ 1 ∷ 1 ∷ [])
    ∷ row (u 40) "bool const" (u 8) (0 ∷ 1 ∷ 256 ∷ 549755813888 ∷ 1099510579200 ∷ 1099511627775 ∷ []) (0 ∷ 1 ∷ 1 ∷ 1 ∷ 1 ∷ 1 ∷ [])
    ∷ row (s 40) "volatile _Bool" (u 8) (0 ∷ 1 ∷ 256 ∷ 549755813888 ∷ 1099510579200 ∷ 1099511627775 ∷ []) (0 ∷ 1 ∷ 1 ∷ 1 ∷ 1 ∷ 1 ∷ [])
    ∷ row (s 40) "_Bool volatile" (u 8) (0 ∷ 1 ∷ 256 ∷ 549755813888 ∷ 1099510579200 ∷ 1099511627775 ∷ []) (0 ∷ 1 ∷ 1 ∷ 1 ∷ 1 ∷ 1 ∷ [])
    ∷ row (u 48) "const volatile bool" (u 8) (0 ∷ 1 ∷ 256 ∷ 140737488355328 ∷ 281474959933440 ∷ 281474976710655 ∷ []) (0 ∷ 1 ∷ 1 ∷ 1 ∷ 1 ∷ 1 ∷ [])
    ∷ row (u 48) "volatile const _Bool" (u 8) (0 ∷ 1 ∷ 256 ∷ 140737488355328 ∷ 281474959933440 ∷ 281474976710655 ∷ []) (0 ∷ 1 ∷ 1 ∷ 1 ∷ 1 ∷ 1 ∷ [])
    ∷ row (s 48) "const bool volatile" (u 8) (0 ∷ 1 ∷ 256 ∷ 140737488355328 ∷ 281474959933440 ∷ 281474976710655 ∷ []) (0 ∷ 1 ∷ 1 ∷ 1 ∷ 1 ∷ 1 ∷ [])
    ∷ row (s 48) "volatile _Bool const" (u 8) (0 ∷ 1 ∷ 256 ∷ 140737488355328 ∷ 281474959933440 ∷ 281474976710655 ∷ []) (0 ∷ 1 ∷ 1 ∷ 1 ∷ 1 ∷ 1 ∷ [])
    ∷ row (u 56) "bool const volatile" (u 8) (0 ∷ 1 ∷ 256 ∷ 36028797018963968 ∷ 72057593769492480 ∷ 72057594037927935 ∷ []) (0 ∷ 1 ∷ 1 ∷ 1 ∷ 1 ∷ 1 ∷ [])
    ∷ row (u 56) "_Bool volatile const" (u 8) (0 ∷ 1 ∷ 256 ∷ 36028797018963968 ∷ 72057593769492480 ∷ 72057594037927935 ∷ []) (0 ∷ 1 ∷ 1 ∷ 1 ∷ 1 ∷ 1 ∷ [])
    ∷ row (s 56) "const const bool" (u 8) (0 ∷ 1 ∷ 256 ∷ 36028797018963968 ∷ 72057593769492480 ∷ 72057594037927935 ∷ []) (0 ∷ 1 ∷ 1 ∷ 1 ∷ 1 ∷ 1 ∷ [])
    ∷ row (s 56) " bool  volatile " (u 8) (0 ∷ 1 ∷ 256 ∷ 36028797018963968 ∷ 72057593769492480 ∷ 72057594037927935 ∷ []) (0 ∷ 1 ∷ 1 ∷ 1 ∷ 1 ∷ 1 ∷ [])
    ∷ row (u 64) "bool" (u 8) (0 ∷ 1 ∷ 256 ∷ 9223372036854775808 ∷ 18446744069414584320 ∷ 18446744073709551615 ∷ []) (0 ∷ 1 ∷ 1 ∷ 1 ∷ 1 ∷ 1 ∷ [])
    ∷ row (u 64) "_Bool" (u 8) (0 ∷ 1 ∷ 256 ∷ 9223372036854775808 ∷ 18446744069414584320 ∷ 18446744073709551615 ∷ []) (0 ∷ 1 ∷ 1 ∷ 1 ∷ 1 ∷ 1 ∷ [])
    ∷ row (s 64) "const bool" (u 8) (0 ∷ 1 ∷ 256 ∷ 9223372036854775808 ∷ 18446744069414584320 ∷ 18446744073709551615 ∷ []) (0 ∷ 1 ∷ 1 ∷ 1 ∷ 1 ∷ 1 ∷ [])
    ∷ row (s 64) "bool const" (u 8) (0 ∷ 1 ∷ 256 ∷ 9223372036854775808 ∷ 18446744069414584320 ∷ 18446744073709551615 ∷ []) (0 ∷ 1 ∷ 1 ∷ 1 ∷ 1 ∷ 1 ∷ [])
    ∷ []

-- with a word of sign beside it, twice, as a part of another word, beside one that is no qualifier, and as what is pointed at
unfoldable pub near : List Row
near =
    row (u 64) "unsigned bool" (u 8) (0 ∷ 1 ∷ 256 ∷ 9223372036854775808 ∷ 18446744069414584320 ∷ 18446744073709551615 ∷ []) (0 ∷ 1 ∷ 0 ∷ 0 ∷ 0 ∷ 255 ∷ [])
    ∷ row (s 56) "bool unsigned" (u 8) (0 ∷ 1 ∷ 256 ∷ 36028797018963968 ∷ 72057593769492480 ∷ 72057594037927935 ∷ []) (0 ∷ 1 ∷ 0 ∷ 0 ∷ 0 ∷ 255 ∷ [])
    ∷ row (u 48) "_Bool signed" (u 8) (0 ∷ 1 ∷ 256 ∷ 140737488355328 ∷ 281474959933440 ∷ 281474976710655 ∷ []) (0 ∷ 1 ∷ 0 ∷ 0 ∷ 0 ∷ 255 ∷ [])
    ∷ row (s 64) "signed const bool" (u 8) (0 ∷ 1 ∷ 256 ∷ 9223372036854775808 ∷ 18446744069414584320 ∷ 18446744073709551615 ∷ []) (0 ∷ 1 ∷ 0 ∷ 0 ∷ 0 ∷ 255 ∷ [])
    ∷ row (u 32) "volatile bool unsigned" (u 8) (0 ∷ 1 ∷ 256 ∷ 2147483648 ∷ 4294901760 ∷ 4294967295 ∷ []) (0 ∷ 1 ∷ 0 ∷ 0 ∷ 0 ∷ 255 ∷ [])
    ∷ row (u 40) "boolean_t" (s 64) (0 ∷ 1 ∷ 256 ∷ 549755813888 ∷ 1099510579200 ∷ 1099511627775 ∷ []) (0 ∷ 1 ∷ 256 ∷ 549755813888 ∷ 1099510579200 ∷ 1099511627775 ∷ [])
    ∷ row (s 16) "Bool" (s 64) (0 ∷ 1 ∷ 256 ∷ 32768 ∷ 65280 ∷ 65535 ∷ []) (0 ∷ 1 ∷ 256 ∷ 18446744073709518848 ∷ 18446744073709551360 ∷ 18446744073709551615 ∷ [])
    ∷ row (u 8) "bool bool" (s 64) (0 ∷ 1 ∷ 2 ∷ 128 ∷ 240 ∷ 255 ∷ []) (0 ∷ 1 ∷ 2 ∷ 128 ∷ 240 ∷ 255 ∷ [])
    ∷ row (u 16) "bool _Bool const" (s 64) (0 ∷ 1 ∷ 256 ∷ 32768 ∷ 65280 ∷ 65535 ∷ []) (0 ∷ 1 ∷ 256 ∷ 32768 ∷ 65280 ∷ 65535 ∷ [])
    ∷ row (u 24) "restrict bool" (s 64) (0 ∷ 1 ∷ 256 ∷ 8388608 ∷ 16773120 ∷ 16777215 ∷ []) (0 ∷ 1 ∷ 256 ∷ 8388608 ∷ 16773120 ∷ 16777215 ∷ [])
    ∷ row (s 8) "struct bool" (s 64) (0 ∷ 1 ∷ 2 ∷ 128 ∷ 240 ∷ 255 ∷ []) (0 ∷ 1 ∷ 2 ∷ 18446744073709551488 ∷ 18446744073709551600 ∷ 18446744073709551615 ∷ [])
    ∷ row (u 32) "bool;" (s 64) (0 ∷ 1 ∷ 256 ∷ 2147483648 ∷ 4294901760 ∷ 4294967295 ∷ []) (0 ∷ 1 ∷ 256 ∷ 2147483648 ∷ 4294901760 ∷ 4294967295 ∷ [])
    ∷ row (u 40) "const*bool" (s 64) (0 ∷ 1 ∷ 256 ∷ 549755813888 ∷ 1099510579200 ∷ 1099511627775 ∷ []) (0 ∷ 1 ∷ 256 ∷ 549755813888 ∷ 1099510579200 ∷ 1099511627775 ∷ [])
    ∷ row (u 32) "bool *" (u 64) (0 ∷ 1 ∷ 256 ∷ 2147483648 ∷ 4294901760 ∷ 4294967295 ∷ []) (0 ∷ 1 ∷ 256 ∷ 2147483648 ∷ 4294901760 ∷ 4294967295 ∷ [])
    ∷ row (s 16) "_Bool*" (u 64) (0 ∷ 1 ∷ 256 ∷ 32768 ∷ 65280 ∷ 65535 ∷ []) (0 ∷ 1 ∷ 256 ∷ 18446744073709518848 ∷ 18446744073709551360 ∷ 18446744073709551615 ∷ [])
    ∷ row (u 24) "const bool * " (u 64) (0 ∷ 1 ∷ 256 ∷ 8388608 ∷ 16773120 ∷ 16777215 ∷ []) (0 ∷ 1 ∷ 256 ∷ 8388608 ∷ 16773120 ∷ 16777215 ∷ [])
    ∷ row (u 16) "bool *const" (s 64) (0 ∷ 1 ∷ 256 ∷ 32768 ∷ 65280 ∷ 65535 ∷ []) (0 ∷ 1 ∷ 256 ∷ 32768 ∷ 65280 ∷ 65535 ∷ [])
    ∷ []

pub bool_cases : map converted bools ≡ map expected bools
unfolding bools type_of is dropped signed_word unsigned_word alone two
bool_cases = refl

pub near_cases : map converted near ≡ map expected near
unfolding near type_of is dropped signed_word unsigned_word alone two
near_cases = refl
