-- Tiny routines, run by the definition: how runs end. Hex says where the bytes come from and what each row is. Assumes nothing.
use mathlib.Core.Path.{◌≡◌, refl}
use mathlib.Core.List.{List, [], ◌∷◌}
use Prim.Native.Nat.{ℕ}
use Rattle.definition.proofs.Hex.{hex, lines, no_world, twenty_steps}
use Rattle.definition.proofs.Compute.{record_computed, listing_computed}

-- `__builtin_unreachable(x = 1)`: its argument is not evaluated
abbrev pub unreachable_routine : List ℕ
unreachable_routine = hex (
    "0600  1a00 1a00  3400 0400  3800 0d00  4500 5000  9500 0d00  a200 1800"
    ∷ "15 5f5f6275696c74696e5f756e726561636861626c65  01 66  01 78"
    ∷ "03 696e74"
    ∷ "0100 0010000000000000 0000 00"
    ∷ "0f 00 0000 00000000 04000000 0000000000000000  0d 00 0000 00000000 03000000 0000000000000000  01 00 0200 00000000 01000000 0000000000000000"
    ∷ "00 00 0000 04000000 01000000 0100000000000000"
    ∷ "01 0410000000000000 00000000"
    ∷ "0100 00 00 0000000000000000 00000000 00000000 00000000"
    ∷ [])

unreachable_record : record_computed unreachable_routine no_world twenty_steps ≡ hex (
    "30000000 27000000  57000000 0c000000  63000000 3f000000  a2000000 00000000  a2000000 00000000  a2000000 00000000"
    ∷ "06 00 01 0410000000000000 0000000000000000 00000000 0000 00 00 00000000 0000000000000000"
    ∷ "01000000 01000000 02000000"
    ∷ "01 0410000000000000 00000000 00000000 00 0000 00 00 00000000 0000000000000000"
    ∷ "00 0000000000000000 00000000 00 00 00000000 0000000000000000 0000"
    ∷ [])
unfolding record_computed
unreachable_record = refl

unreachable_listing : listing_computed unreachable_routine no_world twenty_steps ≡ lines (
    "; f at 0x1000: emulated"
    ∷ "  00001004  0"
    ∷ "; stopped at 0x1004: the call does not return"
    ∷ [])
unfolding listing_computed
unreachable_listing = refl

-- `__analysis_halted` of a one-byte constant 0x12345678, whose value is not masked
abbrev pub halted_routine : List ℕ
halted_routine = hex (
    "0600  1a00 1400  2e00 0400  3200 0d00  3f00 2800  6700 0d00  7400 1800"
    ∷ "11 5f5f616e616c797369735f68616c746564  01 66"
    ∷ "03 696e74"
    ∷ "0100 0010000000000000 0000 00"
    ∷ "0f 00 0000 00000000 02000000 0000000000000000  00 00 0000 01000000 01000000 7856341200000000"
    ∷ "01 0800000000000000 00000000"
    ∷ "0100 00 00 0000000000000000 00000000 00000000 00000000"
    ∷ [])

halted_record : record_computed halted_routine no_world twenty_steps ≡ hex (
    "30000000 27000000  57000000 0c000000  63000000 3f000000  a2000000 00000000  a2000000 00000000  a2000000 00000000"
    ∷ "07 00 01 0800000000000000 7856341200000000 00000000 0000 00 00 00000000 0000000000000000"
    ∷ "01000000 01000000 02000000"
    ∷ "01 0800000000000000 00000000 00000000 00 0000 00 00 00000000 0000000000000000"
    ∷ "00 0000000000000000 00000000 00 00 00000000 0000000000000000 0000"
    ∷ [])
unfolding record_computed
halted_record = refl

halted_listing : listing_computed halted_routine no_world twenty_steps ≡ lines (
    "; f at 0x1000: emulated"
    ∷ "  00000008  0"
    ∷ "; stopped at 0x8: 0x12345678 is not analyzed"
    ∷ [])
unfolding listing_computed
halted_listing = refl

-- a switch on the one-byte constant 0xfe, extended by its sign, with cases 254, 2 and -1
abbrev pub switch_no_case_routine : List ℕ
switch_no_case_routine = hex (
    "0600  1a00 0200  1c00 0400  2000 0d00  2d00 2800  5500 0d00  6200 3c00"
    ∷ "01 66"
    ∷ "03 696e74"
    ∷ "0000 0010000000000000 0000 00"
    ∷ "13 00 0000 00000000 01000000 0000000000000000  00 00 0000 01000000 01000000 fe00000000000000"
    ∷ "01 1010000000000000 00000000"
    ∷ "0100 03 00 0000000000000000 01000000 03000000 00000000  fe00000000000000 01000000  0200000000000000 01000000  ffffffffffffffff 01000000"
    ∷ [])

switch_no_case_record : record_computed switch_no_case_routine no_world twenty_steps ≡ hex (
    "30000000 27000000  57000000 0c000000  63000000 3f000000  a2000000 00000000  a2000000 00000000  a2000000 00000000"
    ∷ "03 03 01 1010000000000000 feffffffffffffff 00000000 0000 00 00 00000000 0000000000000000"
    ∷ "01000000 01000000 02000000"
    ∷ "01 1010000000000000 00000000 00000000 00 0000 00 00 00000000 0000000000000000"
    ∷ "00 0000000000000000 00000000 00 00 00000000 0000000000000000 0000"
    ∷ [])
unfolding record_computed
switch_no_case_record = refl

switch_no_case_listing : listing_computed switch_no_case_routine no_world twenty_steps ≡ lines (
    "; f at 0x1000: emulated"
    ∷ "  00001010  0"
    ∷ "; stopped at 0x1010: no case of the switch takes -2"
    ∷ [])
unfolding listing_computed
switch_no_case_listing = refl

-- a switch on the one-byte constant 0xff with cases -1, -1 and 0: the first is taken
abbrev pub switch_repeated_case_routine : List ℕ
switch_repeated_case_routine = hex (
    "0600  1a00 0200  1c00 0400  2000 0d00  2d00 6400  9100 1a00  ab00 6c00"
    ∷ "01 66"
    ∷ "03 696e74"
    ∷ "0000 0010000000000000 0000 00"
    ∷ "00 00 0000 01000000 01000000 ff00000000000000  10 00 0000 00000000 02000000 0000000000000000  00 00 0000 04000000 01000000 0100000000000000"
    ∷ "10 00 0000 00000000 02000000 0000000000000000  00 00 0000 04000000 01000000 0200000000000000"
    ∷ "00 0000000000000000 01000000  00 0000000000000000 03000000"
    ∷ "0000 03 01 0400000000000000 00000000 03000000 00000000  ffffffffffffffff 02000000  ffffffffffffffff 01000000  0000000000000000 01000000"
    ∷ "0100 00 00 0000000000000000 00000000 00000000 00000000  0100 00 00 0000000000000000 00000000 00000000 00000000"
    ∷ [])

switch_repeated_case_record : record_computed switch_repeated_case_routine no_world twenty_steps ≡ hex (
    "30000000 27000000  57000000 0c000000  63000000 3f000000  a2000000 00000000  a2000000 00000000  a2000000 00000000"
    ∷ "00 00 00 0000000000000000 0000000000000000 00000000 0000 01 01 20000000 0200000000000000"
    ∷ "02000000 01000000 03000000"
    ∷ "00 0000000000000000 02000000 01000000 00 0000 00 00 00000000 0000000000000000"
    ∷ "00 0000000000000000 00000000 00 00 00000000 0000000000000000 0000"
    ∷ [])
unfolding record_computed
switch_repeated_case_record = refl

switch_repeated_case_listing : listing_computed switch_repeated_case_routine no_world twenty_steps ≡ lines (
    "; f at 0x1000: emulated"
    ∷ "            1"
    ∷ "; returned 2"
    ∷ [])
unfolding listing_computed
switch_repeated_case_listing = refl

-- `return 1 % 0`
abbrev pub division_by_zero_routine : List ℕ
division_by_zero_routine = hex (
    "0600  1a00 0400  1e00 0400  2200 1100  3300 5000  8300 0d00  9000 1800"
    ∷ "01 66  01 75"
    ∷ "03 696e74"
    ∷ "0000 0010000000000000 0000 00  0100 0000"
    ∷ "10 00 0000 00000000 04000000 0000000000000000  0c 04 0000 00000000 03000000 0000000000000000  00 00 0000 04000000 01000000 0100000000000000"
    ∷ "00 00 0000 04000000 01000000 0000000000000000"
    ∷ "01 0400000000000000 00000000"
    ∷ "0100 00 00 0000000000000000 00000000 00000000 00000000"
    ∷ [])

division_by_zero_record : record_computed division_by_zero_routine no_world twenty_steps ≡ hex (
    "30000000 27000000  57000000 0c000000  63000000 3f000000  a2000000 10000000  b2000000 00000000  b2000000 00000000"
    ∷ "03 09 01 0400000000000000 0000000000000000 00000000 0000 00 00 00000000 0000000000000000"
    ∷ "01000000 01000000 02000000"
    ∷ "01 0400000000000000 00000000 00000000 00 0000 00 00 00000000 0000000000000000"
    ∷ "00 0000000000000000 00000000 00 00 00000000 0000000000000000 0000"
    ∷ "0100 00 01 20000000 0000000000000000"
    ∷ [])
unfolding record_computed
division_by_zero_record = refl

division_by_zero_listing : listing_computed division_by_zero_routine no_world twenty_steps ≡ lines (
    "; f at 0x1000: emulated"
    ∷ "  00000004  0"
    ∷ "; stopped at 0x4: a division by zero"
    ∷ ";   u = unknown"
    ∷ [])
unfolding listing_computed
division_by_zero_listing = refl

-- a struct stored through a pointer that is unknown: the node named is the pointer without its Cast
abbrev pub struct_unknown_address_routine : List ℕ
struct_unknown_address_routine = hex (
    "0600  1a00 0400  1e00 0f00  2d00 1100  3e00 8c00  ca00 0d00  d700 1800"
    ∷ "01 66  01 75"
    ∷ "03 696e74  0a 7374727563742073202a"
    ∷ "0000 0010000000000000 0000 00  0100 0000"
    ∷ "0d 00 0000 00000000 07000000 0000000000000000  09 00 0000 00000000 03000000 0000000000000000  08 00 0100 00000000 02000000 0000000000000000"
    ∷ "01 00 0100 00000000 01000000 0000000000000000  11 00 0000 00000000 03000000 0000000000000000  12 00 0000 00000000 02000000 0400000000000000"
    ∷ "00 00 0000 04000000 01000000 0700000000000000"
    ∷ "01 0400000000000000 00000000"
    ∷ "0100 00 00 0000000000000000 00000000 00000000 00000000"
    ∷ [])

struct_unknown_address_record : record_computed struct_unknown_address_routine no_world twenty_steps ≡ hex (
    "30000000 27000000  57000000 0c000000  63000000 3f000000  a2000000 10000000  b2000000 00000000  b2000000 0c000000"
    ∷ "03 05 01 0400000000000000 0000000000000000 03000000 0000 00 00 00000000 0000000000000000"
    ∷ "01000000 01000000 02000000"
    ∷ "01 0400000000000000 00000000 00000000 00 0000 00 00 00000000 0000000000000000"
    ∷ "00 0000000000000000 00000000 00 00 00000000 0000000000000000 0000"
    ∷ "0100 00 01 20000000 0000000000000000"
    ∷ "01 0100 00 0000000000000000"
    ∷ [])
unfolding record_computed
struct_unknown_address_record = refl

struct_unknown_address_listing : listing_computed struct_unknown_address_routine no_world twenty_steps ≡ lines (
    "; f at 0x1000: emulated"
    ∷ "  00000004  0"
    ∷ "; stopped at 0x4: the store through node 3 goes to an unknown address"
    ∷ ";   u = unknown"
    ∷ [])
unfolding listing_computed
struct_unknown_address_listing = refl
