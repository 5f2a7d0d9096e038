-- Tiny routines, run by the definition: document 01's own. Hex says where the bytes come from and what each row is. Assumes nothing.
use mathlib.Core.Path.{◌≡◌, refl}
use mathlib.Core.List.{List, [], ◌∷◌, map}
use Prim.Native.Nat.{ℕ}
use Rattle.definition.proofs.Hex.{hex, lines, no_world}
use Rattle.definition.proofs.Compute.{record_computed, listing_computed, number_computed, constant_computed}
use mathlib.Core.Bool.{true}
use Rattle.std.specs.Prelude.{None, Some}
use Rattle.value.specs.Value.{type, known_val}

-- document 01, "The listing": `sum = dwell + 200`, then `return sum - 50`, with dwell = 100
abbrev pub trim_routine : List ℕ
trim_routine = hex (
    "0600  1a00 0f00  2900 1700  4000 1500  5500 b400  0901 1a00  2301 1800"
    ∷ "05 6477656c6c  03 73756d  04 7472696d"
    ∷ "07 696e7433325f74  07 75696e74385f74  06 696e74385f74"
    ∷ "0200 0010000000000000 0000 01  0000 0100  0100 0200"
    ∷ "0d 00 0000 00000000 05000000 0000000000000000  01 00 0100 00000000 01000000 0000000000000000  0c 00 0000 00000000 03000000 0000000000000000"
    ∷ "01 00 0000 00000000 01000000 0000000000000000  00 00 0000 01000000 01000000 c800000000000000  10 00 0000 00000000 04000000 0000000000000000"
    ∷ "0c 01 0000 00000000 03000000 0000000000000000  01 00 0100 00000000 01000000 0000000000000000  00 00 0000 01000000 01000000 3200000000000000"
    ∷ "01 0010000000000000 00000000  00 0000000000000000 05000000"
    ∷ "0200 00 00 0000000000000000 00000000 00000000 00000000"
    ∷ [])

abbrev pub trim_call : List ℕ
trim_call = hex (
    "0100  0600 1000  0a000000 08000000  6400000000000000"
    ∷ [])

trim_record : record_computed trim_routine no_world trim_call ≡ hex (
    "30000000 27000000  57000000 0c000000  63000000 7e000000  e1000000 20000000  01010000 00000000  01010000 00000000"
    ∷ "00 00 00 0000000000000000 0000000000000000 00000000 0000 01 01 20000000 faffffff00000000"
    ∷ "01000000 02000000 03000000"
    ∷ "01 0010000000000000 00000000 00000000 01 0100 01 01 08000000 2c00000000000000"
    ∷ "00 0000000000000000 00000000 00 00 00000000 0000000000000000 0000"
    ∷ "00 0000000000000000 00000000 01000000 00 0000 00 00 00000000 0000000000000000"
    ∷ "00 0000000000000000 00000000 00 00 00000000 0000000000000000 0000"
    ∷ "0000 01 00 08000000 6400000000000000  0100 01 01 08000000 2c00000000000000"
    ∷ [])
unfolding record_computed
trim_record = refl

trim_listing : listing_computed trim_routine no_world trim_call ≡ lines (
    "; trim at 0x1000: emulated"
    ∷ "  00001000  0  ; sum = 44 (0x2c)"
    ∷ "            1"
    ∷ "; returned -6 (0xfffffffa)"
    ∷ ";   dwell = 100 (0x64)"
    ∷ ";   sum = 44 (0x2c)"
    ∷ [])
unfolding listing_computed
trim_listing = refl

-- the least buffer that takes the record of `trim`, and the least workspace: 22 and 20 with a byte less, and 20 comes before 22
trim_numbers : map (λ (p : ℕ × ℕ). number_computed trim_routine no_world trim_call p.0 p.1) ((257, 65536) ∷ (256, 65536) ∷ (257, 65535) ∷ (256, 65535) ∷ [])
    ≡ 0 ∷ 22 ∷ 20 ∷ 20 ∷ []
unfolding number_computed
trim_numbers = refl

-- `constant_value` of the nodes of `trim`: the Assign stores what depends on a variable, node 4 is the one-byte constant 200, node 6 reads a variable
trim_constants : map (constant_computed trim_routine) (0 ∷ 4 ∷ 6 ∷ []) ≡ None ∷ Some (known_val 200 (type 8 true)) ∷ None ∷ []
unfolding constant_computed
trim_constants = refl
