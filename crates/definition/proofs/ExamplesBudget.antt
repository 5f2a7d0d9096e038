-- Tiny routines, run by the definition: what the budget allows. Hex says where the bytes come from and what each row is. Assumes nothing.
use mathlib.Core.Path.{◌≡◌, refl}
use mathlib.Core.List.{List, [], ◌∷◌}
use Prim.Native.Nat.{ℕ}
use Rattle.definition.proofs.Hex.{hex, lines, no_world}
use Rattle.definition.proofs.Compute.{record_computed, listing_computed}

-- `n = 3; m = n + 1; if (m == 4) goto 1`, then `return m`, with 0 steps: no block is entered
abbrev pub spin_routine : List ℕ
spin_routine = hex (
    "0600  1a00 0600  2000 0400  2400 1100  3500 0401  3901 2700  6001 3000"
    ∷ "01 66  01 6d  01 6e"
    ∷ "03 696e74"
    ∷ "0000 0010000000000000 0000 00  0200 0000"
    ∷ "0d 00 0000 00000000 03000000 0000000000000000  01 00 0200 00000000 01000000 0000000000000000  00 00 0000 04000000 01000000 0300000000000000"
    ∷ "0d 00 0000 00000000 05000000 0000000000000000  01 00 0100 00000000 01000000 0000000000000000  0c 00 0000 00000000 03000000 0000000000000000"
    ∷ "01 00 0200 00000000 01000000 0000000000000000  00 00 0000 04000000 01000000 0100000000000000  0c 0a 0000 00000000 03000000 0000000000000000"
    ∷ "01 00 0100 00000000 01000000 0000000000000000  00 00 0000 04000000 01000000 0400000000000000  10 00 0000 00000000 02000000 0000000000000000"
    ∷ "01 00 0100 00000000 01000000 0000000000000000"
    ∷ "01 0400000000000000 00000000  01 0800000000000000 03000000  00 0000000000000000 0b000000"
    ∷ "0200 02 00 0000000000000000 08000000 01000000 00000000  0100 00 00 0000000000000000 00000000 00000000 00000000"
    ∷ [])

abbrev pub budget_0_call : List ℕ
budget_0_call = hex (
    "0100  0600 0800  00000000 08000000"
    ∷ [])

budget_0_record : record_computed spin_routine no_world budget_0_call ≡ hex (
    "30000000 27000000  57000000 0c000000  63000000 00000000  63000000 10000000  73000000 00000000  73000000 00000000"
    ∷ "02 00 00 0000000000000000 0000000000000000 00000000 0000 00 00 00000000 0000000000000000"
    ∷ "00000000 00000000 00000000"
    ∷ "0200 00 01 20000000 0000000000000000"
    ∷ [])
unfolding record_computed
budget_0_record = refl

budget_0_listing : listing_computed spin_routine no_world budget_0_call ≡ lines (
    "; f at 0x1000: emulated"
    ∷ "; stopped after 0 steps"
    ∷ ";   n = unknown"
    ∷ [])
unfolding listing_computed
budget_0_listing = refl

-- with 1 step: the block is entered, and no statement is run
abbrev pub budget_1_call : List ℕ
budget_1_call = hex (
    "0100  0600 0800  01000000 08000000"
    ∷ [])

budget_1_record : record_computed spin_routine no_world budget_1_call ≡ hex (
    "30000000 27000000  57000000 0c000000  63000000 00000000  63000000 10000000  73000000 00000000  73000000 00000000"
    ∷ "02 00 00 0000000000000000 0100000000000000 00000000 0000 00 00 00000000 0000000000000000"
    ∷ "01000000 00000000 01000000"
    ∷ "0200 00 01 20000000 0000000000000000"
    ∷ [])
unfolding record_computed
budget_1_record = refl

budget_1_listing : listing_computed spin_routine no_world budget_1_call ≡ lines (
    "; f at 0x1000: emulated"
    ∷ "; stopped after 1 steps"
    ∷ ";   n = unknown"
    ∷ [])
unfolding listing_computed
budget_1_listing = refl

-- with 4 steps: the second block is entered
abbrev pub budget_one_too_few_call : List ℕ
budget_one_too_few_call = hex (
    "0100  0600 0800  04000000 08000000"
    ∷ [])

budget_one_too_few_record : record_computed spin_routine no_world budget_one_too_few_call ≡ hex (
    "30000000 27000000  57000000 0c000000  63000000 7e000000  e1000000 20000000  01010000 00000000  01010000 0c000000"
    ∷ "02 00 00 0000000000000000 0400000000000000 00000000 0000 00 00 00000000 0000000000000000"
    ∷ "02000000 02000000 04000000"
    ∷ "01 0400000000000000 00000000 00000000 01 0200 01 01 20000000 0300000000000000"
    ∷ "00 0000000000000000 00000000 00 00 00000000 0000000000000000 0000"
    ∷ "01 0800000000000000 00000000 01000000 01 0100 01 01 20000000 0400000000000000"
    ∷ "00 0000000000000000 00000000 00 00 00000000 0000000000000000 0000"
    ∷ "0100 01 01 20000000 0400000000000000  0200 01 01 20000000 0300000000000000"
    ∷ "01 0100 00 0000000000000000"
    ∷ [])
unfolding record_computed
budget_one_too_few_record = refl

budget_one_too_few_listing : listing_computed spin_routine no_world budget_one_too_few_call ≡ lines (
    "; f at 0x1000: emulated"
    ∷ "  00000004  0  ; n = 3"
    ∷ "  00000008  1  ; m = 4"
    ∷ "; stopped after 4 steps"
    ∷ ";   m = 4"
    ∷ ";   n = 3"
    ∷ [])
unfolding listing_computed
budget_one_too_few_listing = refl

-- with 5 steps, which two blocks and three statements cost
abbrev pub budget_exact_call : List ℕ
budget_exact_call = hex (
    "0100  0600 0800  05000000 08000000"
    ∷ [])

budget_exact_record : record_computed spin_routine no_world budget_exact_call ≡ hex (
    "30000000 27000000  57000000 0c000000  63000000 bd000000  20010000 20000000  40010000 00000000  40010000 0c000000"
    ∷ "00 00 00 0000000000000000 0000000000000000 00000000 0000 01 01 20000000 0400000000000000"
    ∷ "02000000 03000000 05000000"
    ∷ "01 0400000000000000 00000000 00000000 01 0200 01 01 20000000 0300000000000000"
    ∷ "00 0000000000000000 00000000 00 00 00000000 0000000000000000 0000"
    ∷ "01 0800000000000000 00000000 01000000 01 0100 01 01 20000000 0400000000000000"
    ∷ "00 0000000000000000 00000000 00 00 00000000 0000000000000000 0000"
    ∷ "00 0000000000000000 01000000 02000000 00 0000 00 00 00000000 0000000000000000"
    ∷ "00 0000000000000000 00000000 00 00 00000000 0000000000000000 0000"
    ∷ "0100 01 01 20000000 0400000000000000  0200 01 01 20000000 0300000000000000"
    ∷ "01 0100 00 0000000000000000"
    ∷ [])
unfolding record_computed
budget_exact_record = refl

budget_exact_listing : listing_computed spin_routine no_world budget_exact_call ≡ lines (
    "; f at 0x1000: emulated"
    ∷ "  00000004  0  ; n = 3"
    ∷ "  00000008  1  ; m = 4"
    ∷ "            2"
    ∷ "; returned 4"
    ∷ ";   m = 4"
    ∷ ";   n = 3"
    ∷ [])
unfolding listing_computed
budget_exact_listing = refl

-- a routine without blocks, with 0 steps
abbrev pub empty_budget_0_routine : List ℕ
empty_budget_0_routine = hex (
    "0600  1a00 0200  1c00 0400  2000 0d00  2d00 0000  2d00 0000  2d00 0000"
    ∷ "01 66"
    ∷ "03 696e74"
    ∷ "0000 0010000000000000 0000 00"
    ∷ [])

empty_budget_0_record : record_computed empty_budget_0_routine no_world budget_0_call ≡ hex (
    "30000000 27000000  57000000 0c000000  63000000 00000000  63000000 00000000  63000000 00000000  63000000 00000000"
    ∷ "05 00 00 0000000000000000 0000000000000000 00000000 0000 00 00 00000000 0000000000000000"
    ∷ "00000000 00000000 00000000"
    ∷ [])
unfolding record_computed
empty_budget_0_record = refl

empty_budget_0_listing : listing_computed empty_budget_0_routine no_world budget_0_call ≡ lines (
    "; f at 0x1000: emulated"
    ∷ "; stopped: the function has no blocks at the medium level"
    ∷ [])
unfolding listing_computed
empty_budget_0_listing = refl

-- a block that goes to block 3, which is missing, with 1 step: NoBlock comes before the budget
abbrev pub goto_missing_budget_1_routine : List ℕ
goto_missing_budget_1_routine = hex (
    "0600  1a00 0200  1c00 0400  2000 0d00  2d00 0000  2d00 0000  2d00 1800"
    ∷ "01 66"
    ∷ "03 696e74"
    ∷ "0000 0010000000000000 0000 00"
    ∷ "0000 01 00 0000000000000000 00000000 03000000 00000000"
    ∷ [])

goto_missing_budget_1_record : record_computed goto_missing_budget_1_routine no_world budget_1_call ≡ hex (
    "30000000 27000000  57000000 0c000000  63000000 00000000  63000000 00000000  63000000 00000000  63000000 00000000"
    ∷ "04 00 00 0000000000000000 0300000000000000 00000000 0000 00 00 00000000 0000000000000000"
    ∷ "01000000 00000000 01000000"
    ∷ [])
unfolding record_computed
goto_missing_budget_1_record = refl

goto_missing_budget_1_listing : listing_computed goto_missing_budget_1_routine no_world budget_1_call ≡ lines (
    "; f at 0x1000: emulated"
    ∷ "; stopped: no block 3"
    ∷ [])
unfolding listing_computed
goto_missing_budget_1_listing = refl
