-- Words of 64 bits: the mask of a width, sign extension, and the product by halves.
-- Assumes nothing.
use Rattle.std.proofs.Common.{◌≡◌, ℕ, suc, ap₂, mod-lt, ◌+◌, ◌-◌, ◌/◌, ◌^◌, ◌<◌, ◌≤◌, true, sym, ap, ◌∙◌, mod-eq_of_lt, arith, pow_pos, pow_mono}
use native.Mathlib.Nat.{min-le_right}
use lib.Bits.{bit_and, and_mask}
use Rattle.value.specs.Width.{width, low_bits, residue, reading}
use Rattle.value.proofs.Reading.{reading_low, reading_high}

-- ---- the mask of a width

pub width_le : (bits : ℕ) → 2 ^ width bits ≤ 2 ^ 64
width_le bits = pow_mono (min-le_right bits 64)

pub masked : (n bits m : ℕ) → m ≡ 2 ^ width bits - 1 → bit_and n m ≡ low_bits n bits
masked n bits m e = ap (bit_and n) e ∙ and_mask n (width bits)

-- ---- sign extension

pub word_low : (bits n : ℕ) → n ≤ (2 ^ width bits - 1) / 2 → n ≡ residue 64 (reading true (width bits) n)
word_low bits n h = sym (ap (residue 64) (reading_low (width bits) n h) ∙ mod-eq_of_lt (omega (arith, width_le bits)))

pub word_high : (bits n : ℕ) → (2 ^ width bits - 1) / 2 < n → n < 2 ^ width bits → n + (2 ^ 64 - 1 - (2 ^ width bits - 1)) ≡ residue 64 (reading true (width bits) n)
word_high bits n h l =
    let k : 2 ^ width bits - suc n < 2 ^ 64 = omega (arith, width_le bits) in
    sym (ap (residue 64) (reading_high (width bits) n h l) ∙ omega (arith, width_le bits, mod-eq_of_lt k, pow_pos (width bits)))

-- a number above half the mask m, extended
pub extended_high : (number bits m : ℕ) → m ≡ 2 ^ width bits - 1 → m / 2 < bit_and number m → bit_and number m + (2 ^ 64 - 1 - m) ≡ residue 64 (reading true (width bits) (low_bits number bits))
extended_high number bits m e h =
    let l : bit_and number m ≡ low_bits number bits = masked number bits m e in
    ap₂ (λ (x y : ℕ). x + (2 ^ 64 - 1 - y)) l e
    ∙ word_high bits (low_bits number bits) (omega (arith, h, l, e)) (mod-lt number (pow_pos (width bits)))
