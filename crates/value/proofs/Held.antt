-- ISO C 6.3.1.3, 1: an integer that a type can hold is not changed by the conversion. Proved once, for each width from 1 to 64.
-- Assumes nothing.
use Rattle.std.proofs.Common.{◌≡◌, ℕ, zero, suc, ◌-◌, ◌*◌, ◌%◌, ◌^◌, ◌<◌, ◌≤◌, Bool, true, false, ℤ, pos, negsuc, sym, ap, ◌∙◌, mod-eq_of_lt, pow-suc, sub-one, arith}
use lib.Signed.{mag}
use Rattle.value.specs.Width.{residue, reading}
use Rattle.value.proofs.Reading.{reading_low, reading_high}

-- an integer that w bits can hold, unsigned or in two's complement
abbrev pub Holds : Bool → ℕ → ℤ → Type 0
Holds false w (pos n) = n < 2 ^ w
Holds false w (negsuc n) = ⊥
Holds true w z = mag z < 2 ^ (w - 1)

half : (w : ℕ) → 1 ≤ w → 2 ^ (w - 1) * 2 ≡ 2 ^ w
half zero h = omega arith
half (suc k) h = ap (λ (n : ℕ). 2 ^ n * 2) (sub-one (suc k)) ∙ sym (pow-suc 2 k)

pub kept : (s : Bool) (w : ℕ) (z : ℤ) → 1 ≤ w → Holds s w z → reading s w (residue w z) ≡ z
kept false w (pos n) h l = ap pos (mod-eq_of_lt l)
kept false w (negsuc n) h l = absurd l
kept true w (pos n) h l =
    ap (reading true w) {x = n % 2 ^ w} {y = n} (mod-eq_of_lt (omega (arith, half w h)))
    ∙ reading_low w n (omega (arith, half w h))
kept true w (negsuc n) h l =
    let k : n < 2 ^ w = omega (arith, half w h) in
    ap (reading true w) {x = 2 ^ w - suc (n % 2 ^ w)} {y = 2 ^ w - suc n} (ap (λ (m : ℕ). 2 ^ w - suc m) (mod-eq_of_lt k))
    ∙ reading_high w (2 ^ w - suc n) (omega (arith, half w h)) (omega (arith, half w h))
    ∙ ap negsuc (omega (arith, half w h))
