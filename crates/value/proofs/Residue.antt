-- Laws of `residue`: converting to w bits respects sums, differences and products, and may be done in two steps.
-- Assumes nothing.
use Rattle.std.proofs.Common.{◌≡◌, ℕ, suc, ◌+◌, ◌-◌, ◌*◌, ◌/◌, ◌%◌, ◌^◌, ◌<◌, ◌≤◌, ℤ, pos, negsuc, ◌+ℤ◌, ◌-ℤ◌, ◌*ℤ◌, neg_ℤ, sym, refl, ap, ◌∙◌, mod-lt, mod-eq_of_lt, mul_assoc, add_comm, div-add-mod', arith, pow_pos, pow-add}
use native.Mathlib.Nat.{mul-mod_left, mod_self, add-mul-mod_self_right, min-le_right}
use lib.Pow.{mod-mod-pow}
use Rattle.value.specs.Width.{width, low_bits, residue}
use Rattle.value.proofs.Modular as M

pub one_less : (w : ℕ) → (2 ^ w - 1) + 1 ≡ 2 ^ w
one_less w = omega (arith, pow_pos w)

abbrev lift_at : ℕ → ℤ → ℕ
lift_at w = M.lift (2 ^ w) (2 ^ w - 1) (one_less w)

pub residue_lift : (w : ℕ) (z : ℤ) → residue w z ≡ lift_at w z % 2 ^ w
residue_lift w (pos n) = refl
residue_lift w (negsuc n) =
    let N : ℕ = 2 ^ w in
    let m : ℕ = 2 ^ w - 1 in
    let l : n % 2 ^ w < 2 ^ w = mod-lt n (pow_pos w) in
    let s : 2 ^ w - suc (n % 2 ^ w) < 2 ^ w = omega (arith, pow_pos w) in
    sym (mod-eq_of_lt s)
    ∙ M.cancel (2 ^ w) (2 ^ w - 1) (one_less w) (2 ^ w - suc (n % 2 ^ w)) (suc n * (2 ^ w - 1)) (suc n)
    (ap (λ (x : ℕ). x % 2 ^ w) {x = 2 ^ w - suc (n % 2 ^ w) + suc n} {y = 2 ^ w + n / 2 ^ w * 2 ^ w} (omega (arith, div-add-mod' n (2 ^ w)))
    ∙ add-mul-mod_self_right (2 ^ w) (n / 2 ^ w) (2 ^ w)
    ∙ mod_self (2 ^ w)
    ∙ sym (mul-mod_left (suc n) (2 ^ w))
    ∙ ap (λ (x : ℕ). x % 2 ^ w) (sym (M.times (2 ^ w) (2 ^ w - 1) (one_less w) (suc n))))

pub residue_lt : (w : ℕ) (z : ℤ) → residue w z < 2 ^ w
residue_lt w (pos n) = mod-lt n (pow_pos w)
residue_lt w (negsuc n) = omega (arith, pow_pos w)

-- ---- an integer and a number that are congruent modulo 2 ^ w

abbrev pub Agree : ℕ → ℤ → ℕ → Type 0
Agree w z n = lift_at w z % 2 ^ w ≡ n % 2 ^ w

pub residue_of : (w : ℕ) (z : ℤ) (n : ℕ) → Agree w z n → residue w z ≡ n % 2 ^ w
residue_of w z n h = residue_lift w z ∙ h

add_both : (w x y a b : ℕ) → x % 2 ^ w ≡ a % 2 ^ w → y % 2 ^ w ≡ b % 2 ^ w → (x + y) % 2 ^ w ≡ (a + b) % 2 ^ w
add_both w x y a b p q =
    M.plus (2 ^ w) (2 ^ w - 1) (one_less w) x a y p ∙ ap (λ (n : ℕ). n % 2 ^ w) (add_comm a y)
    ∙ M.plus (2 ^ w) (2 ^ w - 1) (one_less w) y b a q ∙ ap (λ (n : ℕ). n % 2 ^ w) (add_comm b a)

pub residue_add : (w : ℕ) (z y : ℤ) (a b : ℕ) → Agree w z a → Agree w y b → residue w (z +ℤ y) ≡ (a + b) % 2 ^ w
residue_add w z y a b p q =
    residue_lift w (z +ℤ y) ∙ M.lift_add (2 ^ w) (2 ^ w - 1) (one_less w) z y ∙ add_both w (lift_at w z) (lift_at w y) a b p q

pub residue_mul : (w : ℕ) (z y : ℤ) (a b : ℕ) → Agree w z a → Agree w y b → residue w (z *ℤ y) ≡ (a * b) % 2 ^ w
residue_mul w z y a b p q =
    residue_lift w (z *ℤ y) ∙ M.lift_mul (2 ^ w) (2 ^ w - 1) (one_less w) z y
    ∙ M.scale (2 ^ w) (2 ^ w - 1) (one_less w) (lift_at w z) a (lift_at w y) p
    ∙ M.scale_left (2 ^ w) (2 ^ w - 1) (one_less w) (lift_at w y) b a q

-- the difference is what, with b added, is a
pub residue_sub : (w : ℕ) (z y : ℤ) (a b r : ℕ) → Agree w z a → Agree w y b → (r + b) % 2 ^ w ≡ a % 2 ^ w → residue w (z -ℤ y) ≡ r % 2 ^ w
residue_sub w z y a b r p q h =
    residue_add w z (neg_ℤ y) a (b * (2 ^ w - 1)) p
    (M.lift_neg (2 ^ w) (2 ^ w - 1) (one_less w) y ∙ M.scale (2 ^ w) (2 ^ w - 1) (one_less w) (lift_at w y) b (2 ^ w - 1) q)
    ∙ M.plus (2 ^ w) (2 ^ w - 1) (one_less w) a (r + b) (b * (2 ^ w - 1)) (sym h)
    ∙ M.dropped (2 ^ w) (2 ^ w - 1) (one_less w) r b

-- ---- a conversion by way of more bits

residue_twice : (j w : ℕ) (z : ℤ) → residue (j + w) z % 2 ^ w ≡ residue w z
residue_twice j w (pos n) = mod-mod-pow n j w
residue_twice j w (negsuc n) =
    let l : n % 2 ^ (j + w) < 2 ^ (j + w) = mod-lt n (pow_pos (j + w)) in
    M.cancel (2 ^ w) (2 ^ w - 1) (one_less w) (2 ^ (j + w) - suc (n % 2 ^ (j + w))) (suc n * (2 ^ w - 1)) (suc n)
    (ap (λ (x : ℕ). x % 2 ^ w) {x = 2 ^ (j + w) - suc (n % 2 ^ (j + w)) + suc n} {y = 2 ^ (j + w) + n / 2 ^ (j + w) * 2 ^ (j + w)} (omega (arith, div-add-mod' n (2 ^ (j + w))))
    ∙ ap (λ (x : ℕ). x % 2 ^ w) (ap (λ (x : ℕ). x + n / 2 ^ (j + w) * x) (pow-add 2 j w) ∙ ap (λ (x : ℕ). 2 ^ j * 2 ^ w + x) (sym (mul_assoc (n / 2 ^ (j + w)) (2 ^ j) (2 ^ w))))
    ∙ add-mul-mod_self_right (2 ^ j * 2 ^ w) (n / 2 ^ (j + w) * 2 ^ j) (2 ^ w)
    ∙ mul-mod_left (2 ^ j) (2 ^ w)
    ∙ sym (mul-mod_left (suc n) (2 ^ w))
    ∙ ap (λ (x : ℕ). x % 2 ^ w) (sym (M.times (2 ^ w) (2 ^ w - 1) (one_less w) (suc n))))
    ∙ sym (residue_lift w (negsuc n))

pub residue_fewer : {w v : ℕ} → w ≤ v → (z : ℤ) → residue v z % 2 ^ w ≡ residue w z
residue_fewer {w} {v} h z = ap (λ (k : ℕ). residue k z % 2 ^ w) {x = v} {y = v - w + w} (omega arith) ∙ residue_twice (v - w) w z

pub residue_low : (bits : ℕ) (z : ℤ) → low_bits (residue 64 z) bits ≡ residue (width bits) z
residue_low bits z = residue_fewer (min-le_right bits 64) z

pub low_low : (bits n : ℕ) → low_bits (n % 2 ^ 64) bits ≡ low_bits n bits
low_low bits n = residue_low bits (pos n)
