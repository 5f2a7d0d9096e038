-- Laws of `reading`: the integer that bits stand for is congruent to them, and which integer it is.
-- Assumes nothing.
use Rattle.std.proofs.Common.{◌≡◌, ℕ, zero, suc, ◌-◌, ◌/◌, ◌%◌, ◌^◌, ◌<◌, ◌≤◌, Bool, true, false, cond, not, ltb, leb, ℤ, pos, negsuc, ◌-ℤ◌, neg_ℤ, sym, refl, ap, ◌∙◌, not-suc-le-zero, mod-lt, mul_comm, add_comm, pow-suc, zero-add, sub-one, arith, pow_pos, eqb, ne_eqb, ltb-false, ltb-true, le-ltb, lt-ltb, le-leb}
use mathlib.Core.Bool.{false≢true}
use native.Mathlib.Nat.{zero-mod, mod-mod, mul-mod_left}
use borrow.Author.Tests.{lt-leb}
use lib.Signed.{lt_z, le_z}
use Rattle.value.specs.declared.Ty.{Ty}
use Rattle.value.specs.Width.{width, low_bits, reading, is_negative}
use Rattle.value.specs.Value.{read_as, as_bool}
use Rattle.value.proofs.Modular as M
use Rattle.value.proofs.Residue.{one_less, Agree}

-- ---- the integer is congruent to the bits

agree_wrapped : (w n : ℕ) → Agree w (pos n -ℤ pos (2 ^ w)) n
agree_wrapped w n =
    M.lift_add (2 ^ w) (2 ^ w - 1) (one_less w) (pos n) (neg_ℤ (pos (2 ^ w)))
    ∙ ap (λ (x : ℕ). x % 2 ^ w) (add_comm n (M.lift (2 ^ w) (2 ^ w - 1) (one_less w) (neg_ℤ (pos (2 ^ w)))))
    ∙ M.plus (2 ^ w) (2 ^ w - 1) (one_less w) (M.lift (2 ^ w) (2 ^ w - 1) (one_less w) (neg_ℤ (pos (2 ^ w)))) 0 n
    (M.lift_neg (2 ^ w) (2 ^ w - 1) (one_less w) (pos (2 ^ w)) ∙ ap (λ (x : ℕ). x % 2 ^ w) (mul_comm (2 ^ w) (2 ^ w - 1)) ∙ mul-mod_left (2 ^ w - 1) (2 ^ w) ∙ sym (zero-mod (2 ^ w)))
    ∙ ap (λ (x : ℕ). x % 2 ^ w) (zero-add n)

agree_either : (w n : ℕ) (t : Bool) → Agree w (cond t (pos n) (pos n -ℤ pos (2 ^ w))) n
agree_either w n true = refl
agree_either w n false = agree_wrapped w n

agree_reading : (s : Bool) (w n : ℕ) → Agree w (reading s w n) n
agree_reading false w n = refl
agree_reading true w n = agree_either w n (ltb n (2 ^ (w - 1)))

pub agree_read : (t : Ty) (n : ℕ) → Agree (width t.bits) (read_as t n) n
agree_read t n = agree_reading t.signed (width t.bits) (low_bits n t.bits) ∙ mod-mod n (2 ^ width t.bits)

-- ---- which integer it is

below_half : (w n : ℕ) → n ≤ (2 ^ w - 1) / 2 → n < 2 ^ (w - 1)
below_half zero n h = omega arith
below_half (suc k) n h = rw (sub-one (suc k)) (omega (arith, pow-suc 2 k, pow_pos k))

above_half : (w n : ℕ) → (2 ^ w - 1) / 2 < n → n < 2 ^ w → 2 ^ (w - 1) ≤ n
above_half zero n h l = omega arith
above_half (suc k) n h l = rw (sub-one (suc k)) (omega (arith, pow-suc 2 k, pow_pos k))

pub reading_low : (w n : ℕ) → n ≤ (2 ^ w - 1) / 2 → reading true w n ≡ pos n
reading_low w n h = ap (λ (t : Bool). cond t (pos n) (pos n -ℤ pos (2 ^ w))) (lt-ltb n (2 ^ (w - 1)) (below_half w n h))

minus : (n N : ℕ) → n < N → pos n -ℤ pos N ≡ negsuc (N - suc n)
minus n zero h = absurd (not-suc-le-zero h)
minus n (suc N) h = ap (λ (t : Bool). cond t (negsuc (suc N - suc n)) (pos (n - suc N))) (lt-ltb n (suc N) h)

pub reading_high : (w n : ℕ) → (2 ^ w - 1) / 2 < n → n < 2 ^ w → reading true w n ≡ negsuc (2 ^ w - suc n)
reading_high w n h l =
    ap (λ (t : Bool). cond t (pos n) (pos n -ℤ pos (2 ^ w))) (le-ltb n (2 ^ (w - 1)) (above_half w n h l)) ∙ minus n (2 ^ w) l

-- ---- its sign, and what it is by its sign

pub bits_lt : (n bits : ℕ) → low_bits n bits < 2 ^ width bits
bits_lt n bits = mod-lt n (pow_pos (width bits))

sign_by : (w n : ℕ) → n < 2 ^ w → (b : Bool) → ltb ((2 ^ w - 1) / 2) n ≡ b → b ≡ is_negative (reading true w n)
sign_by w n l true h = sym (ap is_negative (reading_high w n (ltb-true ((2 ^ w - 1) / 2) n h) l))
sign_by w n l false h = sym (ap is_negative (reading_low w n (ltb-false ((2 ^ w - 1) / 2) n h)))

-- a number above half the mask is below zero
pub sign_law : (w n : ℕ) → n < 2 ^ w → ltb ((2 ^ w - 1) / 2) n ≡ is_negative (reading true w n)
sign_law w n l = sign_by w n l (ltb ((2 ^ w - 1) / 2) n) refl

pub negative_is : (t : Ty) (n : ℕ) → t.signed ≡ true → ltb ((2 ^ width t.bits - 1) / 2) (low_bits n t.bits) ≡ is_negative (read_as t n)
negative_is t n e =
    sign_law (width t.bits) (low_bits n t.bits) (bits_lt n t.bits)
    ∙ ap (λ (s : Bool). is_negative (reading s (width t.bits) (low_bits n t.bits))) (sym e)

pub above : (s : Bool) (w n : ℕ) → n < 2 ^ w → is_negative (reading s w n) ≡ true → (2 ^ w - 1) / 2 < n
above true w n l h = ltb-true ((2 ^ w - 1) / 2) n (sign_law w n l ∙ h)
above false w n l h = absurd (false≢true h)

pub read_minus : (s : Bool) (w n : ℕ) → n < 2 ^ w → is_negative (reading s w n) ≡ true → reading s w n ≡ negsuc (2 ^ w - suc n)
read_minus true w n l h = reading_high w n (above true w n l h) l
read_minus false w n l h = absurd (false≢true h)

pub read_plus : (s : Bool) (w n : ℕ) → n < 2 ^ w → is_negative (reading s w n) ≡ false → reading s w n ≡ pos n
read_plus true w n l h = reading_low w n (ltb-false ((2 ^ w - 1) / 2) n (sign_law w n l ∙ h))
read_plus false w n l h = refl

-- ---- whether it is 0

-- it is 0 where its bits are
pub as_bool_read : (s : Bool) (w n : ℕ) → n < 2 ^ w → as_bool (reading s w n) ≡ pos (cond (eqb n 0) 0 1)
as_bool_read s w n l = by_sign (is_negative (reading s w n)) refl
  where
    by_sign : (b : Bool) → is_negative (reading s w n) ≡ b → as_bool (reading s w n) ≡ pos (cond (eqb n 0) 0 1)
    by_sign true h = rw (read_minus s w n l h, ne_eqb n 0 (λ e. omega (arith, e, above s w n l h))) refl
    by_sign false h = ap as_bool (read_plus s w n l h)

-- ---- the order

leb_not : (a b : ℕ) (t : Bool) → ltb b a ≡ t → not t ≡ leb a b
leb_not a b true h = sym (lt-leb a b (ltb-true b a h))
leb_not a b false h = sym (le-leb a b (ltb-false b a h))

-- at most is not above
pub le_z_not : (x y : ℤ) → not (lt_z y x) ≡ le_z x y
le_z_not (pos a) (pos b) = leb_not a b (ltb b a) refl
le_z_not (pos a) (negsuc b) = refl
le_z_not (negsuc a) (pos b) = refl
le_z_not (negsuc a) (negsuc b) = leb_not b a (ltb a b) refl
