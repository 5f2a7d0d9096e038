-- A word that is congruent to an integer converts as the integer does. The arithmetic, one law for each operation.
-- Assumes nothing.
use Rattle.std.proofs.Common.{◌≡◌, ℕ, suc, ◌+◌, ◌-◌, ◌*◌, ◌/◌, ◌%◌, ◌^◌, ◌<◌, ◌≤◌, Bool, true, false, cond, not, eqb, ℤ, pos, negsuc, ◌+ℤ◌, ◌-ℤ◌, ◌*ℤ◌, nat_abs, sym, refl, ap, ◌∙◌, ◌==◌, ne_eqb, Option, None, Some, Ok, lt_of_le_of_lt, mod-eq_of_lt, div-le_self, arith}
use mathlib.Core.Bool.{beq, false≢true}
use native.Mathlib.Nat.{zero-mod}
use lib.Bits.{and_le_r}
use lib.Signed.{mag, quot_z, rem_z, shr_z}
use mir.Val.{bool_byte}
use Rattle.std.specs.Prelude.{SomeIff}
use Rattle.value.specs.declared.Ty.{Ty}
use Rattle.value.specs.declared.Val.{Val}
use Rattle.value.specs.declared.Operands.{Operands}
use Rattle.value.specs.Width.{width, low_bits, residue, is_negative, sized}
use Rattle.value.specs.Value.{type_of_val, read_as, meaning, known_val, unknown_val, convert, as_bool, cast_to}
use Rattle.value.specs.Operators.{result_of, arithmetic, division, divided, count_of}
use Rattle.value.proofs.Pick.{pick_true, pick_false}
use Rattle.value.proofs.Residue.{residue_of, residue_fewer, residue_low, low_low, residue_add, residue_sub, residue_mul}
use Rattle.value.proofs.Reading.{agree_read, as_bool_read, bits_lt, read_minus, read_plus}
use Rattle.value.proofs.Word.{width_le}

pub known_is : (n : ℕ) (z : ℤ) (t : Ty) → low_bits n t.bits ≡ residue (width t.bits) z → known_val n t ≡ convert z t
known_is n z t h i = record { known = true; signed = t.signed; bits = t.bits; number = h i }

-- a word converts as the integer that it stands for
pub word_is : (n : ℕ) (z : ℤ) (t : Ty) → n ≡ residue 64 z → known_val n t ≡ convert z t
word_is n z t h = known_is n z t (ap (λ (k : ℕ). low_bits k t.bits) h ∙ residue_low t.bits z)

-- in a type that is no wider, a value's number has the low bits of the integer that it stands for
narrower : (v : Val) {bits : ℕ} → bits ≤ v.bits → low_bits v.number bits ≡ residue (width bits) (meaning v)
narrower v {bits} h =
    let fewer : width bits ≤ width v.bits = omega arith in
    sym (residue_fewer fewer (pos v.number))
    ∙ ap (λ (n : ℕ). low_bits n bits) (sym (residue_of (width v.bits) (meaning v) v.number (agree_read (type_of_val v) v.number)))
    ∙ residue_fewer fewer (meaning v)

-- ---- the number of a value converted to a type

pub byte_of : (b : Bool) → bool_byte b ≡ cond b 1 0
byte_of true = refl
byte_of false = refl

byte_not : (b : Bool) → bool_byte (not b) ≡ cond b 0 1
byte_not true = refl
byte_not false = refl

module _ (v : Val) (t : Ty) where
  -- the integer whose residue it is
  abbrev integer : ℤ
  integer = cond t.boolean (as_bool (meaning v)) (meaning v)

  known_number : v.known ≡ true → {z : ℤ} → z ≡ integer → residue (width t.bits) z ≡ (cast_to v t).number
  known_number h e = ap (residue (width t.bits)) e ∙ ap (λ (c : Val). c.number) (pick_true (unknown_val t) h)

  pub cast_bool : v.known ≡ true → t.boolean ≡ true → low_bits (bool_byte (not (eqb (low_bits v.number v.bits) 0))) t.bits ≡ (cast_to v t).number
  cast_bool h b =
      let n = low_bits v.number v.bits in
      ap (λ (k : ℕ). low_bits k t.bits) (byte_not (eqb n 0))
      ∙ known_number h (sym (as_bool_read v.signed (width v.bits) n (bits_lt v.number v.bits)) ∙ pick_true (meaning v) b)

  pub cast_narrower : v.known ≡ true → t.boolean ≡ false → t.bits ≤ v.bits → low_bits v.number t.bits ≡ (cast_to v t).number
  cast_narrower h b l = narrower v l ∙ known_number h (pick_false (as_bool (meaning v)) b)

  pub cast_wider : {n : ℕ} → v.known ≡ true → t.boolean ≡ false → n ≡ residue 64 (meaning v) → low_bits n t.bits ≡ (cast_to v t).number
  cast_wider {n} h b e = ap (λ (c : Val). c.number) (word_is n (meaning v) t e) ∙ known_number h (pick_false (as_bool (meaning v)) b)

  pub cast_unknown : v.known ≡ false → low_bits 0 t.bits ≡ (cast_to v t).number
  cast_unknown h = zero-mod (2 ^ width t.bits) ∙ ap (λ (c : Val). c.number) (pick_false (convert integer t) h)

module _ (p : Operands) where
  pub result_is : (f : ℤ → ℤ → ℤ) (n : ℕ) → known_val n p.ty ≡ convert (f (read_as p.ty p.a) (read_as p.ty p.b)) p.ty → result_of p (known_val n p.ty) ≡ arithmetic f p
  unfolding arithmetic
  result_is f n h = ap (result_of p) h

  pub sum_is : result_of p (known_val ((p.a + p.b) % 2 ^ 64) p.ty) ≡ arithmetic ◌+ℤ◌ p
  sum_is =
      result_is ◌+ℤ◌ ((p.a + p.b) % 2 ^ 64)
      (known_is ((p.a + p.b) % 2 ^ 64) (read_as p.ty p.a +ℤ read_as p.ty p.b) p.ty
      (low_low p.ty.bits (p.a + p.b)
      ∙ sym (residue_add (width p.ty.bits) (read_as p.ty p.a) (read_as p.ty p.b) p.a p.b (agree_read p.ty p.a) (agree_read p.ty p.b))))

  pub difference_is : p.b < 2 ^ 64 → result_of p (known_val ((p.a + (2 ^ 64 - p.b)) % 2 ^ 64) p.ty) ≡ arithmetic ◌-ℤ◌ p
  difference_is h =
      let n : ℕ = (p.a + (2 ^ 64 - p.b)) % 2 ^ 64 in
      let e : (n + p.b) % 2 ^ 64 ≡ p.a % 2 ^ 64 = omega arith in
      result_is ◌-ℤ◌ n
      (known_is n (read_as p.ty p.a -ℤ read_as p.ty p.b) p.ty
      (sym (residue_sub (width p.ty.bits) (read_as p.ty p.a) (read_as p.ty p.b) p.a p.b n (agree_read p.ty p.a) (agree_read p.ty p.b)
      (sym (low_low p.ty.bits (n + p.b)) ∙ ap (λ (k : ℕ). low_bits k p.ty.bits) e ∙ low_low p.ty.bits p.a))))

  pub product_is : result_of p (known_val (p.a * p.b % 2 ^ 64) p.ty) ≡ arithmetic ◌*ℤ◌ p
  product_is =
      result_is ◌*ℤ◌ (p.a * p.b % 2 ^ 64)
      (known_is (p.a * p.b % 2 ^ 64) (read_as p.ty p.a *ℤ read_as p.ty p.b) p.ty
      (low_low p.ty.bits (p.a * p.b)
      ∙ sym (residue_mul (width p.ty.bits) (read_as p.ty p.a) (read_as p.ty p.b) p.a p.b (agree_read p.ty p.a) (agree_read p.ty p.b))))

-- ---- division, by signs and magnitudes

pub quotient_sized : (x y : ℤ) → sized (not (beq (is_negative x) (is_negative y))) (nat_abs x / nat_abs y) ≡ quot_z x y
quotient_sized (pos a) (pos b) = refl
quotient_sized (pos a) (negsuc b) = refl
quotient_sized (negsuc a) (pos b) = refl
quotient_sized (negsuc a) (negsuc b) = refl

pub remainder_sized : (x y : ℤ) → sized (is_negative x) (nat_abs x % nat_abs y) ≡ rem_z x y
remainder_sized (pos a) y = refl
remainder_sized (negsuc a) y = refl

-- a division by signs and magnitudes gives what the integers do
divided_is : (p : Operands) (f : ℤ → ℤ → ℤ) (minus : Bool) (y magnitude : ℕ) (o : Option ℕ)
    → sized minus magnitude ≡ f (read_as p.ty p.a) (read_as p.ty p.b) → y ≡ nat_abs (read_as p.ty p.b) → SomeIff o (0 < y) magnitude → divided p minus o ≡ division f p
unfolding division divided
divided_is p f minus y magnitude None e v h = let z : nat_abs (read_as p.ty p.b) ≡ 0 = omega (arith, h) in sym (rw z refl)
divided_is p f minus y magnitude (Some n) e v h =
    let t : (nat_abs (read_as p.ty p.b) == 0) ≡ false = ne_eqb _ _ (λ z. omega (arith, z, h.0)) in
    ap Ok (result_is p f _ (word_is _ _ p.ty (ap (residue 64) (ap (sized minus) h.1 ∙ e)))) ∙ sym (rw t refl)

module _ (p : Operands) (o : Option ℕ) (x y : ℕ) where
  pub quotient_is : (i j : Bool) → i ≡ is_negative (read_as p.ty p.a) → j ≡ is_negative (read_as p.ty p.b)
      → x ≡ nat_abs (read_as p.ty p.a) → y ≡ nat_abs (read_as p.ty p.b) → SomeIff o (0 < y) (x / y) → divided p (not (beq i j)) o ≡ division quot_z p
  quotient_is i j k l u v s = divided_is p quot_z _ y _ o (rw (k, l, u, v) (quotient_sized (read_as p.ty p.a) (read_as p.ty p.b))) v s

  pub remainder_is : (i : Bool) → i ≡ is_negative (read_as p.ty p.a)
      → x ≡ nat_abs (read_as p.ty p.a) → y ≡ nat_abs (read_as p.ty p.b) → SomeIff o (0 < y) (x % y) → divided p i o ≡ division rem_z p
  remainder_is i k u v s = divided_is p rem_z _ y _ o (rw (k, u, v) (remainder_sized (read_as p.ty p.a) (read_as p.ty p.b))) v s

-- ---- shifts

pub count_lt : (l r : Val) → count_of l r < 64
count_lt l r = omega (arith, and_le_r (low_bits r.number r.bits) (width l.bits - 1))

pub left_is : (v : Val) (k : ℕ) → known_val (v.number * k % 2 ^ 64) (type_of_val v) ≡ convert (meaning v *ℤ pos k) (type_of_val v)
left_is v k =
    known_is (v.number * k % 2 ^ 64) (meaning v *ℤ pos k) (type_of_val v)
    (low_low v.bits (v.number * k)
    ∙ sym (residue_mul (width v.bits) (meaning v) (pos k) v.number k (agree_read (type_of_val v) v.number) refl))

mag_by : (t : Ty) (n : ℕ) (b : Bool) → is_negative (read_as t n) ≡ b → mag (read_as t n) < 2 ^ 64
mag_by t n true h =
    let l : low_bits n t.bits < 2 ^ width t.bits = bits_lt n t.bits in
    omega (arith, width_le t.bits, ap mag (read_minus t.signed (width t.bits) (low_bits n t.bits) l h))
mag_by t n false h =
    let l : low_bits n t.bits < 2 ^ width t.bits = bits_lt n t.bits in
    omega (arith, width_le t.bits, ap mag (read_plus t.signed (width t.bits) (low_bits n t.bits) l h))

-- what a number stands for is within 64 bits of zero
pub mag_lt : (t : Ty) (n : ℕ) → mag (read_as t n) < 2 ^ 64
mag_lt t n = mag_by t n (is_negative (read_as t n)) refl

pub right_minus : (z : ℤ) (m : ℕ) → mag z < 2 ^ 64 → is_negative z ≡ true → 2 ^ 64 - 1 - (2 ^ 64 - 1 - residue 64 z) / m ≡ residue 64 (shr_z z m)
right_minus (pos a) m l h = absurd (false≢true h)
right_minus (negsuc a) m l h =
    ap (λ (x : ℕ). 2 ^ 64 - 1 - x / m) {x = 2 ^ 64 - 1 - (2 ^ 64 - suc (a % 2 ^ 64))} {y = a} (omega (arith, mod-eq_of_lt l))
    ∙ omega (arith, mod-eq_of_lt (lt_of_le_of_lt (div-le_self a m) l))

-- the complement of a word below zero is shifted, and complemented again
pub right_below : (l r : Val) → is_negative (meaning l) ≡ true → known_val (2 ^ 64 - 1 - (2 ^ 64 - 1 - residue 64 (meaning l)) / 2 ^ count_of l r) (type_of_val l) ≡ convert (shr_z (meaning l) (2 ^ count_of l r)) (type_of_val l)
right_below l r h =
    word_is _ (shr_z (meaning l) (2 ^ count_of l r)) (type_of_val l) (right_minus (meaning l) (2 ^ count_of l r) (mag_lt (type_of_val l) l.number) h)
