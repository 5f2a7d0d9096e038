-- A value's bytes, read and written field by field. Assumes nothing.
use Rattle.std.proofs.Common.{◌≡◌, ℕ, zero, suc, ◌+◌, Bool, true, false, not, eqb, List, ◌++◌, length, refl, ap, ◌∙◌, arith}
use mir.Val.{bool_byte}
use lib.Dec.{eqb-suc-zero}
use lib.Seq.{sets}
use Rattle.layout.specs.Number.{le, number_at, put_number}
use Rattle.layout.specs.Format.{flag_of, bool_of}
use Rattle.layout.proofs.StoreLaws.{sets_append}
use Rattle.value.specs.declared.Val.{Val}
use Rattle.value.specs.Encoding.{val_bytes, val_at}

pub length_val_bytes : (v : Val) → length (val_bytes v) ≡ 14
unfolding val_bytes
length_val_bytes v = refl

pub flag_read : (n : ℕ) → not (eqb n 0) ≡ bool_of n
flag_read zero = refl
flag_read (suc n) = rw eqb-suc-zero

pub val_read : (s : List ℕ) (i a b c d : ℕ) → a ≡ number_at s i 1 → b ≡ number_at s (i + 1) 1 → c ≡ number_at s (i + 2) 4 → d ≡ number_at s (i + 6) 8
    → ◌≡◌ {A = Val} (record { known = not (eqb a 0); signed = not (eqb b 0); bits = c; number = d }) (val_at s i)
unfolding val_at
val_read s i a b c d p q r t = λ j. record {
  known = ◌∙◌ (flag_read a) (ap bool_of p) j;
  signed = ◌∙◌ (flag_read b) (ap bool_of q) j;
  bits = r j;
  number = t j;
}

pub flag_written : (b : Bool) → bool_byte b ≡ flag_of b
flag_written true = refl
flag_written false = refl

pub val_written : (s t u y z : List ℕ) (i : ℕ) (v : Val) → t ≡ put_number s i 1 (bool_byte v.known) → u ≡ put_number t (i + 1) 1 (bool_byte v.signed)
    → y ≡ put_number u (i + 2) 4 v.bits → z ≡ put_number y (i + 6) 8 v.number → z ≡ sets s i (val_bytes v)
unfolding put_number val_bytes
val_written s t u y z i v p q r e =
    let a = le 1 (flag_of v.known) in
    let b = le 1 (flag_of v.signed) in
    let c = le 4 v.bits in
    let d = le 8 v.number in
    let p' : t ≡ sets s i a = p ∙ ap (λ (n : ℕ). sets s i (le 1 n)) (flag_written v.known) in
    let q' : u ≡ sets t (i + 1) b = q ∙ ap (λ (n : ℕ). sets t (i + 1) (le 1 n)) (flag_written v.signed) in
    let whole : sets s i (a ++ (b ++ (c ++ d))) ≡ sets (sets (sets (sets s i a) (i + 1) b) (i + 2) c) (i + 6) d =
    sets_append a (b ++ (c ++ d)) s i ∙ sets_append b (c ++ d) (sets s i a) (i + 1)
    ∙ ap (λ (j : ℕ). sets (sets (sets s i a) (i + 1) b) j (c ++ d)) (omega arith)
    ∙ sets_append c d (sets (sets s i a) (i + 1) b) (i + 2)
    ∙ ap (λ (j : ℕ). sets (sets (sets (sets s i a) (i + 1) b) (i + 2) c) j d) (omega arith) in
    cc (whole, p', q', r, e)
