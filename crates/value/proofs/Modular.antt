-- Congruence modulo N, for numbers and for integers. `m` is N less 1, which stands for -1.
-- Assumes nothing.
use Rattle.std.proofs.Common.{◌≡◌, ℕ, zero, suc, ◌+◌, ◌-◌, ◌*◌, ◌/◌, ◌%◌, ◌<◌, ◌≤◌, Bool, true, false, cond, ltb, ℤ, pos, negsuc, ◌+ℤ◌, ◌*ℤ◌, neg_ℤ, sym, refl, ap, ◌∙◌, mul_assoc, mul_comm, add-mul, add_comm, div-add-mod', zero-mul, mul-one, mul-add, arith, ltb-false, ltb-true}
use native.Mathlib.Nat.{add-mul-mod_self_right, mul-add-mod_self_right, mod-add-mod, mul-mod_left}

module _ (N m : ℕ) (e : m + 1 ≡ N) where
  -- k and k times -1 add up to a multiple of N
  pub times : (k : ℕ) → k * m + k ≡ k * N
  times k = sym (ap (λ (x : ℕ). k * x) (sym e) ∙ mul-add k m 1 ∙ ap (λ (x : ℕ). k * m + x) (mul-one k))

  pub plus : (x y k : ℕ) → x % N ≡ y % N → (x + k) % N ≡ (y + k) % N
  plus x y k h = sym (mod-add-mod x N k) ∙ ap (λ (r : ℕ). (r + k) % N) h ∙ mod-add-mod y N k

  pub dropped : (x k : ℕ) → (x + k + k * m) % N ≡ x % N
  dropped x k = ap (λ (n : ℕ). n % N) (omega (arith, times k)) ∙ add-mul-mod_self_right x k N

  pub cancel : (x y k : ℕ) → (x + k) % N ≡ (y + k) % N → x % N ≡ y % N
  cancel x y k h = sym (dropped x k) ∙ plus (x + k) (y + k) (k * m) h ∙ dropped y k

  mod_mul : (x k : ℕ) → (x % N * k) % N ≡ (x * k) % N
  mod_mul x k =
      sym (mul-add-mod_self_right (x / N * k) N (x % N * k))
      ∙ ap (λ (n : ℕ). n % N) (ap (λ (n : ℕ). n + x % N * k) (mul_assoc (x / N) k N ∙ ap (λ (n : ℕ). x / N * n) (mul_comm k N) ∙ sym (mul_assoc (x / N) N k)) ∙ sym (add-mul (x / N * N) (x % N) k) ∙ ap (λ (n : ℕ). n * k) (div-add-mod' x N))

  pub scale : (x y k : ℕ) → x % N ≡ y % N → (x * k) % N ≡ (y * k) % N
  scale x y k h = sym (mod_mul x k) ∙ ap (λ (r : ℕ). (r * k) % N) h ∙ mod_mul y k

  pub scale_left : (x y k : ℕ) → x % N ≡ y % N → (k * x) % N ≡ (k * y) % N
  scale_left x y k h = ap (λ (n : ℕ). n % N) (mul_comm k x) ∙ scale x y k h ∙ ap (λ (n : ℕ). n % N) (mul_comm y k)

  -- -1 times -1 is 1
  square : (k : ℕ) → (k * m * m) % N ≡ k % N
  square k = cancel (k * m * m) k (k * m) (ap (λ (n : ℕ). n % N) (times (k * m)) ∙ mul-mod_left (k * m) N ∙ sym (mul-mod_left k N) ∙ ap (λ (n : ℕ). n % N) (sym (times k) ∙ add_comm (k * m) k))

  -- ---- integers, as numbers that are congruent to them

  abbrev pub lift : ℤ → ℕ
  lift (pos n) = n
  lift (negsuc n) = suc n * m

  lift_minus : (n : ℕ) → lift (neg_ℤ (pos n)) ≡ n * m
  lift_minus zero = sym (zero-mul m)
  lift_minus (suc n) = refl

  pub lift_neg : (z : ℤ) → lift (neg_ℤ z) % N ≡ (lift z * m) % N
  lift_neg (pos n) = ap (λ (k : ℕ). k % N) (lift_minus n)
  lift_neg (negsuc n) = sym (square (suc n))

  sub_law : (a b : ℕ) (t : Bool) → ltb a (suc b) ≡ t → lift (cond t (negsuc (suc b - suc a)) (pos (a - suc b))) % N ≡ (a + suc b * m) % N
  sub_law a b true h =
      let l : a < suc b = ltb-true a (suc b) h in
      sym (add-mul-mod_self_right (suc (suc b - suc a) * m) a N)
      ∙ ap (λ (n : ℕ). n % N) (omega (arith, times a, sym (add-mul (suc (suc b - suc a)) a m) ∙ ap (λ (k : ℕ). k * m) {x = suc (suc b - suc a) + a} {y = suc b} (omega arith)))
  sub_law a b false h =
      let l : suc b ≤ a = ltb-false a (suc b) h in
      sym (add-mul-mod_self_right (a - suc b) (suc b) N)
      ∙ ap (λ (n : ℕ). n % N) (omega (arith, times (suc b)))

  pub lift_add : (x y : ℤ) → lift (x +ℤ y) % N ≡ (lift x + lift y) % N
  lift_add (pos a) (pos b) = refl
  lift_add (pos a) (negsuc b) = sub_law a b (ltb a (suc b)) refl
  lift_add (negsuc a) (pos b) = sub_law b a (ltb b (suc a)) refl ∙ ap (λ (n : ℕ). n % N) (add_comm b (suc a * m))
  lift_add (negsuc a) (negsuc b) = ap (λ (n : ℕ). n % N) (ap (λ (k : ℕ). k * m) {x = suc (suc (a + b))} {y = suc a + suc b} (omega arith) ∙ add-mul (suc a) (suc b) m)

  pub lift_mul : (x y : ℤ) → lift (x *ℤ y) % N ≡ (lift x * lift y) % N
  lift_mul (pos a) (pos b) = refl
  lift_mul (pos a) (negsuc b) = ap (λ (n : ℕ). n % N) (lift_minus (a * suc b) ∙ mul_assoc a (suc b) m)
  lift_mul (negsuc a) (pos b) =
      ap (λ (n : ℕ). n % N) (lift_minus (suc a * b) ∙ mul_assoc (suc a) b m ∙ ap (λ (n : ℕ). suc a * n) (mul_comm b m) ∙ sym (mul_assoc (suc a) m b))
  lift_mul (negsuc a) (negsuc b) =
      sym (square (suc a * suc b))
      ∙ ap (λ (n : ℕ). n % N)
      (mul_assoc (suc a * suc b) m m ∙ mul_assoc (suc a) (suc b) (m * m) ∙ ap (λ (n : ℕ). suc a * n) (sym (mul_assoc (suc b) m m) ∙ mul_comm (suc b * m) m) ∙ sym (mul_assoc (suc a) m (suc b * m)))
