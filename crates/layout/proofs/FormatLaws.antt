-- What is written is read back, for each format (`Sound F P`: for the values of which P holds, and every value read is one). Assumes nothing.
use mathlib.Core.Path.{◌≡◌, refl, sym, ap, ◌∙◌, subst}
use mathlib.Core.Bool.{true}
use mathlib.Core.List.{List, [], ◌∷◌, ◌++◌, append_assoc}
use Prim.Native.Nat.{ℕ, zero, suc, ◌^◌, ◌≤◌, ◌<◌}
use native.Mathlib.Nat.{not-suc-le-zero}
use native.Mathlib.Omega.{arith}
use lib.ListN.{length, take, drop, length-append}
use lib.Seq.{take_at, drop_at}
use Rattle.layout.specs.Each.{Each}
use Rattle.layout.specs.Number.{le, num}
use Rattle.layout.proofs.NumberLaws.{length_le, num_le, num_take_lt}
use Rattle.layout.specs.Format.{Format, number, bool_of, then, pair, via, writes, reads, times, counted, every, whole}

pub record Sound {A : Type 0} (F : Format A) (P : A → Type 0) : Type 0 where
  pub back : (a : A) → P a → (rest : List ℕ) → F.read (F.write a ++ rest) ≡ (a, rest)
  pub fits : (bs : List ℕ) → P (F.read bs).0

abbrev pub Below : ℕ → ℕ → Type 0
Below k n = n < 256 ^ k

pub number_sound : (k : ℕ) → Sound (number k) (Below k)
number_sound k = record {
  back = λ n h rest. λ i.
      (◌∙◌ (ap num (take_at (le k n) rest k (length_le k n))) (num_le k n h) i, drop_at (le k n) rest k (length_le k n) i);
  fits = λ bs. num_take_lt k bs;
}

pub flag_set : (n : ℕ) → (n ≡ 0 → ⊥) → bool_of n ≡ true
flag_set zero h = absurd (h refl)
flag_set (suc n) h = refl

abbrev next : {A : Type 0} {B : A → Type 0} → ((a : A) → Format (B a)) → A × List ℕ → ((a : A) × B a) × List ℕ
next G r = let s = (G r.0).read r.1 in ((r.0, s.0), s.1)

module _ {A : Type 0} {B : A → Type 0} {F : Format A} {G : (a : A) → Format (B a)} {P : A → Type 0} {Q : (a : A) → B a → Type 0} where
  pub then_sound : Sound F P → ((a : A) → Sound (G a) (Q a)) → Sound (then F G) (λ p. P p.0 × Q p.0 p.1)
  then_sound f g = record {
    back = λ p h rest.
        ap (λ (bs : List ℕ). next G (F.read bs)) (append_assoc (F.write p.0) ((G p.0).write p.1) rest)
        ∙ ap (next G) (f.back p.0 h.0 ((G p.0).write p.1 ++ rest))
        ∙ ap (λ (s : B p.0 × List ℕ). ((p.0, s.0), s.1)) ((g p.0).back p.1 h.1 rest);
    fits = λ bs. (f.fits bs, (g (F.read bs).0).fits (F.read bs).1);
  }

module _ {A B : Type 0} {F : Format A} {G : Format B} {P : A → Type 0} {Q : B → Type 0} where
  pub pair_sound : Sound F P → Sound G Q → Sound (pair F G) (λ p. P p.0 × Q p.1)
  pair_sound f g = then_sound f (λ _. g)

module _ {A B : Type 0} {F : Format A} {P : A → Type 0} (from : B → A) (to : A → B) where
  pub via_sound : Sound F P → ((b : B) → to (from b) ≡ b) → (Q : B → Type 0) → ((b : B) → Q b → P (from b)) → ((a : A) → P a → Q (to a)) → Sound (via from to F) Q
  via_sound f e Q there here = record {
    back = λ b h rest.
        ap (λ (r : A × List ℕ). (to r.0, r.1)) (f.back (from b) (there b h) rest) ∙ ap (λ (x : B). (x, rest)) (e b);
    fits = λ bs. here (F.read bs).0 (f.fits bs);
  }

-- as many are read as are asked for
pub length_reads : {A : Type 0} (F : Format A) (n : ℕ) (bs : List ℕ) → length (reads F n bs).0 ≡ n
length_reads F zero bs = refl
length_reads F (suc n) bs = ap suc (length_reads F n (F.read bs).1)

module _ {A : Type 0} {F : Format A} {P : A → Type 0} (f : Sound F P) where
  pub reads_back : (xs : List A) → Each P xs → (rest : List ℕ) → reads F (length xs) (writes F xs ++ rest) ≡ (xs, rest)
  reads_back [] h rest = refl
  reads_back (x ∷ xs) h rest =
      ap (λ (bs : List ℕ). let r = F.read bs in let q = reads F (length xs) r.1 in (r.0 ∷ q.0, q.1)) (append_assoc (F.write x) (writes F xs) rest)
      ∙ ap (λ (r : A × List ℕ). let q = reads F (length xs) r.1 in (r.0 ∷ q.0, q.1)) (f.back x h.0 (writes F xs ++ rest))
      ∙ ap (λ (q : List A × List ℕ). (x ∷ q.0, q.1)) (reads_back xs h.1 rest)

  reads_fits : (n : ℕ) (bs : List ℕ) → Each P (reads F n bs).0
  reads_fits zero bs = tt
  reads_fits (suc n) bs = (f.fits bs, reads_fits n (F.read bs).1)

  pub times_sound : (n : ℕ) → Sound (times n F) (λ xs. (length xs ≡ n) × Each P xs)
  times_sound n = record {
    back = λ xs h rest. subst (λ (m : ℕ). reads F m (writes F xs ++ rest) ≡ (xs, rest)) h.0 (reads_back xs h.1 rest);
    fits = λ bs. (length_reads F n bs, reads_fits n bs);
  }

  pub counted_sound : (k : ℕ) → Sound (counted k F) (λ xs. Below k (length xs) × Each P xs)
  counted_sound k = record {
    back = λ xs h rest.
        ap (λ (bs : List ℕ). reads F (num (take k bs)) (drop k bs)) (append_assoc (le k (length xs)) (writes F xs) rest)
        ∙ ap (λ (r : ℕ × List ℕ). reads F r.0 r.1) ((number_sound k).back (length xs) h.0 (writes F xs ++ rest))
        ∙ reads_back xs h.1 rest;
    fits = λ bs. (rw length_reads (num_take_lt k bs), reads_fits (num (take k bs)) (drop k bs));
  }

  pub every_fits : (n : ℕ) (bs : List ℕ) → Each P (every F n bs)
  every_fits zero bs = tt
  every_fits (suc n) [] = tt
  every_fits (suc n) (b ∷ bs) = (f.fits (b ∷ bs), every_fits n (F.read (b ∷ bs)).1)

  every_step : (n : ℕ) (bs : List ℕ) → 0 < length bs → every F (suc n) bs ≡ (F.read bs).0 ∷ every F n (F.read bs).1
  every_step n [] h = absurd (not-suc-le-zero h)
  every_step n (b ∷ bs) h = refl

  module _ (some_bytes : (a : A) → 0 < length (F.write a)) where
    every_back : (xs : List A) (n : ℕ) → length xs ≤ n → Each P xs → every F n (writes F xs) ≡ xs
    every_back [] zero l h = refl
    every_back [] (suc n) l h = refl
    every_back (x ∷ xs) zero l h = absurd (not-suc-le-zero l)
    every_back (x ∷ xs) (suc n) l h =
        every_step n (F.write x ++ writes F xs) (omega (arith, length-append (F.write x) (writes F xs), some_bytes x))
        ∙ ap (λ (r : A × List ℕ). r.0 ∷ every F n r.1) (f.back x h.0 (writes F xs))
        ∙ ap (λ (ys : List A). x ∷ ys) (every_back xs n (omega arith) h.1)

    writes_long : (xs : List A) → length xs ≤ length (writes F xs)
    writes_long [] = omega arith
    writes_long (x ∷ xs) = omega (arith, length-append (F.write x) (writes F xs), some_bytes x, writes_long xs)

    -- what a body was written from is what it holds
    pub whole_back : (xs : List A) → Each P xs → whole F (writes F xs) ≡ xs
    whole_back xs h = every_back xs (length (writes F xs)) (writes_long xs) h

pub writes_append : {A : Type 0} (F : Format A) (xs ys : List A) → writes F (xs ++ ys) ≡ writes F xs ++ writes F ys
writes_append F [] ys = refl
writes_append F (x ∷ xs) ys = ap (λ (r : List ℕ). F.write x ++ r) (writes_append F xs ys) ∙ sym (append_assoc (F.write x) (writes F xs) (writes F ys))
