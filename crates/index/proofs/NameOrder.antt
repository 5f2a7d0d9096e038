-- The order of names as bytes: it is the library's, and an order. Assumes nothing.
use mathlib.Core.Path.{◌≡◌, refl, sym, ap, ◌∙◌}
use mathlib.Core.Bool.{cond, Bool, true, false, ◌&&◌, ◌||◌, true≢false}
use mathlib.Core.Logic.{◌⊎◌, inl, inr, ⊎_elim}
use mathlib.Core.List.{List, [], ◌∷◌}
use Prim.Native.Nat.{ℕ, ◌<◌}
use native.Mathlib.Omega.{arith}
use borrow.Author.Tests.{lt-ltb, le-ltb, eq-eqb, ne_eqb, ltb-true, ltb-false, eqb-true, eqb-false}
use lib.Dec.{ltb, eqb}
use Rattle.layout.specs.Text.{same}
use Rattle.files.specs.Names.{before}
use Rattle.std.specs.Cmp.Lexicographic.{slice_cmp}
use Rattle.std.specs.Ordering.{nat_cmp, ordering_then}
use Rattle.std.specs.declared.cmp.Ordering.{Ordering}
use Rattle.std.specs.declared.cmp.Ordering.TheVariants.{Less, Equal, Greater}

-- ---- two names as the library compares them

abbrev ordered : (before same : Bool) → Ordering
ordered true t = Less
ordered false true = Equal
ordered false false = Greater

order : (a b : List ℕ) → slice_cmp nat_cmp a b ≡ ordered (before a b) (same a b)
unfolding before
order [] [] = refl
order [] (y ∷ ys) = refl
order (x ∷ xs) [] = refl
order (x ∷ xs) (y ∷ ys) = go (ltb x y) (eqb x y) (order xs ys)
  where
    go : (t u : Bool) → slice_cmp nat_cmp xs ys ≡ ordered (before xs ys) (same xs ys)
        → ordering_then (cond t Less (cond u Equal Greater)) (slice_cmp nat_cmp xs ys) ≡ ordered (t || (u && before xs ys)) (u && same xs ys)
    go true u h = refl
    go false true h = h
    go false false h = refl

-- ---- what the three answers say

abbrev number : Ordering → ℕ
number Less = 0
number Equal = 1
number Greater = 2

told : (t u : Bool) (r : Ordering) → r ≡ ordered t u → (r ≡ Less → t ≡ true) × (r ≡ Equal → u ≡ true) × (r ≡ Greater → (t ≡ false) × (u ≡ false))
told true u r e = ((λ z. refl), (λ z. absurd (omega (arith, ap number (sym e ∙ z)))), λ z. absurd (omega (arith, ap number (sym e ∙ z))))
told false true r e = ((λ z. absurd (omega (arith, ap number (sym e ∙ z)))), (λ z. refl), λ z. absurd (omega (arith, ap number (sym e ∙ z))))
told false false r e = ((λ z. absurd (omega (arith, ap number (sym e ∙ z)))), (λ z. absurd (omega (arith, ap number (sym e ∙ z)))), λ z. (refl, refl))

module _ (a b : List ℕ) (r : Ordering) (e : r ≡ slice_cmp nat_cmp a b) where
  pub told_less : r ≡ Less → before a b ≡ true
  told_less = (told (before a b) (same a b) r (e ∙ order a b)).0

  pub told_equal : r ≡ Equal → same a b ≡ true
  told_equal = (told (before a b) (same a b) r (e ∙ order a b)).1

  pub told_greater : r ≡ Greater → (before a b ≡ false) × (same a b ≡ false)
  told_greater = (told (before a b) (same a b) r (e ∙ order a b)).2

-- ---- an order

module _ (x y : ℕ) (xs ys : List ℕ) where
  heads : before (x ∷ xs) (y ∷ ys) ≡ true → (x < y) ⊎ ((x ≡ y) × (before xs ys ≡ true))
  unfolding before
  heads h = go (ltb x y) refl (eqb x y) refl h
    where
      go : (t : Bool) → ltb x y ≡ t → (u : Bool) → eqb x y ≡ u → (t || (u && before xs ys)) ≡ true → (x < y) ⊎ ((x ≡ y) × (before xs ys ≡ true))
      go true p u q g = inl (ltb-true x y p)
      go false p true q g = inr (eqb-true x y q, g)
      go false p false q g = absurd (true≢false (sym g))

  head_less : x < y → before (x ∷ xs) (y ∷ ys) ≡ true
  unfolding before
  head_less h = rw (lt-ltb x y h)

  head_same : x ≡ y → before (x ∷ xs) (y ∷ ys) ≡ before xs ys
  unfolding before
  head_same h = rw (le-ltb x y (omega arith), eq-eqb x y h)

-- a name before another has other bytes
pub before_differs : (a b : List ℕ) → before a b ≡ true → (same a b ≡ false) × (same b a ≡ false)
unfolding before
before_differs [] [] h = absurd (true≢false (sym h))
before_differs [] (y ∷ ys) h = (refl, refl)
before_differs (x ∷ xs) [] h = absurd (true≢false (sym h))
before_differs (x ∷ xs) (y ∷ ys) h = ⊎_elim (λ l. less l) (λ e. equal e.0 (before_differs xs ys e.1)) (heads x y xs ys h)
  where
    less : x < y → (same (x ∷ xs) (y ∷ ys) ≡ false) × (same (y ∷ ys) (x ∷ xs) ≡ false)
    less l = (rw (ne_eqb x y (λ z. omega arith)), rw (ne_eqb y x (λ z. omega arith)))

    equal : x ≡ y → (same xs ys ≡ false) × (same ys xs ≡ false) → (same (x ∷ xs) (y ∷ ys) ≡ false) × (same (y ∷ ys) (x ∷ xs) ≡ false)
    equal e d = (rw (eq-eqb x y e) d.0, rw (eq-eqb y x (sym e)) d.1)

pub before_trans : (a b c : List ℕ) → before a b ≡ true → before b c ≡ true → before a c ≡ true
unfolding before
before_trans [] [] c h g = absurd (true≢false (sym h))
before_trans [] (y ∷ ys) [] h g = absurd (true≢false (sym g))
before_trans [] (y ∷ ys) (z ∷ zs) h g = refl
before_trans (x ∷ xs) [] c h g = absurd (true≢false (sym h))
before_trans (x ∷ xs) (y ∷ ys) [] h g = absurd (true≢false (sym g))
before_trans (x ∷ xs) (y ∷ ys) (z ∷ zs) h g =
    ⊎_elim
    (λ l. head_less x z xs zs (⊎_elim (λ m. omega arith) (λ e. omega (arith, e.0)) (heads y z ys zs g)))
    (λ e. ⊎_elim (λ m. head_less x z xs zs (omega (arith, e.0))) (λ d. head_same x z xs zs (e.0 ∙ d.0) ∙ before_trans xs ys zs e.1 d.1) (heads y z ys zs g))
    (heads x y xs ys h)

-- one of two names comes first
pub before_flip : (a b : List ℕ) → before a b ≡ false → same a b ≡ false → before b a ≡ true
unfolding before
before_flip [] [] h g = absurd (true≢false g)
before_flip [] (y ∷ ys) h g = absurd (true≢false h)
before_flip (x ∷ xs) [] h g = refl
before_flip (x ∷ xs) (y ∷ ys) h g = go (ltb x y) refl (eqb x y) refl h g (before_flip xs ys)
  where
    go : (t : Bool) → ltb x y ≡ t → (u : Bool) → eqb x y ≡ u → (t || (u && before xs ys)) ≡ false → (u && same xs ys) ≡ false
        → (before xs ys ≡ false → same xs ys ≡ false → before ys xs ≡ true) → before (y ∷ ys) (x ∷ xs) ≡ true
    go true p u q i j ih = absurd (true≢false i)
    go false p true q i j ih = head_same y x ys xs (sym (eqb-true x y q)) ∙ ih i j
    go false p false q i j ih = let n : x ≡ y → ⊥ = eqb-false x y q in head_less y x ys xs (omega (arith, ltb-false x y p))
