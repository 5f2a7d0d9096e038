-- Laws of the last star.
-- Assumes nothing.
use Rattle.std.proofs.Common.{◌≡◌, ◌≢◌, ℕ, zero, suc, ◌+◌, ◌-◌, ◌≤◌, ◌<◌, Bool, false, cond, List, [], ◌∷◌, reverse, length, get_or, take, sym, ap, ◌∙◌, take-suc, ne_eqb, arith}
use lib.Seq.{take-length}
use mathlib.Core.List.{reverse-append, reverse-reverse}
use Rattle.std.specs.Prelude.{Option, None, Some, is_some}
use Rattle.spelling.specs.Spelling.{after_spaces, begins_star, rest, ends_star, StarAt, FoundStar}

last_step : (s : List ℕ) (i : ℕ) → i < length s → reverse (take (suc i) s) ≡ get_or s i 0 ∷ reverse (take i s)
last_step s i h = ap reverse (take-suc s i 0 h) ∙ reverse-append (take i s) (get_or s i 0 ∷ [])

-- from n on there are only spaces
abbrev pub SpacesFrom : List ℕ → ℕ → Type 0
SpacesFrom s n = (k : ℕ) → n ≤ k → k < length s → get_or s k 0 ≡ 32

passed : (s : List ℕ) (n m : ℕ) → n + m ≡ length s → SpacesFrom s n → after_spaces (reverse s) ≡ after_spaces (reverse (take n s))
passed s n zero e h = ap (λ (l : List ℕ). after_spaces (reverse l)) (sym (take-length s) ∙ ap (λ (k : ℕ). take k s) (omega (arith, e)))
passed s n (suc m) e h =
    passed s (suc n) m (omega (arith, e)) (λ k l. h k (omega arith))
    ∙ ap after_spaces (last_step s n (omega (arith, e)))
    ∙ ap (λ (c : ℕ). after_spaces (c ∷ reverse (take n s))) (h n (omega arith) (omega (arith, e)))

pub all_spaces : (s : List ℕ) → SpacesFrom s 0 → ends_star s ≡ false
all_spaces s h = ap begins_star (passed s 0 (length s) (omega arith) h)

module _ (s : List ℕ) (i : ℕ) (h : i < length s) (p : SpacesFrom s (suc i)) where
  last_byte : after_spaces (reverse s) ≡ after_spaces (get_or s i 0 ∷ reverse (take i s))
  last_byte = passed s (suc i) (length s - suc i) (omega arith) p ∙ ap after_spaces (last_step s i h)

  pub star_last : get_or s i 0 ≡ 42 → StarAt s i
  star_last e =
      let f : after_spaces (reverse s) ≡ 42 ∷ reverse (take i s) = last_byte ∙ ap (λ (n : ℕ). after_spaces (n ∷ reverse (take i s))) e in
      record { within = h; ends = ap begins_star f; before = ap (λ (l : List ℕ). reverse (rest l)) f ∙ reverse-reverse (take i s) }

  pub other_last : get_or s i 0 ≢ 42 → get_or s i 0 ≢ 32 → ends_star s ≡ false
  other_last c d =
      ap begins_star (last_byte ∙ ap (λ (t : Bool). cond t (after_spaces (reverse (take i s))) (get_or s i 0 ∷ reverse (take i s))) (ne_eqb (get_or s i 0) 32 d))
      ∙ ne_eqb (get_or s i 0) 42 c

pub is_starred : (s : List ℕ) (o : Option ℕ) → FoundStar s o → ends_star s ≡ is_some o
is_starred s None h = h
is_starred s (Some k) h = h.ends
