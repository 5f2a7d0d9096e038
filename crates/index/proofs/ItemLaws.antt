-- What a body that a reading accepts has at each place: an item that the state reached there allows. Assumes nothing.
use mathlib.Core.Path.{◌≡◌, refl, sym, ap, subst, ◌∙◌}
use mathlib.Core.Bool.{Bool, true, false}
use Prim.Native.Nat.{ℕ, zero, suc, ◌+◌, ◌≤◌, ◌<◌}
use native.Mathlib.Nat.{not-suc-le-zero}
use native.Mathlib.Omega.{arith}
use borrow.Author.Tests.{le-leb, lt-leb, leb-true, leb-false}
use lib.Dec.{leb}
use Rattle.files.specs.Items.{Items, past, reading}
use Rattle.index.specs.Places.{place_from}
use Rattle.index.proofs.PlaceLaws.{place_mono}

-- ---- readings

-- the state before item k past the one at place i
abbrev pub state_from : {S : Type 0} → Items S → (ℕ → ℕ) → S → ℕ → ℕ → S
state_from R size s i zero = s
state_from R size s i (suc k) = state_from R size (R.next s i (size i)) (i + size i) k

-- an item's length is what its own bytes say
module _ {S : Type 0} (R : Items S) (e : ℕ) (size : ℕ → ℕ) (sized : (s : S) (i : ℕ) → i < e → (R.item s i ≡ 0 → ⊥) → R.item s i ≡ size i) where
  turn : (f : ℕ) (s : S) (i : ℕ) → i < e → 1 ≤ reading R e (suc f) s i
      → (R.item s i ≡ 0 → ⊥) × (reading R e (suc f) s i ≡ reading R e f (R.next s i (size i)) (i + size i))
  unfolding reading
  turn f s i h p = rw (lt-leb e i h) (go (R.item s i) refl (rw (lt-leb e i h) at p))
    where
      go : (k : ℕ) → R.item s i ≡ k → 1 ≤ past R (reading R e f) s i k
          → (k ≡ 0 → ⊥) × (past R (reading R e f) s i k ≡ reading R e f (R.next s i (size i)) (i + size i))
      go zero q l = absurd (not-suc-le-zero l)
      go (suc k) q l =
          let z : R.item s i ≡ 0 → ⊥ = λ z. omega arith in
          let g : suc k ≡ size i = sym q ∙ sized s i h z in
          ((λ y. omega arith), ap (λ (n : ℕ). reading R e f (R.next s i n) (i + n)) g)

  -- at each place before the end there is an item
  pub reached : (f k : ℕ) (s : S) (i : ℕ) → 1 ≤ reading R e f s i → place_from size i k < e → R.item (state_from R size s i k) (place_from size i k) ≡ 0 → ⊥
  unfolding reading place_from
  reached zero k s i p h = absurd (not-suc-le-zero p)
  reached (suc f) zero s i p h = (turn f s i h p).0
  reached (suc f) (suc k) s i p h =
      let l : i < e = omega (arith, place_mono size i 0 (suc k) (omega arith)) in
      reached f k (R.next s i (size i)) (i + size i) (subst (λ (n : ℕ). 1 ≤ n) (turn f s i l p).1 p) h

  -- what the reading gives is what its last state gives
  pub ended : (f n : ℕ) (s : S) (i : ℕ) → ((j : ℕ) → 1 ≤ size j) → 1 ≤ reading R e f s i → place_from size i n ≡ e → reading R e f s i ≡ R.last (state_from R size s i n)
  unfolding reading place_from
  ended zero n s i pos p h = absurd (not-suc-le-zero p)
  ended (suc f) zero s i pos p h = rw (le-leb e i (omega arith))
  ended (suc f) (suc n) s i pos p h =
      let l : i < e = omega (arith, place_mono size (i + size i) 0 n (omega arith), pos i) in
      (turn f s i l p).1 ∙ ended f n (R.next s i (size i)) (i + size i) pos (subst (λ (m : ℕ). 1 ≤ m) (turn f s i l p).1 p) h

  -- the items come to the end
  pub finishes : (f : ℕ) (s : S) (i : ℕ) → ((s : S) (j : ℕ) → j < e → (R.item s j ≡ 0 → ⊥) → j + size j ≤ e) → i ≤ e → 1 ≤ reading R e f s i → (n : ℕ) × (place_from size i n ≡ e)
  unfolding reading place_from
  finishes zero s i fits h p = absurd (not-suc-le-zero p)
  finishes (suc f) s i fits h p = go (leb e i) refl (λ t j. finishes f t j fits)
    where
      go : (t : Bool) → leb e i ≡ t → ((s' : S) (j : ℕ) → j ≤ e → 1 ≤ reading R e f s' j → (n : ℕ) × (place_from size j n ≡ e)) → (n : ℕ) × (place_from size i n ≡ e)
      go true q ih = (0, omega (arith, leb-true e i q))
      go false q ih =
          let l : i < e = leb-false e i q in
          let t = turn f s i l p in
          let r = ih (R.next s i (size i)) (i + size i) (fits s i l t.0) (subst (λ (m : ℕ). 1 ≤ m) t.1 p) in
          (suc r.0, r.1)
