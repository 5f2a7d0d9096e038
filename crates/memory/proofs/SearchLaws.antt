-- The turns of the search for a rank: a stretch parted in quarters, and how far an address can be from the first entry and the last. Assumes nothing.
use Rattle.std.proofs.Common.{◌≡◌, ℕ, zero, suc, ◌+◌, ◌-◌, ◌*◌, ◌^◌, ◌<◌, ◌≤◌, min, Bool, true, false, ltb, [], ◌∷◌, length, sym, refl, ap, ◌∙◌, subst, le_of_lt, suc-le-suc, add_assoc, suc-add, zero-add, sub-add_cancel, arith, ltb-false, ltb-true}
use native.Mathlib.Nat.{min-eq_left, min-eq_right}
use mir.Val.{bool_byte}
use Rattle.std.specs.Prelude.{Option, None, Some}
use Rattle.std.specs.Option.{MatchOption, unwrap_or}
use Rattle.memory.specs.Overlay.{Overlay, Cell, rank, Ascending}
use Rattle.memory.specs.Post.{IsOverlay, Parts, Lies, address_in, passed}
use Rattle.memory.proofs.OverlayLaws.{below, equal, above, compared, key, each_at, rank_below, rank_above}
use Rattle.memory.proofs.RowLaws.{blank}

-- ---- an entry comes before an address, as a number

pub before_is : (m : Overlay Cell) (a i x : ℕ) → Parts m i x → bool_byte (ltb x a) ≡ min 1 (rank a m - i)
before_is m a i x p = known (ltb x a) refl
  where
    known : (t : Bool) → ltb x a ≡ t → bool_byte t ≡ min 1 (rank a m - i)
    known true e = omega (arith, p.up a (ltb-true x a e))
    known false e = omega (arith, p.down a (ltb-false x a e))

data Before (x i k : ℕ) : Type 0 where
  no : k ≤ i → x ≡ 0 → Before x i k
  yes : i < k → x ≡ 1 → Before x i k

told : (i k : ℕ) → Before (min 1 (k - i)) i k
told i k = elim (compared i k) [ below h _ ↦ yes h (omega arith) | equal h _ ↦ no (omega arith) (omega arith) | above h _ ↦ no (omega arith) (omega arith) ]

-- ---- the last entries, one by one

step : (p x j k : ℕ) → p ≡ min k j → x ≡ min 1 (k - j) → p + x ≡ min k (j + 1)
step p x j k e f = omega arith

sum : (i a b c d : ℕ) → i + (a + b + c + d) ≡ i + a + b + c + d
sum i a b c d = omega arith

pub last_are : (i k a b c d : ℕ) → i ≤ k → k ≤ i + 4 → a ≡ min 1 (k - i) → b ≡ min 1 (k - (i + 1)) → c ≡ min 1 (k - (i + 2)) → d ≡ min 1 (k - (i + 3)) → i + (a + b + c + d) ≡ k
last_are i k a b c d l h ea eb ec ed =
    let p : i + a ≡ min k (i + 1) = step i a i k (sym (min-eq_right l)) ea in
    let q : i + a + b ≡ min k (i + 2) = step (i + a) b (i + 1) k p eb ∙ ap (min k) (add_assoc i 1 1) in
    let r : i + a + b + c ≡ min k (i + 3) = step (i + a + b) c (i + 2) k q ec ∙ ap (min k) (add_assoc i 2 1) in
    sum i a b c d ∙ step (i + a + b + c) d (i + 3) k r ed ∙ ap (min k) (add_assoc i 3 1) ∙ min-eq_left h

pub four_fit : (a b c d t u v w : ℕ) → a ≡ min 1 t → b ≡ min 1 u → c ≡ min 1 v → d ≡ min 1 w → a + b + c + d < 2 ^ 64
four_fit a b c d t u v w ea eb ec ed = omega arith

-- ---- a stretch parted in quarters

-- rank k lies in what is left of a stretch of `size` places from i on once c quarters of q places are passed
abbrev pub Within : ℕ → ℕ → ℕ → ℕ → ℕ → Type 0
Within k i q size c = (i + q * c ≤ k) × (k ≤ i + q * c + (size - 3 * q)) × (q * c ≤ 3 * q)

module _ (k i q size c : ℕ) (least : i ≤ k) (most : k ≤ i + size) (fits : 4 * q ≤ size) where
  parted : (x y z : ℕ) → c ≡ x + y + z → Before x (i + q) k → Before y (i + 2 * q) k → Before z (i + 3 * q) k → Within k i q size c
  parted x y z e (no h f) (no l g) (no m j) = let n : c ≡ 0 = omega arith in rw n (omega arith)
  parted x y z e (yes h f) (no l g) (no m j) = let n : c ≡ 1 = omega arith in rw n (omega arith)
  parted x y z e (yes h f) (yes l g) (no m j) = let n : c ≡ 2 = omega arith in rw n (omega arith)
  parted x y z e (yes h f) (yes l g) (yes m j) = let n : c ≡ 3 = omega arith in rw n (omega arith)
  parted x y z e (no h f) (yes l g) r = absurd (omega arith)
  parted x y z e (no h f) (no l g) (yes m j) = absurd (omega arith)
  parted x y z e (yes h f) (no l g) (yes m j) = absurd (omega arith)

  pub quarter : c ≡ passed k i q → Within k i q size c
  unfolding passed
  quarter e = parted (min 1 (k - (i + q))) (min 1 (k - (i + 2 * q))) (min 1 (k - (i + 3 * q))) e (told (i + q) k) (told (i + 2 * q) k) (told (i + 3 * q) k)

-- ---- entries are at least one apart

module _ {C : Type 0} (d : C) where
  pub key_grows : (m : Overlay C) → Ascending m → (i n : ℕ) → i + n < length m → key m i d + n ≤ key m (i + n) d
  key_grows [] s i n h = absurd (omega arith)
  key_grows (p ∷ m) s zero zero h = omega arith
  key_grows (p ∷ m) s zero (suc n) h =
      let a : p.0 < key m 0 d = each_at (λ q. p.0 < q.0) (0, d) m 0 (omega arith) s.0 in
      let b : key m 0 d + n ≤ key m n d = rw zero-add at (key_grows m s.1 0 n (omega arith)) in
      rw zero-add (omega arith)
  key_grows (p ∷ m) s (suc i) n h = rw suc-add (key_grows m s.1 i n (omega arith))

module _ (m : Overlay Cell) (q : Ascending m) where
  apart : (i j : ℕ) → i ≤ j → j < length m → address_in m i + (j - i) ≤ address_in m j
  apart i j l h =
      let e : i + (j - i) ≡ j = omega arith in
      rw e at (key_grows blank m q i (j - i) (rw e h))

  module _ (t a f l : ℕ) (top : suc t ≡ length m) (first : Parts m 0 f) (last : Parts m t l) (most : a ≤ l) where
    -- so an address's rank is no more than its distance from the first
    pub at_most : (d : ℕ) → d + f ≡ a → rank a m ≤ min d t
    at_most d e =
        elim (compared d t) [
          | below h _ ↦ subst (λ (x : ℕ). rank a m ≤ x) (sym (min-eq_left (omega arith))) (rank_below a blank m d (omega arith) (omega (arith, first.is, apart 0 d (omega arith) (omega arith))))
          | equal h _ ↦ subst (λ (x : ℕ). rank a m ≤ x) (sym (min-eq_right (omega arith))) (last.down a most)
          | above h _ ↦ subst (λ (x : ℕ). rank a m ≤ x) (sym (min-eq_right (omega arith))) (last.down a most)
        ]

    -- and no farther from the last one's
    pub at_least : (d : ℕ) → d + a ≡ l → t - min d t ≤ rank a m
    at_least d e =
        elim (compared d t) [
          | below h _ ↦ omega (arith, rank_above a blank m q (t - d - 1) (omega arith) (omega (arith, last.is, apart (t - d - 1) t (omega arith) (omega arith))))
          | equal h _ ↦ omega arith
          | above h _ ↦ omega arith
        ]

  -- ---- as many entries as addresses: each address has its own

  not_before : (a i : ℕ) → i < length m → rank a m ≤ i → a ≤ address_in m i
  not_before a i h r =
      elim (compared (address_in m i) a) [ below l _ ↦ absurd (omega (arith, rank_above a blank m q i h l)) | equal l _ ↦ omega arith | above l _ ↦ omega arith ]

  is_before : (a i : ℕ) → i < length m → i < rank a m → address_in m i < a
  is_before a i h r =
      elim (compared (address_in m i) a) [ below l _ ↦ l | equal l _ ↦ absurd (omega (arith, rank_below a blank m i h (omega arith))) | above l _ ↦ absurd (omega (arith, rank_below a blank m i h (omega arith))) ]

  pub each_there : (a b i j : ℕ) → i ≡ rank a m → j ≡ rank (a + b) m → j ≤ length m → j - i ≡ b → (k : ℕ) → k < b → address_in m (i + k) ≡ a + k
  each_there a b i j ei ej h e k l =
      let x : a ≤ address_in m i = not_before a i (omega arith) (omega arith) in
      let y : address_in m (j - 1) < a + b = is_before (a + b) (j - 1) (omega arith) (omega arith) in
      let z : address_in m i + (i + k - i) ≤ address_in m (i + k) = apart i (i + k) (omega arith) (omega arith) in
      let w : address_in m (i + k) + (j - 1 - (i + k)) ≤ address_in m (j - 1) = apart (i + k) (j - 1) (omega arith) (omega arith) in
      omega arith

-- an address between the first and the last, by its distances from them
pub near : (m : Overlay Cell) → IsOverlay m → (a n f l x y : ℕ) → n ≡ length m → (n ≡ 0 → ⊥) → Parts m 0 f → Parts m (n - 1) l → f < a → a ≤ l → x ≡ min (a - f) (n - 1) → y ≡ min (l - a) (n - 1)
    → Lies m a (n - 1 - y) x × (x < length m)
near m q a n f l x y e z first last h k ex ey =
    let top : suc (n - 1) ≡ length m = omega arith in
    let most : rank a m ≤ x = rw ex (at_most m q.ascending (n - 1) a f l top first last k (a - f) (sub-add_cancel (le_of_lt h))) in
    let least : n - 1 - y ≤ rank a m = rw ey (at_least m q.ascending (n - 1) a f l top first last k (l - a) (sub-add_cancel k)) in
    let fits : x < length m = omega arith in
    (record { low = least; high = most; within = omega arith; row = q }, fits)

-- ---- the first of some places that comes after an address, whose rank it is

pub not_past : (m : Overlay Cell) (a i x : ℕ) → Parts m i x → a < x → rank (suc a) m ≤ i
not_past m a i x p h = p.down (suc a) h

pub is_past : (m : Overlay Cell) (a i x : ℕ) → Parts m i x → x ≤ a → i < rank (suc a) m
is_past m a i x p h = p.up (suc a) (suc-le-suc h)

pub first_past : (k from count : ℕ) (r : Option ℕ) → from ≤ k → k ≤ count
    → MatchOption r ((j : ℕ) → from ≤ j → j < count → j < k) (λ i. (from ≤ i) × (i < count) × (k ≤ i) × ((j : ℕ) → from ≤ j → j < i → j < k)) → unwrap_or r count ≡ k
first_past k from count None l h f =
    elim (compared k count) [ below m _ ↦ absurd (omega (arith, f k l m)) | equal m _ ↦ sym m | above m _ ↦ absurd (omega arith) ]
first_past k from count (Some i) l h f =
    elim (compared k i) [ below m _ ↦ absurd (omega (arith, f.3 k l m)) | equal m _ ↦ sym m | above m _ ↦ absurd (omega (arith, f.2)) ]
