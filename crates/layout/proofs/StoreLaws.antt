-- Bytes stored in a list from an index on, and through a part of it that is lent. Assumes nothing.
use mathlib.Core.Path.{◌≡◌, refl, sym, ap, ap₂, ◌∙◌}
use mathlib.Core.List.{List, [], ◌∷◌, ◌++◌, append_assoc}
use Prim.Native.Nat.{ℕ, zero, suc, ◌+◌, ◌-◌, ◌≤◌, ◌<◌}
use native.Mathlib.Nat.{add-suc, suc-add, add-zero}
use native.Mathlib.Omega.{arith}
use lib.Dec.{lit<}
use lib.ListN.{length, take, drop, replicate, get_or, set, length-set, take-append-drop}
use lib.Seq.{sets, sets-eq, drop-drop, drop_at, take_at, length-take-le, drop-set-lt, drop-set-add, take-take, take-set-le, set-append_left}
use Rattle.std.proofs.lemmas.List.{drop-take}
use borrow.Rule.Slice.PartMut.{mid_of, post_of, put_mid}
use Rattle.layout.specs.Each.{Each, Bytes}
use Rattle.layout.specs.Number.{num, number_at, located}

-- ---- what holds of every element

module _ {A : Type 0} (P : A → Type 0) where
  pub all_take : (n : ℕ) (s : List A) → Each P s → Each P (take n s)
  all_take zero s all = tt
  all_take (suc n) [] all = tt
  all_take (suc n) (x ∷ s) all = (all.0, all_take n s all.1)

  pub all_drop : (n : ℕ) (s : List A) → Each P s → Each P (drop n s)
  all_drop zero s all = all
  all_drop (suc n) [] all = tt
  all_drop (suc n) (x ∷ s) all = all_drop n s all.1

  pub all_append : (s t : List A) → Each P s → Each P t → Each P (s ++ t)
  all_append [] t h g = g
  all_append (x ∷ s) t h g = (h.0, all_append s t h.1 g)

-- of bytes
pub each_take : (n : ℕ) (s : List ℕ) → Bytes s → Bytes (take n s)
each_take = all_take (λ b. b < 256)

pub each_drop : (n : ℕ) (s : List ℕ) → Bytes s → Bytes (drop n s)
each_drop = all_drop (λ b. b < 256)

pub each_byte : (s : List ℕ) → ((i : ℕ) → get_or s i 0 < 256) → Bytes s
each_byte [] h = tt
each_byte (x ∷ s) h = (h 0, each_byte s (λ i. h (suc i)))

pub each_zero : (n : ℕ) → Bytes (replicate n 0)
each_zero zero = tt
each_zero (suc n) = (lit< tt, each_zero n)

pub byte_of : (s : List ℕ) (i : ℕ) → Bytes s → get_or s i 0 < 256
byte_of [] i all = omega arith
byte_of (x ∷ s) zero all = all.0
byte_of (x ∷ s) (suc i) all = byte_of s i all.1

-- ---- stores one after the other

pub sets_append : (xs ys l : List ℕ) (i : ℕ) → sets l i (xs ++ ys) ≡ sets (sets l i xs) (i + length xs) ys
sets_append [] ys l i = rw add-zero
sets_append (x ∷ xs) ys l i = rw (add-suc, ← suc-add) (sets_append xs ys (set l i x) (suc i))

-- bytes stored elsewhere
pub drop_sets : (vs l : List ℕ) (i n : ℕ) → i + length vs ≤ n → drop n (sets l i vs) ≡ drop n l
drop_sets [] l i n h = refl
drop_sets (v ∷ vs) l i n h = drop_sets vs (set l i v) (suc i) n (omega arith) ∙ drop-set-lt n l i v (omega arith)

pub take_sets : (vs l : List ℕ) (i n : ℕ) → n ≤ i → take n (sets l i vs) ≡ take n l
take_sets [] l i n h = refl
take_sets (v ∷ vs) l i n h = take_sets vs (set l i v) (suc i) n (omega arith) ∙ take-set-le n l i v h

-- what lies within the first p elements
pub part_take : {A : Type 0} (a k p : ℕ) (s : List A) → a + k ≤ p → take k (drop a (take p s)) ≡ take k (drop a s)
part_take a k p s h = sym (drop-take a k (take p s)) ∙ ap (drop a) (take-take (a + k) p s h) ∙ drop-take a k s

-- a number before them
pub number_above : (s vs : List ℕ) (i j k : ℕ) → j + k ≤ i → number_at (sets s i vs) j k ≡ number_at s j k
unfolding number_at
number_above s vs i j k h =
    ap num (sym (part_take j k i (sets s i vs) h) ∙ ap (λ (l : List ℕ). take k (drop j l)) (take_sets vs s i i (omega arith)) ∙ part_take j k i s h)

-- from where they are stored on
pub drop_sets_at : (vs l : List ℕ) (i : ℕ) → i + length vs ≤ length l → drop i (sets l i vs) ≡ vs ++ drop (i + length vs) l
drop_sets_at vs l i h =
    rw (sets-eq vs l i h, append_assoc) (drop_at (take i l) (vs ++ drop (i + length vs) l) i (length-take-le i l (omega arith)))

-- ---- through a lent part

drop_sets_add : (vs s : List ℕ) (a i : ℕ) → drop a (sets s (a + i) vs) ≡ sets (drop a s) i vs
drop_sets_add [] s a i = refl
drop_sets_add (v ∷ vs) s a i =
    ap (λ (k : ℕ). drop a (sets (set s (a + i) v) k vs)) (sym (add-suc a i)) ∙ drop_sets_add vs (set s (a + i) v) a (suc i) ∙ ap (λ (t : List ℕ). sets t (suc i) vs) (drop-set-add a s i v)

pub sets_part : (vs s : List ℕ) (a i : ℕ) → take a s ++ sets (drop a s) i vs ≡ sets s (a + i) vs
sets_part vs s a i =
    sym (ap₂ (λ (x y : List ℕ). x ++ y) (take_sets vs s (a + i) a (omega arith)) (drop_sets_add vs s a i))
    ∙ take-append-drop a (sets s (a + i) vs)

sets_append_left : (vs l t : List ℕ) (i : ℕ) → i + length vs ≤ length l → sets (l ++ t) i vs ≡ sets l i vs ++ t
sets_append_left [] l t i h = refl
sets_append_left (v ∷ vs) l t i h =
    ap (λ (x : List ℕ). sets x (suc i) vs) (set-append_left l t i v (omega arith)) ∙ sets_append_left vs (set l i v) t (suc i) (rw length-set (omega arith))

-- what is stored in a part, where the part is back, is stored in the whole
pub put_sets : (vs s : List ℕ) (a k i : ℕ) → i + length vs ≤ length (mid_of a k s) → put_mid a k s (sets (mid_of a k s) i vs) ≡ sets s (a + i) vs
put_sets vs s a k i h =
    ap (λ (x : List ℕ). take a s ++ x) (sym (sets_append_left vs (mid_of a k s) (post_of a k s) i h) ∙ ap (λ (x : List ℕ). sets x i vs) (take-append-drop k (drop a s)))
    ∙ sets_part vs s a i

-- what is copied into a part is stored in the whole
pub part_stored : (s x : List ℕ) (a n : ℕ) → a + n ≤ length s → length x ≡ n → put_mid a (a + n - a) s x ≡ sets s a x
part_stored s x a n h l =
    let w : a + n - a ≡ n = omega arith in
    rw (w, sets-eq x s a (omega (arith, l)), drop-drop, l, append_assoc)

-- the part of the whole is what came back
pub mid_put : (a k : ℕ) (s t : List ℕ) → a ≤ length s → length t ≡ k → take k (drop a (put_mid a k s t)) ≡ t
mid_put a k s t h l =
    ap (take k) (drop_at (take a s) (t ++ post_of a k s) a (length-take-le a s h)) ∙ take_at t (post_of a k s) k l

-- ---- a part of a list, located by two numbers in it

pub located_is : (s : List ℕ) (i k start size : ℕ) → start ≡ number_at s i k → size ≡ number_at s (i + k) k → take (start + size - start) (drop start s) ≡ located s i k
unfolding located
located_is s i k start size p q = ap₂ (λ (n a : ℕ). take n (drop a s)) {x = start + size - start} {y = number_at s (i + k) k} (omega (arith, q)) p
