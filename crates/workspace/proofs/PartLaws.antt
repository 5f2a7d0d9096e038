-- Parts of a list: a part of a part, and a part after bytes are stored in it or elsewhere. Assumes nothing.
use mathlib.Core.Path.{◌≡◌, refl, sym, ap, ◌∙◌}
use mathlib.Core.List.{List, [], ◌∷◌, ◌++◌}
use Prim.Native.Nat.{ℕ, suc, ◌+◌, ◌-◌, ◌≤◌}
use native.Mathlib.Omega.{arith}
use lib.ListN.{length, take, drop, set}
use lib.Seq.{sets, drop-drop, drop_at, take_at, take-set-lt, take-length, length-take-le}
use Rattle.layout.specs.Number.{number_at, num}
use Rattle.layout.proofs.StoreLaws.{sets_part, take_sets, drop_sets, drop_sets_at, part_take}
use Rattle.workspace.specs.Parts.{part}

module _ {A : Type 0} where
  pub part_front : (a k p : ℕ) (s t : List A) → a + k ≤ p → take p t ≡ take p s → part a k t ≡ part a k s
  part_front a k p s t h e = sym (part_take a k p t h) ∙ ap (part a k) e ∙ part_take a k p s h

  -- a part from p on
  pub part_drop : (a k p : ℕ) (s : List A) → part a k (drop p s) ≡ part (p + a) k s
  part_drop a k p s = ap (take k) (drop-drop a p s)

  pub drop_back : (a p : ℕ) (s t : List A) → p ≤ a → drop p t ≡ drop p s → drop a t ≡ drop a s
  drop_back a p s t h e =
      let i : p + (a - p) ≡ a = omega arith in
      ap (λ (j : ℕ). drop j t) (sym i) ∙ sym (drop-drop (a - p) p t) ∙ ap (drop (a - p)) e ∙ drop-drop (a - p) p s ∙ ap (λ (j : ℕ). drop j s) i

  pub part_back : (a k p : ℕ) (s t : List A) → p ≤ a → drop p t ≡ drop p s → part a k t ≡ part a k s
  part_back a k p s t h e = ap (take k) (drop_back a p s t h e)

  pub part_part : (a n d k : ℕ) (s : List A) → d + k ≤ n → part d k (part a n s) ≡ part (a + d) k s
  part_part a n d k s h = part_take d k n (drop a s) h ∙ part_drop d k a s

-- ---- bytes stored in a part

pub take_sets_in : (vs s : List ℕ) (i k : ℕ) → i + length vs ≤ k → take k (sets s i vs) ≡ sets (take k s) i vs
take_sets_in [] s i k h = refl
take_sets_in (v ∷ vs) s i k h =
    take_sets_in vs (set s i v) (suc i) k (omega arith) ∙ ap (λ (l : List ℕ). sets l (suc i) vs) (take-set-lt k s i v (omega arith))

pub drop_sets_in : (vs s : List ℕ) (a i : ℕ) → a ≤ length s → drop a (sets s (a + i) vs) ≡ sets (drop a s) i vs
drop_sets_in vs s a i h = ap (drop a) (sym (sets_part vs s a i)) ∙ drop_at (take a s) (sets (drop a s) i vs) a (length-take-le a s h)

pub part_sets : (a k i : ℕ) (s vs : List ℕ) → a ≤ length s → i + length vs ≤ k → part a k (sets s (a + i) vs) ≡ sets (part a k s) i vs
part_sets a k i s vs h l = ap (take k) (drop_sets_in vs s a i h) ∙ take_sets_in vs (drop a s) i k l

-- the bytes themselves
pub part_stored : (i d k : ℕ) (s vs : List ℕ) → i + length vs ≤ length s → d + k ≤ length vs → part (i + d) k (sets s i vs) ≡ part d k vs
part_stored i d k s vs h l =
    sym (part_drop d k i (sets s i vs))
    ∙ ap (part d k) (drop_sets_at vs s i h)
    ∙ part_front d k (length vs) vs (vs ++ drop (i + length vs) s) l (take_at vs (drop (i + length vs) s) (length vs) refl ∙ sym (take-length vs))

-- ---- bytes stored elsewhere

pub part_above : (a k i : ℕ) (s vs : List ℕ) → a + k ≤ i → part a k (sets s i vs) ≡ part a k s
part_above a k i s vs h = part_front a k i s (sets s i vs) h (take_sets vs s i i (omega arith))

pub part_below : (a k i : ℕ) (s vs : List ℕ) → i + length vs ≤ a → part a k (sets s i vs) ≡ part a k s
part_below a k i s vs h = ap (take k) (drop_sets vs s i a h)

-- ---- numbers in parts that are the same

pub number_same : (s t : List ℕ) (i j n d k : ℕ) → part i n s ≡ part j n t → d + k ≤ n → number_at s (i + d) k ≡ number_at t (j + d) k
unfolding number_at
number_same s t i j n d k e h = ap num (sym (part_part i n d k s h) ∙ ap (part d k) e ∙ part_part j n d k t h)

pub number_part : (s : List ℕ) (a n d k : ℕ) → d + k ≤ n → number_at (part a n s) d k ≡ number_at s (a + d) k
unfolding number_at
number_part s a n d k h = ap num (part_part a n d k s h)

-- ---- numbers where bytes are stored, and elsewhere

pub number_stored : (s vs : List ℕ) (i d k : ℕ) → i + length vs ≤ length s → d + k ≤ length vs → number_at (sets s i vs) (i + d) k ≡ number_at vs d k
unfolding number_at
number_stored s vs i d k h l = ap num (part_stored i d k s vs h l)

pub number_below : (s vs : List ℕ) (i j k : ℕ) → i + length vs ≤ j → number_at (sets s i vs) j k ≡ number_at s j k
unfolding number_at
number_below s vs i j k h = ap num (part_below j k i s vs h)
