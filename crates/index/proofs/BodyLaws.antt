-- What a body holds, item by item, where the place of each item is known. Assumes nothing.
use mathlib.Core.Path.{◌≡◌, refl, sym, ap, ◌∙◌}
use mathlib.Core.List.{List, [], ◌∷◌}
use Prim.Native.Nat.{ℕ, zero, suc, ◌+◌, ◌*◌, ◌%◌, ◌≤◌, ◌<◌}
use native.Mathlib.Nat.{not-suc-le-zero}
use native.Mathlib.Omega.{arith}
use lib.ListN.{length, take, drop, get_or, drop_of_length-le, length-drop}
use lib.Seq.{drop-cons, drop-nil, drop-drop}
use Rattle.layout.specs.Each.{Bytes}
use Rattle.layout.specs.Format.{Format, number, reads, every, whole}
use Rattle.index.specs.Places.{place_from}
use Rattle.index.proofs.PlaceLaws.{place_mono, place_least}

-- ---- a body read by a format whose items move on by a size

module _ {A : Type 0} (F : Format A) (b : List ℕ) (size : ℕ → ℕ) (moves : (i : ℕ) → (F.read (drop i b)).1 ≡ drop (i + size i) b) (pos : (i : ℕ) → 1 ≤ size i) where
  step : (f i : ℕ) → i < length b → every F (suc f) (drop i b) ≡ (F.read (drop i b)).0 ∷ every F f (drop (i + size i) b)
  step f i h = go (drop i b) (drop-cons b i 0 h) ∙ ap (λ (r : List ℕ). (F.read (drop i b)).0 ∷ every F f r) (moves i)
    where
      go : (s : List ℕ) → s ≡ get_or b i 0 ∷ drop (suc i) b → every F (suc f) s ≡ (F.read s).0 ∷ every F f (F.read s).1
      go s e = rw e

  begins : (n i : ℕ) → place_from size i (suc n) ≡ length b → i < length b
  unfolding place_from
  begins n i h = omega (arith, place_mono size (i + size i) 0 n (omega arith), pos i)

  items_length : (f n i : ℕ) → place_from size i n ≡ length b → n ≤ f → length (every F f (drop i b)) ≡ n
  unfolding place_from
  items_length zero zero i h l = refl
  items_length (suc f) zero i h l = rw (drop_of_length-le b {i = i} (omega arith))
  items_length zero (suc n) i h l = absurd (not-suc-le-zero l)
  items_length (suc f) (suc n) i h l = rw (step f i (begins n i h)) (ap suc (items_length f n (i + size i) h (omega arith)))

  items_at : (f n i k : ℕ) → place_from size i n ≡ length b → n ≤ f → k < n → (d : A) → get_or (every F f (drop i b)) k d ≡ (F.read (drop (place_from size i k) b)).0
  unfolding place_from
  items_at f zero i k h l g d = absurd (not-suc-le-zero g)
  items_at zero (suc n) i k h l g d = absurd (not-suc-le-zero l)
  items_at (suc f) (suc n) i zero h l g d = rw (step f i (begins n i h))
  items_at (suc f) (suc n) i (suc k) h l g d = rw (step f i (begins n i h)) (items_at f n (i + size i) k h (omega arith) (omega arith) d)

  few : (n : ℕ) → place_from size 0 n ≡ length b → n ≤ length b
  few n h = omega (arith, place_least size 1 pos 0 n)

  pub whole_length : (n : ℕ) → place_from size 0 n ≡ length b → length (whole F b) ≡ n
  whole_length n h = items_length (length b) n 0 h (few n h)

  pub whole_at : (n k : ℕ) (d : A) → place_from size 0 n ≡ length b → k < n → get_or (whole F b) k d ≡ (F.read (drop (place_from size 0 k) b)).0
  whole_at n k d h g = items_at (length b) n 0 k h (few n h) g d

  -- as many as there are, whatever bounds them
  every_none : (f : ℕ) → every F f [] ≡ []
  every_none zero = refl
  every_none (suc f) = refl

  items_same : (f g n i : ℕ) → place_from size i n ≡ length b → n ≤ f → n ≤ g → every F f (drop i b) ≡ every F g (drop i b)
  unfolding place_from
  items_same f g zero i h l m = rw (drop_of_length-le b {i = i} (omega arith)) (every_none f ∙ sym (every_none g))
  items_same zero g (suc n) i h l m = absurd (not-suc-le-zero l)
  items_same (suc f) zero (suc n) i h l m = absurd (not-suc-le-zero m)
  items_same (suc f) (suc g) (suc n) i h l m =
      step f i (begins n i h)
      ∙ ap (λ (r : List A). (F.read (drop i b)).0 ∷ r) (items_same f g n (i + size i) h (omega arith) (omega arith))
      ∙ sym (step g i (begins n i h))

  rest_few : (n i : ℕ) → place_from size i n ≡ length b → n ≤ length (drop i b)
  rest_few n i h = rw length-drop (omega (arith, h, place_least size 1 pos i n))

  -- the items from a place on: the first of them, and those past it
  pub whole_from : (n i : ℕ) → place_from size i (suc n) ≡ length b → whole F (drop i b) ≡ (F.read (drop i b)).0 ∷ whole F (drop (i + size i) b)
  unfolding place_from
  whole_from n i h =
      let m = length (drop (i + size i) b) in
      items_same (length (drop i b)) (suc m) (suc n) i h (rest_few (suc n) i h) (omega (arith, rest_few n (i + size i) h))
      ∙ step m i (begins n i h)

-- ---- bytes read one by one

pub drop_to : (s : List ℕ) (m n k : ℕ) → n + m ≡ k → drop m (drop n s) ≡ drop k s
drop_to s m n k e = drop-drop m n s ∙ ap (λ (i : ℕ). drop i s) e

pub reads_rest : (n : ℕ) (bs : List ℕ) → (reads (number 1) n bs).1 ≡ drop n bs
reads_rest zero bs = refl
reads_rest (suc n) [] = reads_rest n [] ∙ drop-nil n
reads_rest (suc n) (x ∷ bs) = reads_rest n bs

pub reads_bytes : (n : ℕ) (bs : List ℕ) → n ≤ length bs → Bytes bs → (reads (number 1) n bs).0 ≡ take n bs
reads_bytes zero bs h all = refl
reads_bytes (suc n) [] h all = absurd (not-suc-le-zero h)
reads_bytes (suc n) (x ∷ bs) h all =
    let e : x % 256 + 256 * 0 ≡ x = omega (arith, all.0) in
    rw (e, reads_bytes n bs (omega arith) all.1)
