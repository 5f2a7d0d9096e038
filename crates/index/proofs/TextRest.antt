-- The first text of a body, and the body past it. Assumes nothing.
use mathlib.Core.Path.{◌≡◌, refl, sym, ap, ap₂, subst, ◌∙◌}
use mathlib.Core.List.{List, [], ◌∷◌, nil≢cons}
use Prim.Native.Nat.{ℕ, zero, suc, ◌+◌, ◌≤◌, ◌<◌}
use native.Mathlib.Nat.{add-zero}
use native.Mathlib.Omega.{arith}
use lib.ListN.{length, take, drop, get_or, length-drop}
use lib.Seq.{drop-drop}
use Rattle.layout.specs.Each.{Bytes}
use Rattle.layout.specs.Number.{number_at}
use Rattle.layout.proofs.NumberLaws.{number_at_one}
use Rattle.layout.proofs.StoreLaws.{each_byte, each_drop, byte_of}
use Rattle.files.specs.Program.{texts_in}
use Rattle.index.specs.Places.{place_from, text_size}
use Rattle.index.specs.Texts.{text_count, Texts}
use Rattle.index.proofs.BodyLaws.{whole_from}
use Rattle.index.proofs.TextPlaces.{text_format, text_some, text_moves, text_inside, text_bytes}

-- the places in what is left of a body
number_left : (b : List ℕ) (s i : ℕ) → number_at (drop s b) i 1 ≡ number_at b (s + i) 1
unfolding number_at
number_left b s i = rw drop-drop refl

place_left : (b : List ℕ) (s i n : ℕ) → s + place_from (text_size (drop s b)) i n ≡ place_from (text_size b) (s + i) n
unfolding place_from
place_left b s i zero = refl
place_left b s i (suc n) =
    place_left b s (i + text_size (drop s b) i) n
    ∙ ap (λ (j : ℕ). place_from (text_size b) j n) (omega (arith, number_left b s i))

-- ---- a body with a text in it

module _ (b : List ℕ) (all : Texts b) (n : ℕ) (count : text_count b ≡ suc n) where
  filled : place_from (text_size b) 0 (suc n) ≡ length b
  filled = subst (λ (m : ℕ). place_from (text_size b) 0 m ≡ length b) count all.full

  first_there : 0 + text_size b 0 ≤ length b
  unfolding place_from
  first_there = text_inside b all 0 (omega (arith, count))

  split_off : texts_in b ≡ (text_format.read b).0 ∷ texts_in (drop (0 + text_size b 0) b)
  split_off = whole_from text_format b (text_size b) (text_moves b) (text_some b) n 0 filled

  count_left : text_count (drop (0 + text_size b 0) b) ≡ n
  unfolding text_count
  count_left = omega (arith, ap length split_off, count)

  first_read : Bytes b → (text_format.read b).0 ≡ take (number_at b 0 1) (drop (0 + 1) b)
  unfolding place_from
  first_read bytes = ap (λ (l : List (List ℕ)). get_or l 0 []) (sym split_off) ∙ text_bytes b all 0 (omega (arith, count)) bytes

  full_left : place_from (text_size (drop (0 + text_size b 0) b)) 0 n ≡ length (drop (0 + text_size b 0) b)
  unfolding place_from
  full_left =
      let s = 0 + text_size b 0 in
      rw length-drop (omega (arith, place_left b s 0 n, ap (λ (j : ℕ). place_from (text_size b) j n) (add-zero s), filled, first_there))

  rest_texts : Texts (drop (0 + text_size b 0) b)
  rest_texts = record {
    full = subst (λ (m : ℕ). place_from (text_size (drop (0 + text_size b 0) b)) 0 m ≡ length (drop (0 + text_size b 0) b)) (sym count_left) full_left;
    few = omega (arith, count_left, count, all.few);
    short = rw length-drop (omega (arith, all.short));
  }

-- ---- the same, where the length byte and what follows it are known

some_text : (b : List ℕ) → Texts b → 0 < length b → (n : ℕ) × (text_count b ≡ suc n)
unfolding place_from
some_text b all some = go (text_count b) refl
  where
    go : (m : ℕ) → text_count b ≡ m → (n : ℕ) × (text_count b ≡ suc n)
    go zero e = absurd (omega (arith, some, subst (λ (m : ℕ). place_from (text_size b) 0 m ≡ length b) e all.full))
    go (suc n) e = (n, e)

module _ (x : ℕ) (t : List ℕ) (all : Texts (x ∷ t)) (bytes : Bytes (x ∷ t)) where
  its_size : number_at (x ∷ t) 0 1 ≡ x
  its_size = number_at_one (x ∷ t) 0 (omega arith) bytes.0

  its_end : drop (0 + text_size (x ∷ t) 0) (x ∷ t) ≡ drop x t
  its_end =
      let e : 0 + text_size (x ∷ t) 0 ≡ suc x = omega (arith, its_size) in
      ap (λ (k : ℕ). drop k (x ∷ t)) e

  inside_of : x ≤ length t
  inside_of = let n = some_text (x ∷ t) all (omega arith) in omega (arith, first_there (x ∷ t) all n.0 n.1, its_size)

  texts_of : texts_in (x ∷ t) ≡ take x t ∷ texts_in (drop x t)
  texts_of =
      let n = some_text (x ∷ t) all (omega arith) in
      let first : (text_format.read (x ∷ t)).0 ≡ take x t = first_read (x ∷ t) all n.0 n.1 bytes ∙ ap (λ (k : ℕ). take k t) its_size in
      split_off (x ∷ t) all n.0 n.1 ∙ ap₂ ◌∷◌ first (ap (λ (l : List ℕ). texts_in l) its_end)

  rest_of : Texts (drop x t)
  rest_of = let n = some_text (x ∷ t) all (omega arith) in subst Texts its_end (rest_texts (x ∷ t) all n.0 n.1)

module _ {b : List ℕ} {x : ℕ} {t : List ℕ} (all : Texts b) (bytes : (i : ℕ) → get_or b i 0 < 256) (is : b ≡ x ∷ t) where
  all_there : Texts (x ∷ t)
  all_there = subst Texts is all

  bytes_there : Bytes (x ∷ t)
  bytes_there = subst Bytes is (each_byte b bytes)

  pub first_inside : x ≤ length t
  first_inside = inside_of x t all_there bytes_there

  pub first_text : texts_in b ≡ take x t ∷ texts_in (drop x t)
  first_text = ap (λ (l : List ℕ). texts_in l) is ∙ texts_of x t all_there bytes_there

  -- what follows it
  module _ {n : ℕ} {s : List ℕ} (size : n ≡ x) (rest : s ≡ drop n t) where
    past : drop x t ≡ s
    past = ap (λ (k : ℕ). drop k t) (sym size) ∙ sym rest

    pub rest_texts_lem : Texts s
    rest_texts_lem = subst Texts past (rest_of x t all_there bytes_there)

    pub rest_bytes : (i : ℕ) → get_or s i 0 < 256
    rest_bytes i = subst (λ (l : List ℕ). get_or l i 0 < 256) past (byte_of (drop x t) i (each_drop x t bytes_there.1))

-- ---- a list from place i on: its first, and the others

pub left_one : (l : List (List ℕ)) (i : ℕ) {t : List ℕ} {r : List (List ℕ)} → drop i l ≡ t ∷ r → (i < length l) × (get_or l i [] ≡ t) × (drop (suc i) l ≡ r)
left_one [] zero h = absurd (nil≢cons h)
left_one [] (suc i) h = absurd (nil≢cons h)
left_one (x ∷ l) zero h = (omega arith, ap (λ (k : List (List ℕ)). get_or k 0 []) h, ap (λ (k : List (List ℕ)). drop 1 k) h)
left_one (x ∷ l) (suc i) h = let m = left_one l i h in (omega (arith, m.0), m.1, m.2)

pub left_none : (l : List (List ℕ)) (i : ℕ) → drop i l ≡ [] → (length l ≤ i) × (get_or l i [] ≡ []) × (drop (suc i) l ≡ [])
left_none [] zero h = (omega arith, refl, refl)
left_none [] (suc i) h = (omega arith, refl, refl)
left_none (x ∷ l) zero h = absurd (nil≢cons (sym h))
left_none (x ∷ l) (suc i) h = let m = left_none l i h in (omega (arith, m.0), m.1, m.2)
