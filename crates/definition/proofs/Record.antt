-- The bodies of a record are found by its pairs, however many there are (`body_back`); Stop and Counts are of one length. Assumes nothing.
use mathlib.Core.Path.{◌≡◌, refl, sym, ap, ap₂, ◌∙◌}
use mathlib.Core.List.{List, [], ◌∷◌, ◌++◌, append_assoc}
use Prim.Native.Nat.{ℕ, ◌+◌, ◌*◌, ◌^◌, ◌≤◌, ◌<◌}
use native.Mathlib.Omega.{arith}
use lib.ListN.{length, take, drop, length-append}
use lib.Seq.{take_at, drop_at, drop-drop}
use Rattle.layout.specs.Number.{le, num, number_at}
use Rattle.definition.specs.Statements.{Stop}
use Rattle.definition.specs.Record.{stop_body, counts_body, join, pairs, layout, body_at}
use Rattle.layout.proofs.NumberLaws.{num_le}

join_append : (xs ys : List (List ℕ)) → join (xs ++ ys) ≡ join xs ++ join ys
join_append [] ys = refl
join_append (x ∷ xs) ys = ap (λ (r : List ℕ). x ++ r) (join_append xs ys) ∙ sym (append_assoc x (join xs) (join ys))

length_pairs : (o : ℕ) (xs : List (List ℕ)) → length (pairs o xs) ≡ 8 * length xs
length_pairs o [] = refl
length_pairs o (x ∷ xs) = omega (arith, length_pairs (o + length x) xs)

pairs_append : (o : ℕ) (xs ys : List (List ℕ)) → pairs o (xs ++ ys) ≡ pairs o xs ++ pairs (o + length (join xs)) ys
pairs_append o [] ys = ap (λ (n : ℕ). pairs n ys) (omega arith)
pairs_append o (x ∷ xs) ys =
    ap (λ (r : List ℕ). le 4 o ++ (le 4 (length x) ++ r))
    (pairs_append (o + length x) xs ys
    ∙ ap (λ (n : ℕ). pairs (o + length x) xs ++ pairs n ys) (omega (arith, length-append x (join xs))))

module _ (xs : List (List ℕ)) (b : List ℕ) (ys : List (List ℕ)) where
  abbrev all : List (List ℕ)
  all = xs ++ b ∷ ys

  abbrev start : ℕ
  start = 8 * length all + length (join xs)

  abbrev rest : List ℕ
  rest = pairs (start + length b) ys ++ join all

  -- the record from the body's pair on
  from_pair : drop (8 * length xs) (layout all) ≡ le 4 start ++ (le 4 (length b) ++ rest)
  unfolding layout
  from_pair =
      ap (λ (r : List ℕ). drop (8 * length xs) (r ++ join all)) (pairs_append (8 * length all) xs (b ∷ ys))
      ∙ ap (drop (8 * length xs)) (append_assoc (pairs (8 * length all) xs) (pairs start (b ∷ ys)) (join all))
      ∙ drop_at (pairs (8 * length all) xs) (le 4 start ++ (le 4 (length b) ++ rest)) (8 * length xs) (length_pairs (8 * length all) xs)

  from_length : drop (8 * length xs + 4) (layout all) ≡ le 4 (length b) ++ rest
  from_length = sym (drop-drop 4 (8 * length xs) (layout all)) ∙ ap (drop 4) from_pair

  -- the record up to the body, and from the body on
  abbrev head : List ℕ
  head = pairs (8 * length all) all ++ join xs

  at_body : layout all ≡ head ++ (b ++ join ys)
  unfolding layout
  at_body =
      ap (λ (r : List ℕ). pairs (8 * length all) all ++ r) (join_append xs (b ∷ ys))
      ∙ sym (append_assoc (pairs (8 * length all) all) (join xs) (b ++ join ys))

  length_head : length head ≡ start
  length_head = omega (arith, length-append (pairs (8 * length all) all) (join xs), length_pairs (8 * length all) all)

  length_all : length (layout all) ≡ start + (length b + length (join ys))
  length_all =
      omega (arith, ap length at_body, length-append head (b ++ join ys), length-append b (join ys), length_head)

  module _ (h : length (layout (xs ++ b ∷ ys)) < 256 ^ 4) where
    pair_start : number_at (layout all) (8 * length xs) 4 ≡ start
    unfolding number_at
    pair_start = ap (λ (l : List ℕ). num (take 4 l)) from_pair ∙ num_le 4 start (omega (arith, length_all))

    pair_length : number_at (layout all) (8 * length xs + 4) 4 ≡ length b
    unfolding number_at
    pair_length = ap (λ (l : List ℕ). num (take 4 l)) from_length ∙ num_le 4 (length b) (omega (arith, length_all))

    -- what a pair locates lies in the record
    pub body_inside : number_at (layout (xs ++ b ∷ ys)) (8 * length xs) 4 + number_at (layout (xs ++ b ∷ ys)) (8 * length xs + 4) 4 ≤ length (layout (xs ++ b ∷ ys))
    body_inside = omega (arith, pair_start, pair_length, length_all)

  pub body_back : length (layout (xs ++ b ∷ ys)) < 256 ^ 4 → body_at (layout (xs ++ b ∷ ys)) (length xs) ≡ b
  unfolding body_at
  body_back h =
      let r = layout all in
      ap₂ (λ (m s : ℕ). take m (drop s r)) (pair_length h) (pair_start h)
      ∙ ap (λ (l : List ℕ). take (length b) (drop start l)) at_body
      ∙ ap (take (length b)) (drop_at head (b ++ join ys) start length_head)
      ∙ take_at b (join ys) (length b) refl

-- ---- the bodies themselves

-- so the steps start at byte 48 + 39 + 12
pub stop_length : (s : Stop) → length (stop_body s) ≡ 39
unfolding stop_body
stop_length s = refl

pub counts_length : (entered recorded : ℕ) → length (counts_body entered recorded) ≡ 12
unfolding counts_body
counts_length entered recorded = refl
