-- Where the blocks of an accepted body stand, which statements are theirs, and that they are the program's blocks. Assumes nothing.
use mathlib.Core.Path.{◌≡◌, refl, sym, ap, ◌∙◌}
use mathlib.Core.Bool.{Bool, true, ◌&&◌, ◌||◌}
use mathlib.Core.List.{List, [], ◌∷◌}
use Rattle.std.specs.Prelude.{None, Some, slice_get}
use Prim.Native.Nat.{ℕ, zero, suc, ◌+◌, ◌-◌, ◌≤◌, ◌<◌}
use native.Mathlib.Nat.{not-suc-le-zero, add-zero, add-suc, suc-add}
use native.Mathlib.Omega.{arith}
use borrow.Author.Tests.{leb-true, lt-ltb, le-ltb}
use lib.Dec.{leb, ltb, eqb}
use lib.ListN.{length, get_or}
use Rattle.layout.specs.Number.{number_at}
use Rattle.files.specs.Bytes.{only}
use Rattle.files.specs.Items.{read_from}
use Rattle.files.specs.Nodes.{root_ok}
use Rattle.files.specs.Blocks.{block_at as item_at, address_ok, cases_of, block_ok, block_items, blocks_in}
use Rattle.files.specs.Program.{block_at, blocks_from, listed}
use Rattle.index.specs.Places.{place_from, block_size}
use Rattle.index.specs.Blocks.{block_start, first_from, block_first, BlockInside, Blocks}
use Rattle.index.proofs.PlaceLaws.{place_mono, place_least, place_strict}
use Rattle.std.proofs.lemmas.Bool.{and_parts}
use Rattle.files.proofs.BoolLaws.{only_there}
use Rattle.index.proofs.ItemLaws.{state_from, reached}

block_one : (b : List ℕ) (i : ℕ) → 1 ≤ block_size b i
block_one b i = omega arith

-- ---- what the test of a block shows, where `left` statements are not dealt yet

pub record Tested (nodes b : List ℕ) (left i : ℕ) : Type 0 where
  pub inside : BlockInside b i
  pub dealt : number_at b i 2 ≤ left
  pub good : block_ok nodes b i ≡ true
  pub sized : item_at nodes b left i ≡ block_size b i

kind_good : (nodes b : List ℕ) (i : ℕ) → block_ok nodes b i ≡ true → get_or b (i + 2) 0 ≤ 3
unfolding block_ok
kind_good nodes b i h =
    let kind = get_or b (i + 2) 0 in
    let t₁ = leb kind 3 in
    let t₂ = address_ok (get_or b (i + 3) 0) (number_at b (i + 4) 8) in
    let t₃ = leb 2 kind || eqb (get_or b (i + 3) 0) 0 in
    let t₄ = leb 2 kind || eqb (number_at b (i + 12) 4) 0 in
    let t₅ = ltb kind 2 || root_ok nodes (number_at b (i + 12) 4) in
    let t₆ = leb 1 kind || eqb (number_at b (i + 16) 4) 0 in
    let t₇ = eqb kind 2 || eqb (number_at b (i + 20) 4) 0 in
    let h₄ = (and_parts (t₁ && t₂ && t₃ && t₄) t₅ (and_parts (t₁ && t₂ && t₃ && t₄ && t₅) t₆ (and_parts (t₁ && t₂ && t₃ && t₄ && t₅ && t₆) t₇ h).0).0).0 in
    leb-true kind 3 (and_parts t₁ t₂ (and_parts (t₁ && t₂) t₃ (and_parts (t₁ && t₂ && t₃) t₄ h₄).0).0).0

tested : (nodes b : List ℕ) (left i : ℕ) → i < length b → (item_at nodes b left i ≡ 0 → ⊥) → Tested nodes b left i
unfolding item_at
tested nodes b left i h n =
    let k = cases_of (get_or b (i + 2) 0) (number_at b (i + 16) 4) in
    let t₁ = leb 24 (length b - i) in
    let t₂ = leb (number_at b i 2) left in
    let t₃ = block_ok nodes b i in
    let t₄ = leb k (length b - (i + 24)) in
    let a : (t₁ && t₂ && t₃ && t₄) ≡ true = (only_there (t₁ && t₂ && t₃ && t₄) (k + 24) n).0 in
    let a₃ = (and_parts (t₁ && t₂ && t₃) t₄ a).0 in
    let a₂ = (and_parts (t₁ && t₂) t₃ a₃).0 in
    let g = (and_parts (t₁ && t₂) t₃ a₃).1 in
    record {
      inside = record {
        inside = omega (arith, leb-true 24 (length b - i) (and_parts t₁ t₂ a₂).0, leb-true k (length b - (i + 24)) (and_parts (t₁ && t₂ && t₃) t₄ a).1);
        kind = kind_good nodes b i g;
      };
      dealt = leb-true (number_at b i 2) left (and_parts t₁ t₂ a₂).1;
      good = g;
      sized = ap (λ (t : Bool). only t (k + 24)) a;
    }

-- ---- statements dealt in order

pub first_suc : (b : List ℕ) (i f k : ℕ) → first_from b i f (suc k) ≡ first_from b i f k + number_at b (place_from (block_size b) i k) 2
unfolding first_from place_from
first_suc b i f zero = refl
first_suc b i f (suc k) = first_suc b (i + block_size b i) (f + number_at b i 2) k

module _ (nodes b : List ℕ) where
  first_left : (k left i f : ℕ) → ((j : ℕ) → j < k → number_at b (place_from (block_size b) i j) 2 ≤ state_from (block_items nodes b) (block_size b) left i j)
      → first_from b i f k + state_from (block_items nodes b) (block_size b) left i k ≡ f + left
  unfolding first_from place_from
  first_left zero left i f h = refl
  first_left (suc k) left i f h =
      first_left k (left - number_at b i 2) (i + block_size b i) (f + number_at b i 2) (λ j g. h (suc j) (omega arith)) ∙ omega (arith, h 0 (omega arith))

  -- an accepted body
  module _ (total : ℕ) (h : 1 ≤ blocks_in nodes total b) where
    block_left : ℕ → ℕ
    block_left k = state_from (block_items nodes b) (block_size b) total 0 k

    block_tested : (k : ℕ) → block_start b k < length b → Tested nodes b (block_left k) (block_start b k)
    unfolding blocks_in read_from block_start block_left
    block_tested k l =
        tested nodes b (block_left k) (place_from (block_size b) 0 k) l
        (reached (block_items nodes b) (length b) (block_size b) (λ s i g n. (tested nodes b s i g n).sized) (suc (length b)) k total 0 h l)

    -- the statements of block k are among all
    pub block_statements : (k : ℕ) → block_start b k < length b → block_first b k + number_at b (block_start b k) 2 ≤ total
    unfolding block_first block_start block_left
    block_statements k l =
        omega (
          arith,
          (block_tested k l).dealt,
          first_left k total 0 0 (λ j g. (block_tested j (omega (arith, place_mono (block_size b) 0 j k (omega arith)))).dealt),
        )

    -- the test of a block holds of it, so that a tree stands at its root
    pub block_good : (k : ℕ) → block_start b k < length b → block_ok nodes b (block_start b k) ≡ true
    block_good k l = (block_tested k l).good

    pub blocks_accepted : total < 65536 → length b < 65536 → Blocks b
    blocks_accepted few short = record {
      inside = λ k l. (block_tested k l).inside;
      dealt = λ k l. omega (arith, block_statements k l);
      short = short;
    }

-- ---- the program's blocks

module _ (nodes statements b : List ℕ) where
  blocks_step : (f i k : ℕ) → i < length b → blocks_from (suc f) nodes statements b i k ≡ block_at nodes statements b i k ∷ blocks_from f nodes statements b (i + block_size b i) (k + number_at b i 2)
  unfolding blocks_from
  blocks_step f i k h = rw (lt-ltb i (length b) h, blocks_from)

  blocks_stop : (f i k : ℕ) → length b ≤ i → blocks_from f nodes statements b i k ≡ []
  unfolding blocks_from
  blocks_stop zero i k h = refl
  blocks_stop (suc f) i k h = rw (le-ltb i (length b) h, blocks_from)

  begins : (n i : ℕ) → place_from (block_size b) i (suc n) ≡ length b → i < length b
  unfolding place_from
  begins n i h = omega (arith, place_mono (block_size b) (i + block_size b i) 0 n (omega arith))

  block_at_lem : (f n i first k : ℕ) → place_from (block_size b) i n ≡ length b → n ≤ f → k < n
      → slice_get (blocks_from f nodes statements b i first) k ≡ Some (block_at nodes statements b (place_from (block_size b) i k) (first_from b i first k))
  unfolding place_from first_from
  block_at_lem f zero i first k h l g = absurd (not-suc-le-zero g)
  block_at_lem zero (suc n) i first k h l g = absurd (not-suc-le-zero l)
  block_at_lem (suc f) (suc n) i first zero h l g = rw (blocks_step f i first (begins n i h))
  block_at_lem (suc f) (suc n) i first (suc k) h l g =
      rw (blocks_step f i first (begins n i h)) (block_at_lem f n (i + block_size b i) (first + number_at b i 2) k h (omega arith) (omega arith))

  block_past : (f n i first k : ℕ) → place_from (block_size b) i n ≡ length b → n ≤ f → n ≤ k → slice_get (blocks_from f nodes statements b i first) k ≡ None
  unfolding place_from
  block_past f zero i first k h l g = rw (blocks_stop f i first (omega arith))
  block_past zero (suc n) i first k h l g = absurd (not-suc-le-zero l)
  block_past (suc f) (suc n) i first zero h l g = absurd (not-suc-le-zero g)
  block_past (suc f) (suc n) i first (suc k) h l g =
      rw (blocks_step f i first (begins n i h)) (block_past f n (i + block_size b i) (first + number_at b i 2) k h (omega arith) (omega arith))

  module _ (n : ℕ) (full : block_start b n ≡ length b) where
    few : n ≤ length b
    unfolding block_start
    few = omega (arith, place_least (block_size b) 1 (block_one b) 0 n)

    -- block k of the program is the one at its place, with its first statement; there is none past the last
    pub block_there : (k : ℕ) → k < n → slice_get (blocks_from (length b) nodes statements b 0 0) k ≡ Some (block_at nodes statements b (block_start b k) (block_first b k))
    unfolding block_start block_first
    block_there k h = block_at_lem (length b) n 0 0 k full few h

    pub block_none : (k : ℕ) → n ≤ k → slice_get (blocks_from (length b) nodes statements b 0 0) k ≡ None
    unfolding block_start
    block_none k h = block_past (length b) n 0 0 k full few h

pub block_before : (b : List ℕ) (n k : ℕ) → block_start b n ≡ length b → k < n → block_start b k < length b
unfolding block_start
block_before b n k full h = omega (arith, place_strict (block_size b) (block_one b) 0 k n h)

-- ---- lists of things in order

module _ {A : Type 0} (f : ℕ → A) where
  pub listed_at : (i n k : ℕ) → k < n → slice_get (listed f i n) k ≡ Some (f (i + k))
  unfolding listed
  listed_at i zero k h = absurd (not-suc-le-zero h)
  listed_at i (suc n) zero h = rw add-zero
  listed_at i (suc n) (suc k) h = listed_at (suc i) n k (omega arith) ∙ ap (λ (m : ℕ). Some (f m)) (suc-add i k ∙ sym (add-suc i k))
