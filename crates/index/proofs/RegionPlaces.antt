-- Where the regions of an accepted body stand, and what they are. Assumes nothing.
use mathlib.Core.Path.{◌≡◌, refl, sym, ap, ◌∙◌}
use mathlib.Core.Bool.{Bool, true, ◌&&◌, ◌||◌}
use mathlib.Core.List.{List}
use Prim.Native.Nat.{ℕ, zero, suc, ◌+◌, ◌-◌, ◌^◌, ◌≤◌, ◌<◌}
use native.Mathlib.Nat.{add-zero}
use native.Mathlib.Omega.{arith}
use borrow.Author.Tests.{leb-true, ltb-true, ne_eqb}
use lib.Dec.{leb, ltb, eqb}
use lib.ListN.{length, take, drop, get_or, length-drop}
use lib.Seq.{drop-drop}
use Rattle.layout.specs.Each.{Bytes}
use Rattle.layout.specs.Number.{num, number_at}
use Rattle.layout.specs.Format.{number, reads, whole}
use Rattle.layout.proofs.StoreLaws.{each_drop}
use Rattle.layout.proofs.FormatLaws.{length_reads}
use Rattle.files.specs.Bytes.{only}
use Rattle.files.specs.Items.{read_from}
use Rattle.files.specs.WorldFile.{Before, before, region_at, region_items, regions_in}
use Rattle.files.specs.World.{Region, region}
use Rattle.index.specs.Places.{place_from, region_size}
use Rattle.index.specs.Regions.{region_count, region_place, start_at, end_at, RegionInside, Regions}
use Rattle.index.proofs.PlaceLaws.{place_strict}
use Rattle.std.proofs.lemmas.Bool.{and_parts}
use Rattle.files.proofs.BoolLaws.{only_there}
use Rattle.index.proofs.ItemLaws.{state_from, reached, finishes}
use Rattle.index.proofs.BodyLaws.{whole_length, whole_at, reads_rest, reads_bytes, drop_to}

region_some : (b : List ℕ) (i : ℕ) → 1 ≤ region_size b i
region_some b i = omega arith

-- ---- the format of a region

region_moves : (b : List ℕ) (i : ℕ) → (region.read (drop i b)).1 ≡ drop (i + region_size b i) b
unfolding number_at
region_moves b i =
    let n = num (take 4 (drop 8 (drop i b))) in
    let e : n ≡ num (take 4 (drop (i + 8) b)) = ap (λ (s : List ℕ). num (take 4 s)) (drop-drop 8 i b) in
    reads_rest n (drop 4 (drop 8 (drop i b))) ∙ ap (λ (s : List ℕ). drop n (drop 4 s)) (drop-drop 8 i b) ∙ ap (drop n) (drop_to b 4 (i + 8) (i + 12) (omega arith))
    ∙ drop_to b n (i + 12) (i + region_size b i) (omega (arith, e))

-- the bytes of the region at a place
abbrev pub bytes_at : List ℕ → ℕ → List ℕ
bytes_at b i = take (number_at b (i + 8) 4) (drop (i + 12) b)

region_is : (b : List ℕ) (i : ℕ) → Bytes b → i + region_size b i ≤ length b → (region.read (drop i b)).0 ≡ (start_at b i, bytes_at b i)
unfolding number_at
region_is b i bytes h =
    let n = num (take 4 (drop (i + 8) b)) in
    let l : n ≤ length (drop (i + 12) b) = rw length-drop (omega (arith, h)) in
    ap (λ (s : List ℕ). (num (take 8 (drop i b)), (reads (number 1) (num (take 4 s)) (drop 4 s)).0)) (drop-drop 8 i b)
    ∙ ap (λ (s : List ℕ). (num (take 8 (drop i b)), (reads (number 1) n s).0)) (drop_to b 4 (i + 8) (i + 12) (omega arith))
    ∙ ap (λ (s : List ℕ). (num (take 8 (drop i b)), s)) (reads_bytes n (drop (i + 12) b) l (each_drop (i + 12) b bytes))

-- without a look at its bytes
region_start : (b : List ℕ) (i : ℕ) → (region.read (drop i b)).0.0 ≡ start_at b i
unfolding number_at
region_start b i = refl

region_length : (b : List ℕ) (i : ℕ) → length (region.read (drop i b)).0.1 ≡ number_at b (i + 8) 4
unfolding number_at
region_length b i = length_reads (number 1) (num (take 4 (drop 8 (drop i b)))) (drop 4 (drop 8 (drop i b))) ∙ ap (λ (s : List ℕ). num (take 4 s)) (drop-drop 8 i b)

-- ---- region k

module _ (b : List ℕ) (all : Regions b) (k : ℕ) (d : Region) (h : k < region_count b) where
  region_read : get_or (whole region b) k d ≡ (region.read (drop (region_place b k) b)).0
  unfolding region_count region_place
  region_read = whole_at region b (region_size b) (region_moves b) (region_some b) (region_count b) k d all.full h

  pub its_start : (get_or (whole region b) k d).0 ≡ start_at b (region_place b k)
  its_start = ap (λ (r : Region). r.0) region_read ∙ region_start b (region_place b k)

  pub its_length : length (get_or (whole region b) k d).1 ≡ number_at b (region_place b k + 8) 4
  its_length = ap (λ (r : Region). length r.1) region_read ∙ region_length b (region_place b k)

  pub its_bytes : Bytes b → (get_or (whole region b) k d).1 ≡ bytes_at b (region_place b k)
  its_bytes bytes = ap (λ (r : Region). r.1) (region_read ∙ region_is b (region_place b k) bytes (all.inside k h).inside)

-- ---- what the test of a region shows

record Tested (b : List ℕ) (s : Before) (i : ℕ) : Type 0 where
  pub ok : RegionInside b i
  pub after : (eqb s.count 0 || ltb s.last (start_at b i)) ≡ true
  pub sized : region_at b s i ≡ region_size b i

tested : (b : List ℕ) (s : Before) (i : ℕ) → i < length b → (region_at b s i ≡ 0 → ⊥) → Tested b s i
unfolding region_at
tested b s i h n =
    let size = number_at b (i + 8) 4 in
    let t₁ = leb 12 (length b - i) in
    let t₂ = eqb s.count 0 || ltb s.last (number_at b i 8) in
    let t₃ = leb 1 size in
    let t₄ = leb (number_at b i 8 + size) (2 ^ 64) in
    let t₅ = leb size (length b - (i + 12)) in
    let a : (t₁ && t₂ && t₃ && t₄ && t₅) ≡ true = (only_there (t₁ && t₂ && t₃ && t₄ && t₅) (size + 12) n).0 in
    let a₄ = (and_parts (t₁ && t₂ && t₃ && t₄) t₅ a).0 in
    let a₃ = (and_parts (t₁ && t₂ && t₃) t₄ a₄).0 in
    let a₂ = (and_parts (t₁ && t₂) t₃ a₃).0 in
    let l : 1 ≤ size = leb-true 1 size (and_parts (t₁ && t₂) t₃ a₃).1 in
    record {
      ok = record {
        inside = omega (arith, leb-true size (length b - (i + 12)) (and_parts (t₁ && t₂ && t₃ && t₄) t₅ a).1, l);
        some = l;
        ends = leb-true (number_at b i 8 + size) (2 ^ 64) (and_parts (t₁ && t₂ && t₃) t₄ a₄).1;
      };
      after = (and_parts t₁ t₂ a₂).1;
      sized = ap (λ (t : Bool). only t (size + 12)) a;
    }

state_count : (b : List ℕ) (s : Before) (i k : ℕ) → (state_from (region_items b) (region_size b) s i k).count ≡ s.count + k
state_count b s i zero = sym (add-zero s.count)
state_count b s i (suc k) = state_count b (before (s.count + 1) (number_at b i 8 + (region_size b i - 13))) (i + region_size b i) k ∙ omega arith

-- the state before a region tells the last address of the one before it
state_last : (b : List ℕ) (s : Before) (i k : ℕ) → (state_from (region_items b) (region_size b) s i (suc k)).last ≡ start_at b (place_from (region_size b) i k) + (region_size b (place_from (region_size b) i k) - 13)
unfolding place_from
state_last b s i zero = refl
state_last b s i (suc k) = state_last b (before (s.count + 1) (number_at b i 8 + (region_size b i - 13))) (i + region_size b i) k

module _ (b : List ℕ) (h : 1 ≤ regions_in b) where
  sized : (s : Before) (i : ℕ) → i < length b → (region_at b s i ≡ 0 → ⊥) → region_at b s i ≡ region_size b i
  sized s i l n = (tested b s i l n).sized

  regions_end : (n : ℕ) × (place_from (region_size b) 0 n ≡ length b)
  unfolding regions_in read_from
  regions_end = finishes (region_items b) (length b) (region_size b) sized (suc (length b)) (before 0 0) 0 (λ s i l n. (tested b s i l n).ok.inside) (omega arith) h

  region_tested : (k : ℕ) → place_from (region_size b) 0 k < length b → Tested b (state_from (region_items b) (region_size b) (before 0 0) 0 k) (place_from (region_size b) 0 k)
  unfolding regions_in read_from
  region_tested k l =
      tested b (state_from (region_items b) (region_size b) (before 0 0) 0 k) (place_from (region_size b) 0 k) l
      (reached (region_items b) (length b) (region_size b) sized (suc (length b)) k (before 0 0) 0 h l)

  regions_number : region_count b ≡ regions_end.0
  unfolding region_count
  regions_number = whole_length region b (region_size b) (region_moves b) (region_some b) regions_end.0 regions_end.1

  count_full : place_from (region_size b) 0 (region_count b) ≡ length b
  count_full = ap (place_from (region_size b) 0) regions_number ∙ regions_end.1

  place_below : (k : ℕ) → k < region_count b → place_from (region_size b) 0 k < length b
  place_below k l = omega (arith, place_strict (region_size b) (region_some b) 0 k (region_count b) l, count_full)

  region_after : (k : ℕ) → suc k < region_count b → end_at b (place_from (region_size b) 0 k) ≤ start_at b (place_from (region_size b) 0 (suc k))
  region_after k l =
      let p = place_from (region_size b) 0 k in
      let s = state_from (region_items b) (region_size b) (before 0 0) 0 (suc k) in
      let next = region_tested (suc k) (place_below (suc k) l) in
      let c : s.count ≡ 0 → ⊥ = λ z. omega (arith, state_count b (before 0 0) 0 (suc k)) in
      let f : ltb s.last (start_at b (place_from (region_size b) 0 (suc k))) ≡ true = rw (ne_eqb s.count 0 c) at next.after in
      omega (arith, ltb-true s.last (start_at b (place_from (region_size b) 0 (suc k))) f, state_last b (before 0 0) 0 k, (region_tested k (place_below k (omega arith))).ok.some)

  -- an accepted body of regions
  pub regions_accepted : length b < 65536 → Regions b
  unfolding region_place
  regions_accepted short = record {
    full = count_full;
    inside = λ k l. (region_tested k (place_below k l)).ok;
    apart = region_after;
    short = short;
  }
