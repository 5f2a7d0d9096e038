-- How the index of regions grows, and the search for the region of an address. Assumes nothing.
use mathlib.Core.Path.{◌≡◌, refl, sym, ap, subst, ◌∙◌}
use mathlib.Core.Bool.{Bool, true, false, cond}
use mathlib.Core.List.{List, [], ◌∷◌}
use Rattle.std.specs.Prelude.{None, Some}
use Rattle.std.specs.List.{AllWithin}
use Rattle.std.specs.List.Sorted.{IsPartitionedBy}
use Rattle.std.specs.Simd.{first_chunks}
use Rattle.std.proofs.lemmas.List.{get_or-take, take-take}
use Rattle.std.specs.Iterator.{Yields}
use Rattle.std.specs.Iterator.Adapters.{step_by_steps}
use Rattle.std.specs.declared.iter.StepBy.{StepBy}
use Prim.Native.Nat.{ℕ, zero, suc, ◌+◌, ◌-◌, ◌*◌, ◌/◌, ◌≤◌, ◌<◌}
use native.Mathlib.Nat.{le_antisymm, lt_of_not-le, le_of_suc-le-suc}
use native.Mathlib.Omega.{arith}
use borrow.Author.Tests.{le-leb, leb-true, ltb-true, ltb-false}
use lib.Dec.{leb, ltb}
use lib.ListN.{length, take, drop, get_or, length-take}
use lib.Seq.{drop-drop}
use Rattle.layout.specs.Number.{num, number_at, put_number}
use Rattle.layout.specs.Format.{whole}
use Rattle.files.specs.World.{region, byte_at}
use Rattle.index.specs.Places.{place_from, region_size}
use Rattle.index.specs.declared.regions.Places.{Places}
use Rattle.index.specs.Regions.{regions_room, region_count, region_place, start_at, end_at, starts_by, RegionInside, Regions, Stands, Steps, RegionsIndexed, Clear, From}
use Rattle.index.proofs.PlaceLaws.{place_order, place_next, place_strict}
use Rattle.index.proofs.EntryLaws.{Entries, length_put, entries_more}
use Rattle.index.proofs.RegionBytes.{ends_before, byte_none}

-- ---- places

region_next : (b : List ℕ) (k : ℕ) → region_place b (k + 1) ≡ region_place b k + region_size b (region_place b k)
unfolding region_place
region_next b k = place_next (region_size b) 0 k

region_order : (b : List ℕ) (j k : ℕ) → region_place b j < region_place b k → j < k
unfolding region_place
region_order b j k h = place_order (region_size b) 0 j k h

region_strict : (b : List ℕ) (j k : ℕ) → j < k → region_place b j < region_place b k
unfolding region_place
region_strict b j k h = place_strict (region_size b) (λ i. omega arith) 0 j k h

module _ {b : List ℕ} (all : Regions b) {i k : ℕ} (here : i ≡ region_place b k) where
  -- a place inside is a region's, and the end is past the last
  pub is_region : i < length b → k < region_count b
  is_region h = region_order b k (region_count b) (omega (arith, here, all.full))

  pub is_end : k ≤ region_count b → length b ≤ i → k ≡ region_count b
  is_end l h = le_antisymm l (le_of_suc-le-suc (lt_of_not-le (λ m. omega (arith, region_strict b k (region_count b) m, here, all.full))))

  pub in_body : k < region_count b → RegionInside b i
  in_body l = subst (RegionInside b) (sym here) (all.inside k l)

  pub is_inside : k < region_count b → i < length b
  is_inside l = omega (arith, region_strict b k (region_count b) l, here, all.full)

-- the place past a region's is the next one's
pub region_past : (b : List ℕ) (k : ℕ) {i j : ℕ} → i ≡ region_place b k → j ≡ i + region_size b i → j ≡ region_place b (k + 1)
region_past b k {i} {j} here e = e ∙ ap (λ (m : ℕ). m + region_size b m) here ∙ sym (region_next b k)

module _ {b : List ℕ} {i : ℕ} (so : Stands b i) (h : i < length b) where
  pub stands_inside : RegionInside b i
  stands_inside = in_body so.regions so.here (is_region so.regions so.here h)

  pub stands_on : {n j : ℕ} → n ≡ number_at b (i + 8) 4 → j ≡ i + n + 12 → Stands b j
  stands_on {n} {j} en ej = record {
    regions = so.regions;
    number = so.number + 1;
    here = region_past b so.number so.here (omega (arith, en, ej));
    most = omega (arith, is_region so.regions so.here h);
  }

-- ---- the iterator's steps

module _ {b : List ℕ} (all : Regions b) where
  pub step_on : {s t : Places} {i k : ℕ} → s.regions.now ≡ b → s.at ≡ region_place b k → Steps s (Some i) t
      → (k < region_count b) × (i ≡ region_place b k) × (t.regions.now ≡ b) × (t.at ≡ region_place b (k + 1))
  step_on {s} {t} {i} {k} body here st =
      let lt : s.at < length b = subst (λ (l : List ℕ). s.at < length l) body st.1 in
      (is_region all here lt, st.0 ∙ here, ap (λ v. v.now) st.3 ∙ body, region_past b k here (st.2 ∙ ap (λ (l : List ℕ). s.at + region_size l s.at) body))

  steps_on : (xs : List ℕ) (s t : Places) {k : ℕ} → s.regions.now ≡ b → s.at ≡ region_place b k → k ≤ region_count b → Yields Steps s xs t
      → (t.regions.now ≡ b) × (t.at ≡ region_place b (k + length xs)) × (k + length xs ≤ region_count b)
  steps_on [] s t {k} body here most y =
      let e : k + 0 ≡ k = omega arith in
      (ap (λ (v : Places). v.regions.now) (sym y) ∙ body, ap (λ (v : Places). v.at) (sym y) ∙ here ∙ ap (region_place b) (sym e), omega (arith, most))
  steps_on (x ∷ xs) s t {k} body here most y =
      let st = step_on body here y.1 in
      let more = steps_on xs y.0 t st.2 st.3 (omega (arith, st.0)) y.2 in
      let e : k + 1 + length xs ≡ k + length (x ∷ xs) = omega arith in
      (more.0, more.1 ∙ ap (region_place b) e, omega (arith, more.2))

  -- each region takes 13 bytes or more
  region_least : (k : ℕ) → k ≤ region_count b → k * 13 ≤ region_place b k
  region_least zero h = omega arith
  region_least (suc k) h =
      let e : k + 1 ≡ suc k = omega arith in
      omega (arith, region_least k (omega (arith, h)), (all.inside k (omega (arith, h))).some, region_next b k, ap (region_place b) e)

  pub place_inside : {k : ℕ} → k < region_count b → (region_place b k < length b) × (k * 13 < length b)
  place_inside {k} h =
      let l : region_place b k < length b = is_inside all refl h in
      (l, omega (arith, region_least k (omega (arith, h)), l))

-- ---- the index grows

-- the first entries are in the part, and the iterator passes over as many regions as stand between two of them
pub record Filling (b part : List ℕ) (s : StepBy Places) (count : ℕ) : Type 0 where
  pub body : s.iter.regions.now ≡ b
  pub regions : Regions b
  pub gap : s.gap ≡ 3
  pub number : ℕ
  pub here : s.iter.at ≡ region_place b number
  pub most : number ≤ region_count b
  pub passed : number + cond s.first 0 s.gap ≡ count * 4
  pub room : regions_room ≤ length part
  pub entries : Entries part (λ k. k * 2) (λ k x. x ≡ region_place b (k * 4)) count

pub regions_none : {b part : List ℕ} {s : StepBy Places} → Regions b → s.iter.regions.now ≡ b → s.iter.at ≡ 0 → s.gap + 1 ≡ 4 → s.first ≡ true → regions_room ≤ length part → Filling b part s 0
unfolding region_place place_from
regions_none all body at gap first room = record {
  body = body;
  regions = all;
  gap = omega (arith, gap);
  number = 0;
  here = at;
  most = omega arith;
  passed = rw first refl;
  room = room;
  entries = λ k h. absurd (omega arith);
}

module _ {b part : List ℕ} {s : StepBy Places} {count : ℕ} (so : Filling b part s count) where
  pub regions_stand : Stands s.iter.regions.now s.iter.at
  regions_stand = rw so.body (record { regions = so.regions; number = so.number; here = so.here; most = so.most })

  -- a turn
  module _ {at : ℕ} {t : StepBy Places} (st : step_by_steps Steps s (Some at) t) where
    filled_here : (count * 4 < region_count b) × (at ≡ region_place b (count * 4)) × (t.iter.regions.now ≡ b) × (t.iter.at ≡ region_place b (count * 4 + 1))
    filled_here =
        let run = steps_on so.regions st.2.1 s.iter st.2.3.0 so.body so.here so.most st.2.3.1 in
        let e : so.number + length st.2.1 ≡ count * 4 = ap (λ (n : ℕ). so.number + n) (st.2.4 ∙ st.2.2) ∙ so.passed in
        step_on so.regions run.0 (run.1 ∙ ap (region_place b) e) st.2.3.2

    pub region_room : count * 2 + 2 ≤ length part
    region_room = omega (arith, (place_inside so.regions filled_here.0).1, so.regions.short, so.room)

    pub region_filled : {part' : List ℕ} → part' ≡ put_number part (count * 2) 2 at → Filling b part' t (count + 1)
    region_filled {part'} e =
        let gap : t.gap ≡ 3 = st.0 ∙ so.gap in
        record {
          body = filled_here.2;
          regions = so.regions;
          gap = gap;
          number = count * 4 + 1;
          here = filled_here.3;
          most = omega (arith, filled_here.0);
          passed = rw (st.1, gap) (omega arith);
          room = omega (arith, ap length e ∙ length_put part (count * 2) 2 at, so.room);
          entries = subst (λ (l : List ℕ). Entries l (λ k. k * 2) (λ k x. x ≡ region_place b (k * 4)) (count + 1)) (sym e)
              (entries_more part (λ k. k * 2) (λ k x. x ≡ region_place b (k * 4)) count so.entries (count * 2) (λ k g. omega arith) at refl region_room
              (omega (arith, filled_here.1, (place_inside so.regions filled_here.0).0, so.regions.short)) filled_here.1);
        }

  -- the end
  pub regions_filled : (t : StepBy Places) → step_by_steps Steps s None t → RegionsIndexed b part count
  regions_filled t st =
      let run = steps_on so.regions st.2.1 s.iter st.2.3.0 so.body so.here so.most st.2.3.1 in
      let past : length b ≤ st.2.3.0.at = subst (λ (l : List ℕ). length l ≤ st.2.3.0.at) run.0 st.2.3.2 in
      let all : so.number + length st.2.1 ≡ region_count b = is_end so.regions run.1 run.2 past in
      let gap : st.2.0 ≤ 3 = subst (λ (n : ℕ). n ≤ 3) (sym st.2.2) (gap_most s.first) in
      let number : count ≡ (region_count b + 3) / 4 = omega (arith, all, st.2.4, gap, ap (λ (n : ℕ). so.number + n) st.2.2, so.passed) in
      record {
        regions = so.regions;
        number = number;
        room = omega (arith, number, count_few, so.room);
        at = so.entries;
      }
    where
      gap_most : (f : Bool) → cond f 0 s.gap ≤ 3
      gap_most true = omega arith
      gap_most false = omega (arith, so.gap)

      count_few : region_count b * 13 ≤ 65535
      count_few = omega (arith, region_least so.regions (region_count b) (omega arith), so.regions.full, so.regions.short)

-- ---- the entries as the library's search takes them

entry_bytes : (n : ℕ) (s : List ℕ) (k : ℕ) (d : List ℕ) → k < n → get_or (first_chunks 2 n s) k d ≡ take 2 (drop (k * 2) s)
entry_bytes zero s k d h = absurd (omega (arith, h))
entry_bytes (suc n) s zero d h = refl
entry_bytes (suc n) s (suc k) d h =
    let e : 2 + k * 2 ≡ suc k * 2 = omega arith in
    entry_bytes n (drop 2 s) k d (omega (arith, h)) ∙ ap (take 2) (drop-drop (k * 2) 2 s) ∙ ap (λ (i : ℕ). take 2 (drop i s)) e

number_entry : (s : List ℕ) (i : ℕ) → number_at (take 2 (drop i s)) 0 2 ≡ number_at s i 2
unfolding number_at
number_entry s i = ap num (take-take 2 2 (drop i s) (omega arith))

module _ {b part : List ℕ} {n : ℕ} (all : RegionsIndexed b part n) (entries : List (List ℕ)) (e : entries ≡ take n (first_chunks 2 (length part / 2) part)) (a : ℕ) where
  entry_place : (k : ℕ) (d : List ℕ) → k < n → number_at (get_or entries k d) 0 2 ≡ region_place b (k * 4)
  entry_place k d h =
      let room : k < length part / 2 = omega (arith, all.room, h) in
      ap (λ (l : List (List ℕ)). number_at (get_or l k d) 0 2) e ∙ ap (λ (s : List ℕ). number_at s 0 2) (get_or-take n (first_chunks 2 (length part / 2) part) k d h ∙ entry_bytes (length part / 2) part k d room)
      ∙ number_entry part (k * 2) ∙ all.at k h

  start_order : (j k : ℕ) → j ≤ k → k < n → start_at b (region_place b (j * 4)) ≤ start_at b (region_place b (k * 4))
  start_order j k l h = go (ltb j k) refl
    where
      few : k * 4 < region_count b
      few = omega (arith, all.number, h)

      go : (t : Bool) → ltb j k ≡ t → start_at b (region_place b (j * 4)) ≤ start_at b (region_place b (k * 4))
      go true p = omega (arith, ends_before b all.regions (j * 4) (k * 4) (omega (arith, ltb-true j k p)) few)
      go false p = let q : j ≡ k = omega (arith, ltb-false j k p, l) in rw q (omega arith)

  -- the test of an entry looks at the region's start
  entry_test : (k : ℕ) (d : List ℕ) → k < n → starts_by b a (get_or entries k d) ≡ leb (start_at b (region_place b (k * 4))) a
  unfolding starts_by
  entry_test k d h =
      let in_b = (all.regions.inside (k * 4) (omega (arith, all.number, h))).inside in
      rw (entry_place k d h, le-leb (region_place b (k * 4) + 8) (length b) (omega (arith, in_b))) refl

  entries_few : length entries ≤ n
  entries_few = omega (arith, ap length e ∙ length-take n (first_chunks 2 (length part / 2) part))

  pub entries_parted : IsPartitionedBy (starts_by b a) entries
  entries_parted i j d l m up =
      let h : j < n = omega (arith, m, entries_few) in
      let low = leb-true (start_at b (region_place b (j * 4))) a (sym (entry_test j d h) ∙ up) in
      entry_test i d (omega (arith, l, h)) ∙ le-leb _ _ (omega (arith, start_order i j l h, low))

  -- the last that passes, or the first
  pub entry_found : (k i : ℕ) (d : List ℕ) {at : ℕ} → 1 ≤ n → k ≤ length entries → AllWithin (λ y. starts_by b a y ≡ true) entries 0 k → i ≡ k - 1 → at ≡ number_at (get_or entries i d) 0 2
      → From b a at
  entry_found zero i d some h pass l g = record {
    number = 0;
    here = g ∙ ap (λ (q : ℕ). number_at (get_or entries q d) 0 2) l ∙ entry_place 0 d some;
    most = omega arith;
    clear = record { each = λ j m. absurd (omega (arith, m)) };
  }
  entry_found (suc k) i d some h pass l g =
      let m : k < n = omega (arith, h, entries_few) in
      let here : i ≡ k = omega (arith, l) in
      let low = leb-true (start_at b (region_place b (k * 4))) a (sym (entry_test k d m) ∙ pass k d (omega arith) (omega arith)) in
      let few : k * 4 < region_count b = omega (arith, all.number, m) in
      record {
        number = k * 4;
        here = g ∙ ap (λ (q : ℕ). number_at (get_or entries q d) 0 2) here ∙ entry_place k d m;
        most = omega (arith, few);
        clear = record { each = λ j m. omega (arith, ends_before b all.regions j (k * 4) m few, low) };
      }

-- ---- from region to region

module _ {b : List ℕ} (all : Regions b) where
  clear_more : {k a : ℕ} → Clear b k a → end_at b (region_place b k) ≤ a → Clear b (k + 1) a
  clear_more {k} {a} so h = record { each = λ j l. go j l (ltb j k) refl }
    where
      go : (j : ℕ) → j < k + 1 → (t : Bool) → ltb j k ≡ t → end_at b (region_place b j) ≤ a
      go j l true p = so.each j (ltb-true j k p)
      go j l false p = let q : j ≡ k = omega (arith, ltb-false j k p) in rw q h

  -- a region that ends by an address: so do those before it
  pub ended_by : {k a : ℕ} → k < region_count b → end_at b (region_place b k) ≤ a → Clear b (k + 1) a
  ended_by {k} {a} h l =
      clear_more (record { each = λ j m. omega (arith, ends_before b all j k m h, l, (all.inside k h).some) }) l

  module _ {a i : ℕ} (so : From b a i) where
    module _ {s : ℕ} (h : i < length b) (e : s ≡ number_at b i 8) where
      pub before_region : a < s → byte_at (whole region b) a ≡ None
      before_region l = (byte_none b all so.clear (λ g. omega (arith, e, ap (λ (j : ℕ). number_at b j 8) so.here, l)))

      module _ {n : ℕ} (low : s ≤ a) (g : n ≡ number_at b (i + 8) 4) where
        pub past_region : n ≤ a - s → From b a (i + n + 12)
        past_region l =
            let q : i + region_size b i ≡ i + n + 12 = omega (arith, g) in
            let k = is_region all so.here h in
            let f : number_at b i 8 + number_at b (i + 8) 4 ≤ a = omega (arith, e, g, low, l) in
            record {
              number = so.number + 1;
              here = sym q ∙ ap (λ (j : ℕ). j + region_size b j) so.here ∙ sym (region_next b so.number);
              most = omega (arith, k);
              clear = clear_more so.clear (subst (λ (j : ℕ). number_at b j 8 + number_at b (j + 8) 4 ≤ a) so.here f);
            }

    pub past_all : length b ≤ i → byte_at (whole region b) a ≡ None
    past_all h = byte_none b all so.clear (λ g. absurd (omega (arith, is_end all so.here so.most h)))
