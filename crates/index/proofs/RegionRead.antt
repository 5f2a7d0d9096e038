-- The bytes from an address on, region by region. Assumes nothing.
use mathlib.Core.Path.{◌≡◌, sym, ap, ap₂, subst, subst₂, ◌∙◌}
use mathlib.Core.List.{List, ◌++◌, append_assoc, append-nil}
use Rattle.std.specs.Prelude.{None, Some}
use Prim.Native.Nat.{ℕ, ◌+◌, ◌-◌, ◌*◌, ◌%◌, ◌^◌, ◌≤◌, ◌<◌, min}
use native.Mathlib.Nat.{pow-le-pow_right}
use native.Mathlib.Omega.{arith}
use mir.Syntax.{w8}
use mir.Val.{Fits}
use lib.Dec.{lit<}
use lib.ListN.{length, take, drop, get_or, length-drop}
use lib.Seq.{get_or-take, get_or-drop, length-take-le}
use Rattle.layout.specs.Each.{Bytes}
use Rattle.layout.specs.Number.{le, number_at}
use Rattle.layout.specs.Format.{whole}
use Rattle.layout.proofs.NumberLaws.{number_at_lt}
use Rattle.layout.proofs.StoreLaws.{each_byte}
use Rattle.files.specs.World.{region, byte_at, bytes_from}
use Rattle.memory.specs.declared.Image.{Image}
use Rattle.memory.proofs.LoadLaws.{shifted}
use Rattle.index.specs.declared.regions.Places.{Places}
use Rattle.index.specs.Places.{region_size}
use Rattle.index.specs.Regions.{region_count, region_place, start_at, end_at, RegionInside, LengthOf, Regions, Steps, RegionsIndexed, From, Holding, Gathered, ReadFrom}
use Rattle.index.proofs.NumberBytes.{le_join, join_small, le_read}
use Rattle.index.proofs.RegionBytes.{ends_before, byte_none, byte_held, bytes_none, bytes_run}
use Rattle.index.proofs.RegionIndex.{is_region, in_body, region_past, ended_by, before_region, past_region, past_all}

-- ---- the bytes that one region has

module _ {b : List ℕ} {a i : ℕ} (all : Regions b) (at : Holding b a i) where
  pub held_inside : RegionInside b i
  held_inside = in_body all at.here at.most

  -- m of them from the address on, of the rest that the region has
  held_bytes : (m n : ℕ) → Bytes b → a + m ≤ end_at b i
      → bytes_from (whole region b) (m + n) a ≡ le m (number_at b (i + 12 + (a - start_at b i)) m) ++ bytes_from (whole region b) n (a + m)
  held_bytes m n bytes h =
      let j = i + 12 + (a - start_at b i) in
      let xs = take m (drop j b) in
      let inside : j + m ≤ length b = omega (arith, held_inside.inside, at.low, h) in
      let l : length xs ≡ m = length-take-le m (drop j b) (rw length-drop (omega (arith, inside))) in
      let e : le m (number_at b j m) ≡ xs = le_read b j m bytes inside in
      ap (λ (k : ℕ). bytes_from (whole region b) (k + n) a) (sym l)
      ∙ bytes_run (whole region b) xs n a (λ t g. byte t (subst (λ (k : ℕ). t < k) l g))
      ∙ ap₂ (λ (ys : List ℕ) (k : ℕ). ys ++ bytes_from (whole region b) n (a + k)) (sym e) l
    where
      byte : (t : ℕ) → t < m → byte_at (whole region b) (a + t) ≡ Some (get_or (take m (drop (i + 12 + (a - start_at b i)) b)) t 0)
      byte t g =
          let q : i + 12 + (a + t - start_at b i) ≡ i + 12 + (a - start_at b i) + t = omega (arith, at.low) in
          byte_held b all bytes (record { number = at.number; here = at.here; most = at.most; low = omega (arith, at.low); high = omega (arith, h, g) })
          ∙ ap (λ (j : ℕ). Some (get_or b j 0)) q
          ∙ ap (λ (x : ℕ). Some x) (sym (get_or-take m (drop (i + 12 + (a - start_at b i)) b) t 0 g ∙ get_or-drop (i + 12 + (a - start_at b i)) b t 0))

-- ---- a turn

module _ {b : List ℕ} {a n i : ℕ} {image : Image} (all : Regions b) (at : Holding b (a + image.count) i) (so : Gathered b a n image) (few : n ≤ 8) where
  module _ {s len m : ℕ} (e : s ≡ number_at b i 8) (g : LengthOf b i len) (em : m ≡ min (n - image.count) (len - (a + image.count - s))) where
    module _ {x : ℕ} (ex : x ≡ number_at b (i + 12 + (a + image.count - s)) m) where
      small : x < 256 ^ m
      small = rw ex (number_at_lt b (i + 12 + (a + image.count - s)) m)

      moved : x * 2 ^ (8 * image.count) % 2 ^ 64 ≡ 256 ^ image.count * x
      moved = shifted image.count m x small (omega (arith, em, few, so.most))

      fits : image.number + 256 ^ image.count * x < 256 ^ (image.count + m)
      fits = join_small image.count m image.number x so.small small

      pub sum_fits : image.number + x * 2 ^ (8 * image.count) % 2 ^ 64 < 2 ^ 64
      sum_fits =
          let q : image.count + m ≤ 8 = omega (arith, em, few, so.most) in
          let p : 256 ^ (image.count + m) ≤ 256 ^ 8 = pow-le-pow_right (lit< tt) q in
          rw moved (omega (arith, fits, p))

      pub gathered_more : ((k : ℕ) → Fits w8 (get_or b k 0)) → Gathered b a n (record { count = image.count + m; number = image.number + x * 2 ^ (8 * image.count) % 2 ^ 64 })
      gathered_more bytes =
          let c = image.count in
          let rs = whole region b in
          let rest = bytes_from rs (n - (c + m)) (a + (c + m)) in
          let split : n - c ≡ m + (n - (c + m)) = omega (arith, em, so.most) in
          let after : a + c + m ≡ a + (c + m) = omega arith in
          let x_is : number_at b (i + 12 + (a + c - start_at b i)) m ≡ x = ap (λ (t : ℕ). number_at b (i + 12 + (a + c - t)) m) (sym e) ∙ sym ex in
          let run : bytes_from rs (n - c) (a + c) ≡ le m x ++ rest =
          ap (λ (k : ℕ). bytes_from rs k (a + c)) split
          ∙ held_bytes all at m (n - (c + m)) (each_byte b (λ k. (bytes k).fits)) (omega (arith, at.low, at.high, e, g.is, em))
          ∙ ap₂ (λ (y k : ℕ). le m y ++ bytes_from rs (n - (c + m)) k) x_is after in
          let both : le c image.number ++ le m x ≡ le (c + m) (image.number + x * 2 ^ (8 * c) % 2 ^ 64) =
          sym (le_join c m image.number x so.small small) ∙ ap (λ (y : ℕ). le (c + m) (image.number + y)) (sym moved) in
          record {
            bytes = so.bytes ∙ ap (λ (ys : List ℕ). le c image.number ++ ys) run ∙ sym (append_assoc (le c image.number) (le m x) rest) ∙ ap (λ (ys : List ℕ). ys ++ rest) both;
            small = rw moved fits;
            most = omega (arith, em, so.most);
          }

      pub gathered_end : (image.count + m ≡ n → ⊥) → a + (image.count + m) ≡ end_at b i
      gathered_end z = omega (arith, em, at.low, at.high, e, g.is, so.most)

-- ---- the whole read

module _ {b : List ℕ} {a n : ℕ} {image : Image} (so : Gathered b a n image) where
  -- as many as were asked for
  pub read_all : image.count ≡ n → ReadFrom b a n image
  unfolding bytes_from
  read_all z =
      let q : n - image.count ≡ 0 = omega (arith, z) in
      record {
        bytes = sym (so.bytes ∙ ap (λ (k : ℕ). le image.count image.number ++ bytes_from (whole region b) k (a + image.count)) q ∙ append-nil (le image.count image.number));
        small = so.small;
        most = so.most;
      }

  -- no region has the next
  pub read_end : byte_at (whole region b) (a + image.count) ≡ None → ReadFrom b a n image
  read_end h = record {
    bytes = sym (so.bytes ∙ ap (λ (ys : List ℕ). le image.count image.number ++ ys) (bytes_none (whole region b) (n - image.count) (a + image.count) h)
        ∙ append-nil (le image.count image.number));
    small = so.small;
    most = so.most;
  }

-- a body without regions
pub read_none : {b part : List ℕ} {count a n : ℕ} → RegionsIndexed b part count → count ≡ 0 → ReadFrom b a n (record { count = 0; number = 0 })
read_none {b} {part} {count} {a} {n} all z =
    let e : byte_at (whole region b) a ≡ None = byte_none b all.regions {n = 0} (record { each = λ k h. absurd (omega arith) }) (λ h. absurd (omega (arith, all.number, z))) in
    record { bytes = sym (bytes_none (whole region b) n a e); small = lit< tt; most = omega arith }

-- ---- the loop over regions

-- the bytes so far are the first, and the iterator stands at a region before which none has the next byte
pub record Reading (b : List ℕ) (a n : ℕ) (image : Image) (s : Places) : Type 0 where
  pub body : s.regions.now ≡ b
  pub regions : Regions b
  pub gathered : Gathered b a n image
  pub from : From b (a + image.count) s.at
  pub wanted : s.at < length b → a + image.count < 2 ^ 64
  pub low : image.count < 8

pub reading_start : {b : List ℕ} {a n i : ℕ} {s : Places} → Regions b → a < 2 ^ 64 → From b a i → s.regions.now ≡ b → s.at ≡ i → Reading b a n (record { count = 0; number = 0 }) s
reading_start {b} {a} {n} all fits from body here =
    let e : a ≡ a + 0 = omega arith in
    let m : n ≡ n - 0 = omega arith in
    record {
      body = body;
      regions = all;
      gathered = record { bytes = ap₂ (bytes_from (whole region b)) m e; small = lit< tt; most = omega arith };
      from = subst₂ (From b) e (sym here) from;
      wanted = λ h. omega (arith, fits);
      low = omega arith;
    }

module _ {b : List ℕ} {a n : ℕ} {image : Image} {s : Places} (so : Reading b a n image s) where
  pub reading_end : length s.regions.now ≤ s.at → ReadFrom b a n image
  reading_end h = read_end so.gathered (past_all so.regions so.from (subst (λ (l : List ℕ). length l ≤ s.at) so.body h))

  -- at a region
  module _ {i : ℕ} {t : Places} (st : Steps s (Some i) t) where
    lower : i < length b
    lower = subst (λ (l : List ℕ). i < length l) so.body (omega (arith, st.0, st.1))

    from_here : From b (a + image.count) i
    from_here = subst (From b (a + image.count)) (sym st.0) so.from

    is_one : from_here.number < region_count b
    is_one = is_region so.regions from_here.here lower

    past_it : t.at ≡ i + region_size b i
    past_it = st.2 ∙ ap (λ (l : List ℕ). s.at + region_size l s.at) so.body ∙ ap (λ (j : ℕ). j + region_size b j) (sym st.0)

    reading_fits : a + image.count < 2 ^ 64
    reading_fits = so.wanted (omega (arith, st.0, lower))

    module _ {start : ℕ} (e : start ≡ number_at b i 8) where
      -- no region has the next byte
      pub reading_before : a + image.count < start → ReadFrom b a n image
      reading_before l = read_end so.gathered (before_region so.regions from_here lower e l)

      module _ {len : ℕ} (g : LengthOf b i len) (low : start ≤ a + image.count) where
        pub reading_past : len ≤ a + image.count - start → Reading b a n image t
        reading_past l = record {
          body = ap (λ v. v.now) st.3 ∙ so.body;
          regions = so.regions;
          gathered = so.gathered;
          from = subst (From b (a + image.count)) (omega (arith, past_it, g.is)) (past_region so.regions from_here lower e low g.is l);
          wanted = λ h. reading_fits;
          low = so.low;
        }

    -- the region has no more, and fewer bytes are there than are asked for
    pub reading_more : {image' : Image} → Gathered b a n image' → n ≤ 8 → (image'.count ≡ n → ⊥) → a + image'.count ≡ end_at b i → Reading b a n image' t
    reading_more {image'} gathered few less end =
        let k = from_here.number in
        let here : t.at ≡ region_place b (k + 1) = region_past b k from_here.here past_it in
        let ends : end_at b (region_place b k) ≡ a + image'.count = sym (end ∙ ap (end_at b) from_here.here) in
        record {
          body = ap (λ v. v.now) st.3 ∙ so.body;
          regions = so.regions;
          gathered = gathered;
          from = record { number = k + 1; here = here; most = omega (arith, is_one); clear = ended_by so.regions is_one (omega (arith, ends)) };
          wanted = λ h. let l = is_region so.regions here h in
              omega (arith, ends, ends_before b so.regions k (k + 1) (omega arith) l, number_at_lt b (region_place b (k + 1)) 8);
          low = omega (arith, gathered.most, few, less);
        }
