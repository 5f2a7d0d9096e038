-- The byte at an address, and the bytes from an address on, in the regions of an accepted body. Assumes nothing.
use mathlib.Core.Path.{◌≡◌, refl, sym, ap, ap₂, ◌∙◌}
use mathlib.Core.Bool.{Bool, true, false, ◌&&◌, and-false}
use mathlib.Core.List.{List, [], ◌∷◌, ◌++◌}
use Rattle.std.specs.Prelude.{None, Some}
use mathlib.Core.Logic.{⊎_elim}
use Prim.Native.Nat.{ℕ, zero, suc, ◌+◌, ◌-◌, ◌≤◌, ◌<◌}
use native.Mathlib.Nat.{not-suc-le-zero, eq-or-lt_of_le, le_of_suc-le-suc, add-zero, add-suc, suc-add, zero-add}
use native.Mathlib.Omega.{arith}
use borrow.Author.Tests.{le-leb, lt-leb, lt-ltb, le-ltb, ltb-true, ltb-false}
use lib.Dec.{leb, ltb}
use lib.ListN.{length, drop, get_or}
use lib.Seq.{get_or-take, get_or-drop}
use Rattle.layout.specs.Each.{Bytes}
use Rattle.layout.specs.Number.{number_at}
use Rattle.layout.specs.Format.{whole}
use Rattle.files.specs.World.{Region, region, byte_at, bytes_from}
use Rattle.index.specs.Regions.{region_count, region_place, start_at, end_at, Regions, Clear, Holding}
use Rattle.index.proofs.RegionPlaces.{its_start, its_length, its_bytes}

-- ---- the region of an address, in a list

abbrev has : Region → ℕ → Bool
has r a = leb r.0 a && ltb a (r.0 + length r.1)

has_not_yet : (r : Region) (a : ℕ) → a < r.0 → has r a ≡ false
has_not_yet r a h = rw (lt-leb r.0 a h)

has_no_more : (r : Region) (a : ℕ) → r.0 + length r.1 ≤ a → has r a ≡ false
has_no_more r a h = rw (le-ltb a (r.0 + length r.1) h) (and-false (leb r.0 a))

has_it : (r : Region) (a : ℕ) → r.0 ≤ a → a < r.0 + length r.1 → has r a ≡ true
has_it r a h g = rw (le-leb r.0 a h, lt-ltb a (r.0 + length r.1) g)

module _ (a : ℕ) (d : Region) where
  byte_hit : (r : Region) (rs : List Region) → has r a ≡ true → byte_at (r ∷ rs) a ≡ Some (get_or r.1 (a - r.0) 0)
  unfolding byte_at
  byte_hit r rs e = rw (e, byte_at)

  byte_miss : (r : Region) (rs : List Region) → has r a ≡ false → byte_at (r ∷ rs) a ≡ byte_at rs a
  unfolding byte_at
  byte_miss r rs e = rw (e, byte_at)

  byte_found : (rs : List Region) (k : ℕ) → k < length rs → ((j : ℕ) → j < k → has (get_or rs j d) a ≡ false) → has (get_or rs k d) a ≡ true
      → byte_at rs a ≡ Some (get_or (get_or rs k d).1 (a - (get_or rs k d).0) 0)
  byte_found [] k l h e = absurd (not-suc-le-zero l)
  byte_found (r ∷ rs) zero l h e = byte_hit r rs e
  byte_found (r ∷ rs) (suc k) l h e = byte_miss r rs (h 0 (omega arith)) ∙ byte_found rs k (omega arith) (λ j g. h (suc j) (omega arith)) e

  byte_missing : (rs : List Region) → ((j : ℕ) → j < length rs → has (get_or rs j d) a ≡ false) → byte_at rs a ≡ None
  unfolding byte_at
  byte_missing [] h = refl
  byte_missing (r ∷ rs) h = byte_miss r rs (h 0 (omega arith)) ∙ byte_missing rs (λ j g. h (suc j) (omega arith))

-- ---- in a body

offset_in : (b : List ℕ) (i a : ℕ) → start_at b i ≤ a → a < end_at b i → a - start_at b i < number_at b (i + 8) 4
offset_in b i a h g = omega arith

nothing : Region
nothing = (0, [])

module _ (b : List ℕ) (all : Regions b) where
  ends_after : (k : ℕ) → k < region_count b → start_at b (region_place b k) < end_at b (region_place b k)
  ends_after k l = omega (arith, (all.inside k l).some)

  -- regions ascend
  pub ends_before : (j k : ℕ) → j < k → k < region_count b → end_at b (region_place b j) ≤ start_at b (region_place b k)
  ends_before j zero l g = absurd (not-suc-le-zero l)
  ends_before j (suc k) l g = ⊎_elim (λ e. go e) (λ m. omega (arith, ends_before j k m (omega arith), ends_after k (omega arith), all.apart k g)) (eq-or-lt_of_le (le_of_suc-le-suc l))
    where
      go : j ≡ k → end_at b (region_place b j) ≤ start_at b (region_place b (suc k))
      go e = rw e (all.apart k g)

  its_end : (k : ℕ) → k < region_count b → (get_or (whole region b) k nothing).0 + length (get_or (whole region b) k nothing).1 ≡ end_at b (region_place b k)
  its_end k l = ap₂ (λ (x y : ℕ). x + y) (its_start b all k nothing l) (its_length b all k nothing l)

  past : (k a : ℕ) → k < region_count b → end_at b (region_place b k) ≤ a → has (get_or (whole region b) k nothing) a ≡ false
  past k a l h = has_no_more (get_or (whole region b) k nothing) a (omega (arith, its_end k l, h))

  -- the regions before an address's own end by it, and those from there on start after it
  pub byte_none : {n a : ℕ} → Clear b n a → (n < region_count b → a < start_at b (region_place b n)) → byte_at (whole region b) a ≡ None
  unfolding region_count
  byte_none {n} {a} clear after = byte_missing a nothing (whole region b) (λ j l. go j l (ltb j n) refl)
    where
      go : (j : ℕ) → j < region_count b → (t : Bool) → ltb j n ≡ t → has (get_or (whole region b) j nothing) a ≡ false
      go j l true p = past j a l (clear.each j (ltb-true j n p))
      go j l false p =
          let g : start_at b (region_place b n) ≤ start_at b (region_place b j) =
          ⊎_elim (λ e. omega (arith, ap (λ (k : ℕ). start_at b (region_place b k)) e)) (λ m. omega (arith, ends_before n j m l, ends_after n (omega arith))) (eq-or-lt_of_le (ltb-false j n p)) in
          has_not_yet (get_or (whole region b) j nothing) a (omega (arith, its_start b all j nothing l, after (omega (arith, ltb-false j n p)), g))

  -- the byte that the region at a place has
  pub byte_held : {a i : ℕ} → Bytes b → Holding b a i → byte_at (whole region b) a ≡ Some (get_or b (i + 12 + (a - start_at b i)) 0)
  unfolding region_count
  byte_held {a} {i} bytes at =
      let k = at.number in
      let p = region_place b k in
      let r = get_or (whole region b) k nothing in
      let l = at.most in
      let low : start_at b p ≤ a = rw at.here at at.low in
      let high : a < end_at b p = rw at.here at at.high in
      let e : get_or r.1 (a - r.0) 0 ≡ get_or b (p + 12 + (a - start_at b p)) 0 =
      ap₂ (λ (x : ℕ) (s : List ℕ). get_or s (a - x) 0) (its_start b all k nothing l) (its_bytes b all k nothing l bytes)
      ∙ get_or-take (number_at b (p + 8) 4) (drop (p + 12) b) (a - start_at b p) 0 (offset_in b p a low high) ∙ get_or-drop (p + 12) b (a - start_at b p) 0 in
      byte_found a nothing (whole region b) k l (λ j m. past j a (omega arith) (omega (arith, ends_before j k m l)))
      (has_it r a (omega (arith, its_start b all k nothing l)) (omega (arith, its_end k l)))
      ∙ ap (λ (x : ℕ). Some x) e ∙ ap (λ (j : ℕ). Some (get_or b (j + 12 + (a - start_at b j)) 0)) (sym at.here)

-- ---- unbroken bytes

module _ (rs : List Region) where
  bytes_one : (n a x : ℕ) → byte_at rs a ≡ Some x → bytes_from rs (suc n) a ≡ x ∷ bytes_from rs n (suc a)
  unfolding bytes_from
  bytes_one n a x e = rw (e, bytes_from)

  pub bytes_none : (n a : ℕ) → byte_at rs a ≡ None → bytes_from rs n a ≡ []
  unfolding bytes_from
  bytes_none zero a e = refl
  bytes_none (suc n) a e = rw (e, bytes_from)

  pub bytes_run : (xs : List ℕ) (n a : ℕ) → ((t : ℕ) → t < length xs → byte_at rs (a + t) ≡ Some (get_or xs t 0)) → bytes_from rs (length xs + n) a ≡ xs ++ bytes_from rs n (a + length xs)
  bytes_run [] n a h = ap₂ (bytes_from rs) (zero-add n) (sym (add-zero a))
  bytes_run (x ∷ xs) n a h =
      ap (λ (m : ℕ). bytes_from rs m a) (suc-add (length xs) n)
      ∙ bytes_one (length xs + n) a x (ap (byte_at rs) (sym (add-zero a)) ∙ h 0 (omega arith))
      ∙ ap (λ (s : List ℕ). x ∷ s) (bytes_run xs n (suc a) (λ t l. ap (byte_at rs) (suc-add a t ∙ sym (add-suc a t)) ∙ h (suc t) (omega arith)))
      ∙ ap (λ (m : ℕ). x ∷ xs ++ bytes_from rs n m) (suc-add a (length xs) ∙ sym (add-suc a (length xs)))
