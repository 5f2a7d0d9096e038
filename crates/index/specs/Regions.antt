-- The index of a world's regions: for every fourth region, in two bytes, its place. Assumes nothing.
use Rattle.std.specs.Prelude.{◌≡◌, Bool, ◌&&◌, leb, List, ◌++◌, ℕ, suc, ◌+◌, ◌-◌, ◌*◌, ◌/◌, ◌^◌, ◌≤◌, ◌<◌, length, Option, MatchOption}
use Rattle.layout.specs.Number.{le, number_at}
use Rattle.layout.specs.Format.{whole}
use Rattle.files.specs.World.{region, bytes_from}
use Rattle.memory.specs.declared.Image.{Image}
use Rattle.index.specs.declared.regions.Places.{Places}
use Rattle.index.specs.Places.{place_from, region_size}

-- one region in so many is in the index
abbrev pub stride : ℕ
stride = 4

-- the bytes of the index: two for one in four of at most 5,041 regions
abbrev pub regions_room : ℕ
regions_room = 2522

unfoldable pub region_count : List ℕ → ℕ
region_count b = length (whole region b)

unfoldable pub region_place : List ℕ → ℕ → ℕ
region_place b k = place_from (region_size b) 0 k

-- the first address of the region at a place, and the one past its last
abbrev pub start_at : List ℕ → ℕ → ℕ
start_at b i = number_at b i 8

abbrev pub end_at : List ℕ → ℕ → ℕ
end_at b i = number_at b i 8 + number_at b (i + 8) 4

-- "(address u64, length u32 from 1, bytes), ending by 2^64", in the body
pub record RegionInside (b : List ℕ) (i : ℕ) : Type 0 where
  pub inside : i + region_size b i ≤ length b
  pub some : 1 ≤ number_at b (i + 8) 4
  pub ends : end_at b i ≤ 2 ^ 64

-- the length of such a region
pub record LengthOf (b : List ℕ) (i n : ℕ) : Type 0 where
  pub is : n ≡ number_at b (i + 8) 4
  pub some : 1 ≤ n
  pub inside : i + n + 12 ≤ length b
  pub ends : number_at b i 8 + n ≤ 2 ^ 64

-- "regions ascending and disjoint": those of an accepted body fill it
pub record Regions (b : List ℕ) : Type 0 where
  pub full : region_place b (region_count b) ≡ length b
  pub inside : (k : ℕ) → k < region_count b → RegionInside b (region_place b k)
  pub apart : (k : ℕ) → suc k < region_count b → end_at b (region_place b k) ≤ start_at b (region_place b (suc k))
  pub short : length b < 65536

-- a place is that of a region of an accepted body, or the end
pub record Stands (b : List ℕ) (i : ℕ) : Type 0 where
  pub regions : Regions b
  pub number : ℕ
  pub here : i ≡ region_place b number
  pub most : number ≤ region_count b

-- a step from s gave the place where that stood and left those past that region, or found none left
abbrev pub Steps : Places → Option ℕ → Places → Type 0
Steps s r t = MatchOption r (length s.regions.now ≤ s.at) (λ i. (i ≡ s.at) × (s.at < length s.regions.now) × (t.at ≡ s.at + region_size s.regions.now s.at) × (t.regions ≡ s.regions))

-- the part tells where every region whose number is a multiple of the stride starts, in n entries
pub record RegionsIndexed (b part : List ℕ) (n : ℕ) : Type 0 where
  pub regions : Regions b
  pub number : n ≡ (region_count b + (stride - 1)) / stride
  pub room : n * 2 ≤ length part
  pub at : (k : ℕ) → k < n → number_at part (k * 2) 2 ≡ region_place b (k * stride)

-- ---- the search for an address

-- the region at the place that an entry tells starts by the address, where it is in the body
unfoldable pub starts_by : List ℕ → ℕ → List ℕ → Bool
starts_by b a entry = leb (number_at entry 0 2 + 8) (length b) && leb (number_at b (number_at entry 0 2) 8) a

-- the first n regions end by an address
pub record Clear (b : List ℕ) (n a : ℕ) : Type 0 where
  pub each : (k : ℕ) → k < n → end_at b (region_place b k) ≤ a

-- a region to search from: those before it end by the address
pub record From (b : List ℕ) (a i : ℕ) : Type 0 where
  pub number : ℕ
  pub here : i ≡ region_place b number
  pub most : number ≤ region_count b
  pub clear : Clear b number a

-- the region at place i has the address
pub record Holding (b : List ℕ) (a i : ℕ) : Type 0 where
  pub number : ℕ
  pub here : i ≡ region_place b number
  pub most : number < region_count b
  pub low : start_at b i ≤ a
  pub high : a < end_at b i

-- ---- the answer

-- the bytes so far, and those from there on
pub record Gathered (b : List ℕ) (a n : ℕ) (image : Image) : Type 0 where
  pub bytes : bytes_from (whole region b) n a ≡ le image.count image.number ++ bytes_from (whole region b) (n - image.count) (a + image.count)
  pub small : image.number < 256 ^ image.count
  pub most : image.count ≤ n

-- "`read` answers the unbroken bytes from the address on, at most the length asked"
pub record ReadFrom (b : List ℕ) (a n : ℕ) (image : Image) : Type 0 where
  pub bytes : le image.count image.number ≡ bytes_from (whole region b) n a
  pub small : image.number < 256 ^ image.count
  pub most : image.count ≤ n
