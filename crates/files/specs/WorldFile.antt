-- The world file (document 01, "The files"). Assumes nothing.
use Rattle.std.specs.Prelude.{Bool, ◌&&◌, ◌||◌, List, ℕ, zero, suc, ◌+◌, ◌-◌, ◌*◌, ◌/◌, ◌%◌, ◌^◌, ◌≤◌, ◌≡◌, length, leb, ltb, eqb, Option, None, Some}
use Rattle.layout.specs.Number.{number_at}
use Rattle.files.specs.Bytes.{only}
use Rattle.files.specs.Items.{Items, read_from, every}

-- "symbols strictly ascending by name (name u16, size u8 with 0 for untold, address u64)": the least name that symbol k may have
unfoldable pub least_name : List ℕ → ℕ → ℕ
least_name b zero = 0
least_name b (suc k) = number_at b (k * 11) 2 + 1

abbrev pub symbol_ok : List ℕ → ℕ → ℕ → Bool
symbol_ok b names k = leb (least_name b k) (number_at b (k * 11) 2) && ltb (number_at b (k * 11) 2) names

-- 8: whole symbols, each as it must be
unfoldable pub symbols_ok : List ℕ → ℕ → Bool
symbols_ok b names = eqb (length b % 11) 0 && every (length b / 11) (symbol_ok b names)

-- how many regions came, and the last address of the last one
pub record Before : Type 0 where
  pub count : ℕ
  pub last : ℕ

abbrev pub before : ℕ → ℕ → Before
before n a = record { count = n; last = a }

-- what a reader knows of it: whether one came, and then the last address
abbrev pub Came : Option ℕ → Before → Type 0
Came None s = s.count ≡ 0
Came (Some a) s = (1 ≤ s.count) × (s.last ≡ a)

-- the length of the region at byte i: "regions ascending and disjoint (address u64, length u32 from 1, bytes), ending by 2^64"
unfoldable pub region_at : List ℕ → Before → ℕ → ℕ
region_at b s i =
    only (leb 12 (length b - i) && (eqb s.count 0 || ltb s.last (number_at b i 8)) && leb 1 (number_at b (i + 8) 4)
    && leb (number_at b i 8 + number_at b (i + 8) 4) (2 ^ 64) && leb (number_at b (i + 8) 4) (length b - (i + 12))) (number_at b (i + 8) 4 + 12)

abbrev pub region_items : List ℕ → Items Before
region_items b = record {
  item = region_at b;
  next = λ s i k. before (s.count + 1) (number_at b i 8 + (k - 13));
  last = λ s. s.count + 1;
}

-- 1 more than how many there are; 0 for a body that is refused
unfoldable pub regions_in : List ℕ → ℕ
regions_in b = read_from (region_items b) (length b) (before 0 0) 0
