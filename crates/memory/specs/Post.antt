-- What the functions on an overlay ensure.
use Rattle.std.specs.Prelude.{◌≡◌, ℕ, ◌+◌, ◌-◌, ◌*◌, ◌%◌, ◌^◌, ◌<◌, ◌≤◌, min, List, length, get_or, None, Result, Ok, Err}
use Rattle.memory.specs.declared.Full.{Full}
use Rattle.memory.specs.Overlay.{Overlay, Cell, Ascending, byte_of, find, rank}
use Rattle.memory.specs.declared.Move.{Move}
use Rattle.memory.specs.declared.row.Span.{Span}
use Rattle.memory.specs.Entries.{Sorted, entries, entry_size, limit, piece}

-- what each row is: ascending, and short enough for sums of its places
pub record IsOverlay (m : Overlay Cell) : Type 0 where
  pub ascending : Ascending m
  pub short : length m < 2 ^ 61

-- the address and the byte of entry i
abbrev pub address_in : Overlay Cell → ℕ → ℕ
address_in m i = (get_or m i (0, 0)).0

abbrev pub byte_in : Overlay Cell → ℕ → ℕ
byte_in m i = byte_of (get_or m i (0, 0)).1

-- x is the address of entry i, which comes before the addresses past x and before no others
pub record Parts (m : Overlay Cell) (i x : ℕ) : Type 0 where
  pub is : x ≡ address_in m i
  pub up : (a : ℕ) → x < a → i < rank a m
  pub down : (a : ℕ) → a ≤ x → rank a m ≤ i

-- none of n addresses from one on has an entry
abbrev pub Untouched : Overlay Cell → ℕ → ℕ → Type 0
Untouched m a n = (k : ℕ) → k < n → find ((a + k) % 2 ^ 64) m ≡ None

-- the first n entries of a part are the overlay m
pub record Holds (m : Overlay Cell) (s : List ℕ) (n : ℕ) : Type 0 where
  pub sorted : Sorted s n
  pub same : entries s n ≡ m

-- the part s becomes s', which holds m, or m has too many entries and nothing is changed
abbrev pub Stores : Overlay Cell → List ℕ → List ℕ → Result ℕ Full → Type 0
Stores m s s' (Ok n) = Holds m s' n
Stores m s s' (Err e) = (limit < length m) × (s' ≡ s)

-- the same of a store that may have begun before there is no room
abbrev pub StoresAll : Overlay Cell → List ℕ → Result ℕ Full → Type 0
StoresAll m s' (Ok n) = Holds m s' n
StoresAll m s' (Err e) = limit < length m

-- so many entries at least, and so many at most, come before an address
pub record Lies (m : Overlay Cell) (a least most : ℕ) : Type 0 where
  pub low : least ≤ rank a m
  pub high : rank a m ≤ most
  pub within : most ≤ length m
  pub row : IsOverlay m

-- how many of the three places that part a stretch in quarters come before a rank
unfoldable pub passed : ℕ → ℕ → ℕ → ℕ
passed k base q = min 1 (k - (base + q)) + min 1 (k - (base + 2 * q)) + min 1 (k - (base + 3 * q))

-- the entries that have the addresses of a store
pub record Spans (m : Overlay Cell) (count : ℕ) (r : Span) (address bytes : ℕ) : Type 0 where
  pub at : r.at ≡ rank address m
  pub end : r.end ≡ rank (address + bytes) m
  pub before : r.at ≤ r.end
  pub within : r.end ≤ count

-- they can make way for its bytes
pub record Spliced (m : Overlay Cell) (count : ℕ) (r : Span) (address bytes : ℕ) : Type 0 where
  pub span : Spans m count r address bytes
  pub some_bytes : 0 < bytes
  pub no_wrap : address + bytes ≤ 2 ^ 64
  pub few : r.at + bytes + (count - r.end) ≤ limit

-- no entry has the addresses of a store, and those on either side of it are in their places already if the first is to be at `to`
pub record Unmoved (count first : ℕ) (r : Span) (bytes to : ℕ) : Type 0 where
  pub none_there : r.end ≤ r.at
  pub left : 0 < r.at → to ≡ first
  pub right : r.end < count → to + r.at + bytes ≡ first + r.end
  pub fits : to + (count + bytes) ≤ limit

-- two moves of entries within so many bytes, whose order is the same before and after
pub record SlideBoth (bytes : ℕ) (l r : Move) : Type 0 where
  pub from : l.from + l.count ≤ r.from
  pub to : l.to + l.count ≤ r.to
  pub from_fits : (r.from + r.count) * entry_size ≤ bytes
  pub to_fits : (r.to + r.count) * entry_size ≤ bytes

-- the entries of a move are where it takes them
abbrev pub Slid : List ℕ → List ℕ → Move → Type 0
Slid s s' m = piece s' m.to m.count ≡ piece s m.from m.count
