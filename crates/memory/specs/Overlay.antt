-- What a run has written, ascending by address, as an association list: a byte is found and stored by its address. Assumes nothing.
use Rattle.std.specs.Prelude.{ℕ, zero, suc, ◌%◌, ◌^◌, ◌<◌, List, [], ◌∷◌, drop, Option, None, Some}
use Prim.Native.Nat.{Ordering}
use Prim.Native.Nat.{compare}
use Rattle.layout.specs.Each.{Each}
use Rattle.layout.specs.Number.{num}

abbrev pub Overlay : Type 0 → Type 0
Overlay C = List (ℕ × C)

unfoldable pub find : {C : Type 0} → ℕ → Overlay C → Option C
find a [] = None
find a (p ∷ m) = elim (compare a p.0) [ Ordering.lt ↦ None | Ordering.eq ↦ Some p.1 | Ordering.gt ↦ find a m ]

unfoldable pub store : {C : Type 0} → ℕ → C → Overlay C → Overlay C
store a c [] = (a, c) ∷ []
store a c (p ∷ m) = elim (compare a p.0) [ Ordering.lt ↦ (a, c) ∷ p ∷ m | Ordering.eq ↦ (a, c) ∷ m | Ordering.gt ↦ p ∷ store a c m ]

-- strictly ascending by address
abbrev pub Ascending : {C : Type 0} → Overlay C → Type 0
Ascending [] = Unit
Ascending (p ∷ m) = Each (λ q. p.0 < q.0) m × Ascending m

-- how many entries come before the address
abbrev pub rank : {C : Type 0} → ℕ → Overlay C → ℕ
rank a [] = 0
rank a (p ∷ m) = elim (compare a p.0) [ Ordering.lt ↦ 0 | Ordering.eq ↦ 0 | Ordering.gt ↦ suc (rank a m) ]

-- stored from an address on, in order; addresses wrap at 2 ^ 64
unfoldable pub stores : {C : Type 0} → ℕ → List C → Overlay C → Overlay C
stores a [] m = m
stores a (c ∷ cs) m = stores (suc a) cs (store (a % 2 ^ 64) c m)

-- the entries of cells from an address on
abbrev pub run_of : {C : Type 0} → ℕ → List C → Overlay C
run_of a [] = []
run_of a (c ∷ cs) = (a, c) ∷ run_of (suc a) cs

-- what an address holds, and its byte
abbrev pub Cell : Type 0
Cell = ℕ

abbrev pub byte_of : Cell → ℕ
byte_of c = c

abbrev pub to_byte : Option Cell → Option ℕ
to_byte None = None
to_byte (Some c) = Some (byte_of c)

-- a byte of the run's own, else the first of the image's
abbrev pub byte_or : Option ℕ → List ℕ → Option ℕ
byte_or (Some b) image = Some b
byte_or None [] = None
byte_or None (b ∷ bs) = Some b

-- the bytes from an address on: the run's own, else the image's, which one `read` answered ("a `read` of none hides later bytes"); none if one is missing
unfoldable pub gather : Overlay Cell → List ℕ → ℕ → ℕ → Option (List ℕ)
gather m image a zero = Some []
gather m image a (suc n) =
    elim (byte_or (to_byte (find (a % 2 ^ 64) m)) image) [
      | None ↦ None
      | Some b ↦ elim (gather m (drop 1 image) (suc a) n) [ None ↦ None | Some bs ↦ Some (b ∷ bs) ]
    ]

-- the number of those bytes
unfoldable pub load : Overlay Cell → List ℕ → ℕ → ℕ → Option ℕ
load m image a n = elim (gather m image a n) [ None ↦ None | Some bs ↦ Some (num bs) ]
