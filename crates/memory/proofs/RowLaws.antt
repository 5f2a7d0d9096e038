-- What the steps of a search in a row of entries find. Assumes nothing.
use Rattle.std.proofs.Common.{◌≡◌, ℕ, ◌+◌, ◌*◌, ◌%◌, ◌^◌, ◌<◌, ◌≤◌, List, length, get_or, take, sym, ap, ◌∙◌, subst, mod-eq_of_lt, arith, drop-drop}
use Rattle.std.specs.Prelude.{None, Some}
use Rattle.layout.specs.Number.{num, number_at}
use Rattle.layout.proofs.NumberLaws.{number_at_one}
use Rattle.layout.proofs.FormatLaws.{Sound, number_sound, pair_sound, length_reads}
use Rattle.memory.specs.Overlay.{Overlay, Cell, Ascending, byte_of, to_byte, find, rank}
use Rattle.memory.specs.Entries.{entry, entry_size, row_of, IsRow}
use Rattle.memory.specs.Post.{Untouched, Parts, address_in, byte_in}
use Rattle.memory.proofs.OverlayLaws.{below, equal, above, compared, rank_mono, key, rank_below, rank_above, rank_most, Stands, find_at, find_none}
use Rattle.memory.proofs.EntryLaws.{Sized, number_sized, pair_sized, reads_at}

pub entry_sized : Sized entry entry_size
unfolding entry
entry_sized = pair_sized (number_sized 8) (number_sized 1)

-- what an entry can say
abbrev pub Fits : ℕ × Cell → Type 0
Fits p = (p.0 < 2 ^ 64) × (p.1 < 2 ^ 8)

pub entry_sound : Sound entry Fits
unfolding entry
entry_sound = pair_sound (number_sound 8) (number_sound 1)

-- the cell of no entry
abbrev pub blank : Cell
blank = 0

pub length_row : (s : List ℕ) (n : ℕ) → length (row_of s n) ≡ n
unfolding row_of
length_row s n = length_reads entry n s

pub row_key : (s : List ℕ) (n i : ℕ) → i < n → key (row_of s n) i blank ≡ number_at s (i * entry_size) 8
unfolding row_of entry number_at
row_key s n i h = ap (λ (p : ℕ × Cell). p.0) (reads_at entry_sized n s i (0, blank) h)

row_byte : (s : List ℕ) (n i : ℕ) → i < n → i * entry_size + entry_size ≤ length s → get_or s (i * entry_size + 8) 0 < 256 → byte_of (get_or (row_of s n) i (0, blank)).1 ≡ get_or s (i * entry_size + 8) 0
unfolding row_of entry number_at
row_byte s n i h l b =
    ap (λ (p : ℕ × Cell). byte_of p.1) (reads_at entry_sized n s i (0, blank) h)
    ∙ ap (λ (t : List ℕ). num (take 1 t)) (drop-drop 8 (i * entry_size) s)
    ∙ number_at_one s (i * entry_size + 8) (omega arith) b

-- what the code reads of entry i
pub row_parts : (s : List ℕ) (n i x : ℕ) (m : Overlay Cell) → IsRow s n → row_of s n ≡ m → i < length m → x ≡ number_at s (i * entry_size) 8 → Parts m i x
row_parts s n i x m q e h g =
    let l : i < n = omega (arith, ap length e, length_row s n) in
    let k : x ≡ address_in m i = g ∙ sym (row_key s n i l) ∙ ap (λ (o : Overlay Cell). address_in o i) e in
    record {
      is = k;
      up = λ a u. rank_above a blank m (subst Ascending e q.ascending) i h (subst (λ (y : ℕ). y < a) k u);
      down = λ a u. rank_below a blank m i h (subst (λ (y : ℕ). a ≤ y) k u);
    }

pub row_room : (s : List ℕ) (n i : ℕ) (m : Overlay Cell) → IsRow s n → row_of s n ≡ m → i < length m → i * entry_size + entry_size ≤ length s
row_room s n i m q e h = omega (arith, q.room, ap length e, length_row s n)

pub row_byte_in : (s : List ℕ) (n i : ℕ) (m : Overlay Cell) → IsRow s n → row_of s n ≡ m → i < length m → get_or s (i * entry_size + 8) 0 < 256 → get_or s (i * entry_size + 8) 0 ≡ byte_in m i
row_byte_in s n i m q e h b =
    sym (row_byte s n i (omega (arith, ap length e, length_row s n)) (row_room s n i m q e h) b) ∙ ap (λ (o : Overlay Cell). byte_in o i) e

-- ---- the entry at an address's rank is the address's, or not

module _ (m : Overlay Cell) (a i : ℕ) (e : i ≡ rank a m) where
  stands : i < length m → address_in m i ≡ a → Stands a blank m
  stands h k = record { there = rw (← e) h; is = rw (← e) k }

  stands_not : (i < length m → address_in m i ≡ a → ⊥) → Stands a blank m → ⊥
  stands_not new h = new (rw e h.there) (rw e h.is)

  pub found_there : i < length m → address_in m i ≡ a → to_byte (find a m) ≡ Some (byte_in m i)
  found_there h k = ap to_byte (find_at a blank m (stands h k)) ∙ ap (λ (j : ℕ). Some (byte_in m j)) (sym e)

  pub found_none : (i < length m → address_in m i ≡ a → ⊥) → to_byte (find a m) ≡ None
  found_none new = ap to_byte (find_none a blank m (stands_not new))

-- ---- no address of several has an entry

pub none_there : (m : Overlay Cell) (a b i : ℕ) → i ≡ rank a m → a + b ≤ 2 ^ 64 → (i < length m → (x : ℕ) × (Parts m i x × (a + b ≤ x))) → Untouched m a b
none_there m a b i e w past k l =
    let here : (a + k) % 2 ^ 64 ≡ a + k = mod-eq_of_lt (omega arith) in
    let up : i ≤ rank (a + k) m = omega (arith, rank_mono a (a + k) m (omega arith)) in
    let new : i < length m → address_in m i ≡ a + k → ⊥ = λ h g. let p = past h in omega (arith, p.0, p.1.0.is, p.1.1) in
    let same : i ≡ rank (a + k) m =
    elim (compared i (length m)) [
      | below h _ ↦ let p = past h in omega (arith, up, p.1.0.down (a + k) (omega (arith, p.1.1)))
      | equal h _ ↦ omega (arith, up, rank_most (a + k) m)
      | above h _ ↦ omega (arith, up, rank_most (a + k) m)
    ] in
    rw here (find_none (a + k) blank m (stands_not m (a + k) i same new))
