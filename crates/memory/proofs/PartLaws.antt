-- The row of entries of a part: where it is, and its bytes as a record's body. Assumes nothing.
use Rattle.std.proofs.Common.{◌≡◌, ℕ, zero, suc, ◌+◌, ◌-◌, ◌*◌, ◌≤◌, List, length, take, drop, sym, refl, ap, ◌∙◌, subst, arith, length-drop, length-take, take_all, take-take}
use Rattle.layout.specs.Each.{Bytes}
use Rattle.layout.specs.Number.{number_at}
use Rattle.layout.specs.Format.{writes, reads}
use Rattle.layout.proofs.StoreLaws.{each_take, each_drop}
use Rattle.memory.specs.Overlay.{Overlay, Cell, Ascending}
use Rattle.memory.specs.Entries.{entry, memory_body, entry_size, limit, row_of, IsRow, first_at, part_size, first, entries, Sorted}
use Rattle.memory.specs.declared.row.Span.{Span}
use Rattle.memory.specs.Post.{Spans}
use Rattle.memory.proofs.RowLaws.{entry_sized, length_row}
use Rattle.memory.proofs.EntryLaws.{writes_reads}

-- ---- the place of the first entry

pub first_none : (s : List ℕ) (n : ℕ) → n ≡ 0 → 0 ≡ first s n
unfolding first
first_none s zero h = refl
first_none s (suc n) h = absurd (omega arith)

pub first_some : (s : List ℕ) (n r : ℕ) → (n ≡ 0 → ⊥) → r ≡ number_at s first_at 2 → r ≡ first s n
unfolding first
first_some s zero r h e = absurd (h refl)
first_some s (suc n) r h e = e

pub first_said : (s : List ℕ) (n : ℕ) → (n ≡ 0 → ⊥) → first s n ≡ number_at s first_at 2
unfolding first
first_said s zero h = absurd (h refl)
first_said s (suc n) h = refl

-- ---- the part from there on is a row

-- what is lent of the part
pub lent : (s : List ℕ) (n f : ℕ) → f ≡ first s n → row_of (take (length s - f * entry_size) (drop (f * entry_size) s)) n ≡ entries s n
unfolding entries
lent s n f e =
    let a : take (length s - f * entry_size) (drop (f * entry_size) s) ≡ drop (f * entry_size) s = take_all (length s - f * entry_size) (drop (f * entry_size) s) (omega (arith, length-drop (f * entry_size) s)) in
    ap (λ (l : List ℕ). row_of l n) a ∙ ap (λ (x : ℕ). row_of (drop (x * entry_size) s) n) e

pub lent_row : (s : List ℕ) (n f : ℕ) → f ≡ first s n → Sorted s n → IsRow (take (length s - f * entry_size) (drop (f * entry_size) s)) n
lent_row s n f e q =
    let room : part_size ≤ length s = q.room in
    let placed : first s n + n ≤ limit = q.placed in
    record {
      room = omega (arith, length-take (length s - f * entry_size) (drop (f * entry_size) s), length-drop (f * entry_size) s);
      ascending = subst Ascending (sym (lent s n f e)) q.ascending;
    }

pub length_entries : (s : List ℕ) (n : ℕ) → length (entries s n) ≡ n
unfolding entries
length_entries s n = length_row (drop (first s n * entry_size) s) n

-- its entries at the addresses of a store
pub entries_spans : (m : Overlay Cell) (s : List ℕ) (n : ℕ) → m ≡ entries s n → (r : Span) (a b : ℕ) → Spans m (length m) r a b → Spans (entries s n) n r a b
entries_spans m s n e r a b h =
    subst (λ (k : ℕ). Spans (entries s n) k r a b) (length_entries s n) (subst (λ (o : Overlay Cell). Spans o (length o) r a b) e h)

-- the Memory body is the bytes of the row
pub copied : (s t : List ℕ) (n f : ℕ) → f ≡ first s n → Sorted s n → Bytes s
    → t ≡ take (n * entry_size) (drop (f * entry_size) s)
    → t ≡ memory_body (entries s n)
unfolding row_of
copied s t n f e q all h =
    let r : List ℕ = take (length s - f * entry_size) (drop (f * entry_size) s) in
    let room : n * entry_size ≤ length r = (lent_row s n f e q).room in
    let w : writes entry (reads entry n r).0 ≡ take (n * entry_size) r =
    writes_reads entry_sized n r room (each_take (length s - f * entry_size) (drop (f * entry_size) s) (each_drop (f * entry_size) s all)) in
    h ∙ sym (take-take (n * entry_size) (length s - f * entry_size) (drop (f * entry_size) s) (omega (arith, room, length-take (length s - f * entry_size) (drop (f * entry_size) s)))) ∙ sym (ap (writes entry) (sym (lent s n f e)) ∙ w)
