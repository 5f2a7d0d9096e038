-- A run of bytes stored in a part: what the moves and the writes leave is what is to be stored. Assumes nothing.
use Rattle.std.proofs.Common.{◌≡◌, ℕ, zero, suc, ◌+◌, ◌-◌, ◌*◌, ◌/◌, ◌%◌, ◌^◌, ◌<◌, ◌≤◌, List, [], ◌∷◌, ◌++◌, length, take, drop, sym, refl, ap, ◌∙◌, subst, ap₂, add_assoc, mod-eq_of_lt, arith, length-append, length-drop, length-take-le, drop-drop}
use lib.Seq.{sets, length-sets}
use Rattle.layout.specs.Each.{Each, Bytes}
use Rattle.layout.specs.Number.{le, num, number_at, put_number}
use Rattle.layout.specs.Format.{writes, reads}
use Rattle.layout.proofs.NumberLaws.{length_le, num_le}
use Rattle.layout.proofs.FormatLaws.{reads_back}
use Rattle.std.specs.Prelude.{Result, Ok, Err}
use Rattle.memory.specs.declared.Full.{Full}
use Rattle.memory.specs.declared.row.Span.{Span}
use Rattle.memory.specs.Overlay.{Overlay, Cell, store, stores, run_of, rank, Ascending}
use Rattle.memory.specs.Entries.{entry, entry_size, limit, row_of, first_at, part_size, first, entries, Sorted, piece, overwritten}
use Rattle.memory.specs.Post.{Holds, Stores, StoresAll, Spans, Spliced, Unmoved}
use Rattle.memory.proofs.OverlayLaws.{rank_most, stores_one, stores_run, ascending_stores, length_stores}
use Rattle.memory.proofs.EntryLaws.{length_writes, reads_add, reads_take, reads_front, take_reads, drop_reads}
use Rattle.memory.proofs.RowLaws.{entry_sized, entry_sound, Fits, length_row, row_key}
use Rattle.memory.proofs.MoveLaws.{part_at, part_above}
use Rattle.memory.proofs.PartLaws.{first_some, first_said, length_entries}
use Rattle.memory.proofs.PieceLaws.{piece_at, piece_above, piece_below, piece_stays}
use Rattle.memory.proofs.WriteLaws.{overwritten_is}
use Rattle.memory.proofs.SearchLaws.{each_there}

-- ---- the entries of a run

pub length_run : {C : Type 0} (a : ℕ) (cs : List C) → length (run_of a cs) ≡ length cs
length_run a [] = refl
length_run a (c ∷ cs) = ap suc (length_run (suc a) cs)

run_fits : (n a v : ℕ) → a + n ≤ 2 ^ 64 → Each Fits (run_of a (le n v))
run_fits zero a v h = tt
run_fits (suc n) a v h = ((omega arith, omega arith), run_fits n (suc a) (v / 256) (omega arith))

-- the bytes of its entries are read again
run_read : (n a v : ℕ) → a + n ≤ 2 ^ 64 → (reads entry n (writes entry (run_of a (le n v)))).0 ≡ run_of a (le n v)
run_read n a v h =
    let es : Overlay Cell = run_of a (le n v) in
    let l : length es ≡ n = length_run a (le n v) ∙ length_le n v in
    let w : length (writes entry es) ≡ n * entry_size = length_writes entry_sized es ∙ ap (λ (k : ℕ). k * entry_size) l in
    sym (reads_front entry_sized n (writes entry es) [] (omega arith))
    ∙ ap (λ (k : ℕ). (reads entry k (writes entry es ++ [])).0) (sym l)
    ∙ ap (λ (r : Overlay Cell × List ℕ). r.0) (reads_back entry_sound es (run_fits n a v h) [])

-- ---- entries read from a piece

read_piece : (s : List ℕ) (i n : ℕ) → (i + n) * entry_size ≤ length s → (reads entry n (drop (i * entry_size) s)).0 ≡ (reads entry n (piece s i n)).0
unfolding piece
read_piece s i n h = sym (reads_take entry_sized n (n * entry_size) (drop (i * entry_size) s) (omega arith) (rw length-drop (omega arith)))

further : (s : List ℕ) (t i : ℕ) → drop (i * entry_size) (drop (t * entry_size) s) ≡ drop ((t + i) * entry_size) s
further s t i =
    let e : t * entry_size + i * entry_size ≡ (t + i) * entry_size = omega arith in
    drop-drop (i * entry_size) (t * entry_size) s ∙ ap (λ (x : ℕ). drop x s) e

-- entries from a place on, in three parts
three : (s : List ℕ) (t i j k : ℕ) → (t + (i + j + k)) * entry_size ≤ length s
    → row_of (drop (t * entry_size) s) (i + j + k) ≡ (reads entry i (piece s t i)).0 ++ ((reads entry j (piece s (t + i) j)).0 ++ (reads entry k (piece s (t + i + j) k)).0)
unfolding row_of
three s t i j k h =
    rw (add_assoc i j k, reads_add entry_sized i (j + k), further s t i, reads_add entry_sized j k, further s (t + i) j)
    (ap₂ (λ (x y : Overlay Cell). x ++ y) (read_piece s t i (omega arith))
    (ap₂ (λ (x y : Overlay Cell). x ++ y) (read_piece s (t + i) j (omega arith)) (read_piece s (t + i + j) k (omega arith))))

-- the first entries of a part, and the last ones
module _ (s : List ℕ) (n : ℕ) (q : Sorted s n) where
  take_entries : (i : ℕ) → i ≤ n → take i (entries s n) ≡ (reads entry i (piece s (first s n) i)).0
  unfolding entries row_of
  take_entries i h =
      let e : n ≡ i + (n - i) = omega arith in
      ap (λ (k : ℕ). take i (reads entry k (drop (first s n * entry_size) s)).0) e
      ∙ take_reads entry_sized i (n - i) (drop (first s n * entry_size) s)
      ∙ read_piece s (first s n) i (omega (arith, q.room, q.placed))

  drop_entries : (i : ℕ) → i ≤ n → drop i (entries s n) ≡ (reads entry (n - i) (piece s (first s n + i) (n - i))).0
  unfolding entries row_of
  drop_entries i h =
      let e : n ≡ i + (n - i) = omega arith in
      ap (λ (k : ℕ). drop i (reads entry k (drop (first s n * entry_size) s)).0) e
      ∙ drop_reads entry_sized i (n - i) (drop (first s n * entry_size) s)
      ∙ ap (λ (l : List ℕ). (reads entry (n - i) l).0) (further s (first s n) i)
      ∙ read_piece s (first s n + i) (n - i) (omega (arith, q.room, q.placed))

-- ---- what is stored

pub length_stored : (n v a : ℕ) (m : Overlay Cell) → Ascending m → a + n ≤ 2 ^ 64 → length (stores a (le n v) m) ≡ rank a m + n + (length m - rank (a + n) m)
length_stored n v a m s h =
    let l : length (le n v) ≡ n = length_le n v in
    let t : length (take (rank a m) m) ≡ rank a m = length-take-le (rank a m) m (rank_most a m) in
    let d : length (drop (rank (a + n) m) m) ≡ length m - rank (a + n) m = length-drop (rank (a + n) m) m in
    let e : length (stores a (le n v) m) ≡ length (take (rank a m) m ++ (run_of a (le n v) ++ drop (rank (a + n) m) m)) =
    ap length (stores_run (le n v) a m s (omega arith) ∙ ap (λ (k : ℕ). take (rank a m) m ++ (run_of a (le n v) ++ drop (rank (a + k) m) m)) l) in
    e ∙ rw (length-append, length-append, length_run, l, t, d) (sym (add_assoc (rank a m) n (length m - rank (a + n) m)))

-- the number that the part says where its first entry is
said : (s : List ℕ) (v : ℕ) → v < 65536 → first_at + 2 ≤ length s → v ≡ number_at (put_number s first_at 2 v) first_at 2
unfolding number_at put_number
said s v h l = sym (ap num (part_at s (le 2 v) first_at 2 refl l) ∙ num_le 2 v h)

-- a number of a part's rest
number_in : (s : List ℕ) (i j : ℕ) → number_at (drop i s) j 8 ≡ number_at s (i + j) 8
unfolding number_at
number_in s i j = ap (λ (t : List ℕ). num (take 8 t)) (drop-drop j i s)

-- it lies past all entries
said_past : (s : List ℕ) (v j n : ℕ) → (j + n) * entry_size ≤ first_at → piece (put_number s first_at 2 v) j n ≡ piece s j n
unfolding put_number
said_past s v j n h = piece_below s (le 2 v) first_at j n h

-- and what is written before it does not change it
said_kept : (s vs : List ℕ) (i : ℕ) → i + length vs ≤ first_at → number_at (sets s i vs) first_at 2 ≡ number_at s first_at 2
unfolding number_at
said_kept s vs i h = ap num (part_above s vs i first_at 2 h)

length_said : (s : List ℕ) (v : ℕ) → length (put_number s first_at 2 v) ≡ length s
unfolding put_number
length_said s v = length-sets s first_at (le 2 v)

abbrev written : ℕ → ℕ → ℕ → List ℕ
written a v b = writes entry (run_of a (le b v))

length_written : (a v b : ℕ) → length (written a v b) ≡ b * entry_size
length_written a v b = length_writes entry_sized (run_of a (le b v)) ∙ ap (λ (k : ℕ). k * entry_size) (length_run a (le b v) ∙ length_le b v)

-- s₁ has the entries before the run and those after it at their places, and s₂ is s₁ with the run between
module _ (s s₁ s₂ : List ℕ) (n : ℕ) (q : Sorted s n) (r : Span) (a v b : ℕ) (w : Spliced (entries s n) n r a b) (t : ℕ) where
  pub record Between : Type 0 where
    pub long : length s₁ ≡ length s
    pub left : piece s₁ t r.at ≡ piece s (first s n) r.at
    pub right : piece s₁ (t + r.at + b) (n - r.end) ≡ piece s (first s n + r.end) (n - r.end)
    pub fits : t + (r.at + b + (n - r.end)) ≤ limit
    pub same_length : length s₂ ≡ length s₁
    pub pieces : (j k : ℕ) → j + k ≤ limit → piece s₂ j k ≡ piece (sets s₁ ((t + r.at) * entry_size) (written a v b)) j k
    pub at_first : t ≡ first s₂ (r.at + b + (n - r.end))

  module _ (g : Between) where
    row_is : row_of (drop (t * entry_size) s₂) (r.at + b + (n - r.end)) ≡ take r.at (entries s n) ++ (run_of a (le b v) ++ drop r.end (entries s n))
    row_is =
        let room : part_size ≤ length s = q.room in
        let within : r.end ≤ n = w.span.within in
        let before : r.at ≤ r.end = w.span.before in
        let fits : t + (r.at + b + (n - r.end)) ≤ limit = g.fits in
        let l₁ : length s₁ ≡ length s = g.long in
        let lw : length (written a v b) ≡ b * entry_size = length_written a v b in
        let x : piece s₂ t r.at ≡ piece s (first s n) r.at =
        g.pieces t r.at (omega arith) ∙ piece_below s₁ (written a v b) ((t + r.at) * entry_size) t r.at (omega arith) ∙ g.left in
        let y : piece s₂ (t + r.at) b ≡ written a v b = g.pieces (t + r.at) b (omega arith) ∙ piece_at s₁ (written a v b) (t + r.at) b lw (omega arith) in
        let z : piece s₂ (t + r.at + b) (n - r.end) ≡ piece s (first s n + r.end) (n - r.end) =
        g.pieces (t + r.at + b) (n - r.end) (omega arith) ∙ piece_above s₁ (written a v b) (t + r.at) b (t + r.at + b) (n - r.end) lw (omega arith) ∙ g.right in
        three s₂ t r.at b (n - r.end) (omega (arith, g.same_length))
        ∙ ap₂ (λ (k l : Overlay Cell). k ++ l) (ap (λ (k : List ℕ). (reads entry r.at k).0) x ∙ sym (take_entries s n q r.at (omega arith)))
        (ap₂ (λ (k l : Overlay Cell). k ++ l) (ap (λ (k : List ℕ). (reads entry b k).0) y ∙ run_read b a v w.no_wrap)
        (ap (λ (k : List ℕ). (reads entry (n - r.end) k).0) z ∙ sym (drop_entries s n q r.end within)))

    stored_is : stores a (le b v) (entries s n) ≡ take r.at (entries s n) ++ (run_of a (le b v) ++ drop r.end (entries s n))
    stored_is =
        let l : length (le b v) ≡ b = length_le b v in
        stores_run (le b v) a (entries s n) q.ascending (omega (arith, w.no_wrap)) ∙ rw (l, ← w.span.at, ← w.span.end)

    held : Holds (stores a (le b v) (entries s n)) s₂ (r.at + b + (n - r.end))
    unfolding entries
    held =
        let room : part_size ≤ length s = q.room in
        let same : entries s₂ (r.at + b + (n - r.end)) ≡ stores a (le b v) (entries s n) =
        ap (λ (x : ℕ). row_of (drop (x * entry_size) s₂) (r.at + b + (n - r.end))) (sym g.at_first) ∙ row_is ∙ sym stored_is in
        record {
          sorted = record {
            room = omega (arith, g.same_length, g.long);
            placed = omega (arith, g.at_first, g.fits);
            ascending = subst Ascending (sym same) (ascending_stores (le b v) a (entries s n) q.ascending);
          };
          same = same;
        }

-- the entries on both sides made way, and the part says where the first one is
pub spliced : (s s₁ s₂ s₃ : List ℕ) (n : ℕ) (q : Sorted s n) (r : Span) (a v b : ℕ) → Spliced (entries s n) n r a b → (f t : ℕ) → f ≡ first s n
    → t + (r.at + b + (n - r.end)) ≤ limit → length s₁ ≡ length s
    → piece s₁ t r.at ≡ piece s f r.at → piece s₁ (t + r.at + b) (n - r.end) ≡ piece s (f + r.end) (n - r.end)
    → s₂ ≡ sets s₁ ((t + r.at) * entry_size) (written a v b) → s₃ ≡ put_number s₂ first_at 2 t
    → Holds (stores a (le b v) (entries s n)) s₃ (r.at + b + (n - r.end))
spliced s s₁ s₂ s₃ n q r a v b w f t ef fits l₁ left right e₂ e₃ =
    let room : part_size ≤ length s = q.room in
    let some_bytes : 0 < b = w.some_bytes in
    let l₂ : length s₂ ≡ length s₁ = ap length e₂ ∙ length-sets s₁ ((t + r.at) * entry_size) (written a v b) in
    held s s₁ s₃ n q r a v b w t
    (record {
      long = l₁;
      left = left ∙ ap (λ (g : ℕ). piece s g r.at) ef;
      right = right ∙ ap (λ (g : ℕ). piece s (g + r.end) (n - r.end)) ef;
      fits = fits;
      same_length = ap length e₃ ∙ length_said s₂ t ∙ l₂;
      pieces = λ j k h. ap (λ (x : List ℕ). piece x j k) e₃ ∙ said_past s₂ t j k (omega arith) ∙ ap (λ (x : List ℕ). piece x j k) e₂;
      at_first = first_some s₃ (r.at + b + (n - r.end)) t (λ e. omega arith) (said s₂ t (omega arith) (omega arith) ∙ ap (λ (x : List ℕ). number_at x first_at 2) (sym e₃));
    })

-- the entries on either side stay where they are
pub put_beside : (s s₁ s₂ : List ℕ) (n : ℕ) → Sorted s n → (r : Span) (a v b t : ℕ) → Spliced (entries s n) n r a b → Unmoved n (first s n) r b t
    → s₁ ≡ sets s ((t + r.at) * entry_size) (written a v b) → s₂ ≡ put_number s₁ first_at 2 t → Holds (stores a (le b v) (entries s n)) s₂ (n + b)
put_beside s s₁ s₂ n q r a v b t w h e₁ e₂ =
    let before : r.at ≤ r.end = w.span.before in
    let within : r.end ≤ n = w.span.within in
    let next : r.at + b + (n - r.end) ≡ n + b = omega (arith, h.none_there) in
    subst (Holds (stores a (le b v) (entries s n)) s₂) next
    (spliced s s s₁ s₂ n q r a v b w (first s n) t refl (omega (arith, h.fits)) refl
    (piece_stays s t (first s n) r.at h.left) (piece_stays s (t + r.at + b) (first s n + r.end) (n - r.end) (λ l. h.right (omega arith))) e₁ e₂)

-- each address of the run has its entry, whose byte is replaced
pub replaced : (s s₁ : List ℕ) (n : ℕ) (q : Sorted s n) → Bytes s → (r : Span) (a v b : ℕ) → Spans (entries s n) n r a b → 0 < b → a + b ≤ 2 ^ 64 → r.end - r.at ≡ b → (f : ℕ) → f ≡ first s n
    → s₁ ≡ overwritten s (f + r.at) (le b v) → Holds (stores a (le b v) (entries s n)) s₁ n
unfolding entries
replaced s s₁ n q all r a v b w some_bytes no_wrap full f ef over =
    let room : part_size ≤ length s = q.room in
    let placed : first s n + n ≤ limit = q.placed in
    let within : r.end ≤ n = w.within in
    let before : r.at ≤ r.end = w.before in
    let next : r.at + b + (n - r.end) ≡ n = omega arith in
    let here : f + r.at + b ≡ first s n + r.end = omega arith in
    let lw : length (written a v b) ≡ b * entry_size = length_written a v b in
    let d : List ℕ = drop (first s n * entry_size) s in
    let there : (k : ℕ) → k < b → number_at s ((f + r.at + k) * entry_size) 8 ≡ a + k = λ k l.
    let x : first s n * entry_size + (r.at + k) * entry_size ≡ (f + r.at + k) * entry_size = omega arith in
    sym (number_in s (first s n * entry_size) ((r.at + k) * entry_size) ∙ ap (λ (y : ℕ). number_at s y 8) x) ∙ sym (row_key d n (r.at + k) (omega arith))
    ∙ each_there (row_of d n) q.ascending a b r.at r.end w.at w.end (rw length_row within) full k l in
    let e : s₁ ≡ sets s ((f + r.at) * entry_size) (written a v b) = over ∙ overwritten_is b s (f + r.at) a v all (omega arith) there in
    subst (Holds (stores a (le b v) (entries s n)) s₁) next
    (held s s s₁ n q r a v b (record { span = w; some_bytes = some_bytes; no_wrap = no_wrap; few = omega arith }) f
    (record {
      long = refl;
      left = ap (λ (g : ℕ). piece s g r.at) ef;
      right = ap (λ (g : ℕ). piece s g (n - r.end)) here;
      fits = omega arith;
      same_length = ap length e ∙ length-sets s ((f + r.at) * entry_size) (written a v b);
      pieces = λ j k h. ap (λ (x : List ℕ). piece x j k) e;
      at_first = first_some s₁ (r.at + b + (n - r.end)) f (λ z. omega arith) (ef ∙ first_said s n (λ z. omega arith) ∙ sym (ap (λ (x : List ℕ). number_at x first_at 2) e ∙ said_kept s (written a v b) ((f + r.at) * entry_size) (omega arith)));
    }))

-- ---- what a store answers

pub too_many : (s : List ℕ) (n : ℕ) → Sorted s n → (r : Span) (a v b : ℕ) → Spans (entries s n) n r a b → a + b ≤ 2 ^ 64 → limit < r.at + b + (n - r.end) → limit < length (stores a (le b v) (entries s n))
too_many s n q r a v b w h l =
    omega (arith, length_stored b v a (entries s n) q.ascending h, w.at, w.end, length_entries s n)

pub one_byte : (a b : ℕ) (m : Overlay Cell) → a < 2 ^ 64 → b < 256 → stores a (le 1 b) m ≡ store a b m
one_byte a b m h l =
    let e : b % 256 ≡ b = mod-eq_of_lt l in
    ap (λ (x : ℕ). stores a (x ∷ []) m) e ∙ stores_one a b m h

pub stores_as : (m m' : Overlay Cell) (s s' : List ℕ) (r : Result ℕ Full) → m ≡ m' → Stores m s s' r → Stores m' s s' r
stores_as m m' s s' r e h = subst (λ (x : Overlay Cell). Stores x s s' r) e h

pub stored_full : (m : Overlay Cell) (s s' : List ℕ) (r : Result ℕ Full) (e : Full) → Stores m s s' r → r ≡ Err e → limit < length m
stored_full m s s' r e h g = (subst (Stores m s s') g h).0

pub all_full : (m : Overlay Cell) (s' : List ℕ) (r : Result ℕ Full) (e : Full) → r ≡ Err e → limit < length m → StoresAll m s' r
all_full m s' r e g h = subst (StoresAll m s') (sym g) h

pub stored_count : (m : Overlay Cell) (s s' : List ℕ) (r : Result ℕ Full) (n : ℕ) → Stores m s s' r → r ≡ Ok n → Holds m s' n
stored_count m s s' r n h e = subst (Stores m s s') e h

pub each_none : (a n v : ℕ) (m : Overlay Cell) → n ≡ 0 → m ≡ stores a (le n v) m
unfolding stores
each_none a zero v m h = refl
each_none a (suc n) v m h = absurd (omega arith)

-- a turn of the loop that stores byte by byte
module _ (m : Overlay Cell) (a n i v : ℕ) (h : i < n) where
  pub each_turn : (m' : Overlay Cell) → m' ≡ store ((a + i) % 2 ^ 64) (v % 256) m → stores (a + (i + 1)) (le (n - (i + 1)) (v / 256)) m' ≡ stores (a + i) (le (n - i) v) m
  unfolding stores
  each_turn m' g =
      let x : n - i ≡ suc (n - (i + 1)) = omega arith in
      let y : a + (i + 1) ≡ suc (a + i) = omega arith in
      rw (x, y, g)

  pub each_full : limit < length (store ((a + i) % 2 ^ 64) (v % 256) m) → limit < length (stores (a + i) (le (n - i) v) m)
  each_full l =
      let m' = store ((a + i) % 2 ^ 64) (v % 256) m in
      omega (arith, length_stores (le (n - (i + 1)) (v / 256)) (a + (i + 1)) m', ap length (each_turn m' refl))
