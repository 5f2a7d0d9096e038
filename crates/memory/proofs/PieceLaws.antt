-- The bytes of entries that are moved to other places, or stay. Assumes nothing.
use Rattle.std.proofs.Common.{◌≡◌, ℕ, zero, suc, ◌+◌, ◌-◌, ◌*◌, ◌<◌, ◌≤◌, List, length, take, drop, refl, ap, ◌∙◌, arith, length-drop, length-take-le}
use Rattle.std.specs.List.{copy_within}
use lib.Seq.{sets, length-sets}
use borrow.Rule.Slice.PartMut.{mid_of, put_mid}
use Rattle.memory.specs.Entries.{entry_size, piece}
use Rattle.memory.specs.declared.Move.{Move}
use Rattle.memory.specs.Post.{SlideBoth, Slid}
use Rattle.memory.proofs.MoveLaws.{moved, unmoved, slid_up, slid_down, part_at, part_above, part_below}

pub length_piece : (s : List ℕ) (i n : ℕ) → (i + n) * entry_size ≤ length s → length (piece s i n) ≡ n * entry_size
unfolding piece
length_piece s i n h = length-take-le (n * entry_size) (drop (i * entry_size) s) (rw length-drop (omega arith))

pub piece_at : (s vs : List ℕ) (i n : ℕ) → length vs ≡ n * entry_size → (i + n) * entry_size ≤ length s → piece (sets s (i * entry_size) vs) i n ≡ vs
unfolding piece
piece_at s vs i n l h = part_at s vs (i * entry_size) (n * entry_size) l (omega arith)

pub piece_above : (s vs : List ℕ) (i m j n : ℕ) → length vs ≡ m * entry_size → i + m ≤ j → piece (sets s (i * entry_size) vs) j n ≡ piece s j n
unfolding piece
piece_above s vs i m j n l h = part_above s vs (i * entry_size) (j * entry_size) (n * entry_size) (omega arith)

pub piece_below : (s vs : List ℕ) (i j n : ℕ) → (j + n) * entry_size ≤ i → piece (sets s i vs) j n ≡ piece s j n
unfolding piece
piece_below s vs i j n h = part_below s vs i (j * entry_size) (n * entry_size) (omega arith)

-- what copying n entries from place i to place j leaves
pub slid : (s t : List ℕ) (i j n from to : ℕ) → ((i + n) * entry_size ≤ length s) × ((j + n) * entry_size ≤ length s) → from ≡ i * entry_size → to ≡ j * entry_size
    → t ≡ copy_within s from (from + n * entry_size) to → t ≡ sets s (j * entry_size) (piece s i n)
unfolding piece
slid s t i j n from to h ef et e = e ∙ moved s to from (n * entry_size) (from + n * entry_size) refl (omega arith) (omega arith) ∙ rw (ef, et)

-- moving them within the part from there on by g entries
pub slid_by : (s t : List ℕ) (i j n g : ℕ) → ((i + n) * entry_size ≤ length s) × ((j + n) * entry_size ≤ length s) → i + g ≡ j
    → t ≡ sets (mid_of (i * entry_size) (length s - i * entry_size) s) (g * entry_size) (take (n * entry_size) (mid_of (i * entry_size) (length s - i * entry_size) s))
    → put_mid (i * entry_size) (length s - i * entry_size) s t ≡ sets s (j * entry_size) (piece s i n)
unfolding piece
slid_by s t i j n g h e d = slid_up s (i * entry_size) (g * entry_size) (n * entry_size) (omega (arith, h.1)) t (j * entry_size) (omega arith) d

pub slid_back : (s t : List ℕ) (i j n g : ℕ) → ((i + n) * entry_size ≤ length s) × ((j + n) * entry_size ≤ length s) → j + g ≡ i
    → t ≡ sets (mid_of (j * entry_size) (length s - j * entry_size) s) 0 (take (n * entry_size) (drop (g * entry_size) (mid_of (j * entry_size) (length s - j * entry_size) s)))
    → put_mid (j * entry_size) (length s - j * entry_size) s t ≡ sets s (j * entry_size) (piece s i n)
unfolding piece
slid_back s t i j n g h e d = slid_down s (j * entry_size) (g * entry_size) (n * entry_size) (omega (arith, h.0)) t (i * entry_size) (omega arith) d

pub slid_nowhere : (s : List ℕ) (i j n : ℕ) → (i + n) * entry_size ≤ length s → i ≡ j → s ≡ sets s (j * entry_size) (piece s i n)
unfolding piece
slid_nowhere s i j n h e = unmoved s (i * entry_size) (n * entry_size) (omega arith) ∙ rw e

-- of no entries it does not matter where they are
pub piece_stays : (s : List ℕ) (i j n : ℕ) → (0 < n → i ≡ j) → piece s i n ≡ piece s j n
unfolding piece
piece_stays s i j zero h = refl
piece_stays s i j (suc n) h = ap (λ (x : ℕ). piece s x (suc n)) (h (omega arith))

module _ (s t u : List ℕ) (l r : Move) (fit : SlideBoth (length s) l r) where
  abbrev goes : List ℕ → List ℕ → Move → Type 0
  goes x y m = y ≡ sets x (m.to * entry_size) (piece x m.from m.count)

  pub both_up : l.from < l.to → goes s t r → goes t u l → Slid s u l × Slid s u r
  both_up h e f =
      let a : l.to + l.count ≤ r.to = fit.to in
      let b : (r.to + r.count) * entry_size ≤ length s = fit.to_fits in
      let lt : length t ≡ length s = ap length e ∙ length-sets s (r.to * entry_size) (piece s r.from r.count) in
      let ll : length (piece t l.from l.count) ≡ l.count * entry_size = length_piece t l.from l.count (omega arith) in
      let lr : length (piece s r.from r.count) ≡ r.count * entry_size = length_piece s r.from r.count fit.from_fits in (
        ap (λ (x : List ℕ). piece x l.to l.count) f
            ∙ piece_at t (piece t l.from l.count) l.to l.count ll (omega arith)
            ∙ ap (λ (x : List ℕ). piece x l.from l.count) e
            ∙ piece_below s (piece s r.from r.count) (r.to * entry_size) l.from l.count (omega arith),
        ap (λ (x : List ℕ). piece x r.to r.count) f
            ∙ piece_above t (piece t l.from l.count) l.to l.count r.to r.count ll a
            ∙ ap (λ (x : List ℕ). piece x r.to r.count) e
            ∙ piece_at s (piece s r.from r.count) r.to r.count lr fit.to_fits,
      )

  pub both_down : l.to ≤ l.from → goes s t l → goes t u r → Slid s u l × Slid s u r
  both_down h e f =
      let a : l.from + l.count ≤ r.from = fit.from in
      let b : (r.from + r.count) * entry_size ≤ length s = fit.from_fits in
      let d : l.to + l.count ≤ r.to = fit.to in
      let lt : length t ≡ length s = ap length e ∙ length-sets s (l.to * entry_size) (piece s l.from l.count) in
      let ll : length (piece s l.from l.count) ≡ l.count * entry_size = length_piece s l.from l.count (omega arith) in
      let lr : length (piece t r.from r.count) ≡ r.count * entry_size = length_piece t r.from r.count (omega arith) in (
        ap (λ (x : List ℕ). piece x l.to l.count) f
            ∙ piece_below t (piece t r.from r.count) (r.to * entry_size) l.to l.count (omega arith)
            ∙ ap (λ (x : List ℕ). piece x l.to l.count) e
            ∙ piece_at s (piece s l.from l.count) l.to l.count ll (omega arith),
        ap (λ (x : List ℕ). piece x r.to r.count) f
            ∙ piece_at t (piece t r.from r.count) r.to r.count lr (omega (arith, fit.to_fits))
            ∙ ap (λ (x : List ℕ). piece x r.from r.count) e
            ∙ piece_above s (piece s l.from l.count) l.to l.count r.from r.count ll (omega arith),
      )
