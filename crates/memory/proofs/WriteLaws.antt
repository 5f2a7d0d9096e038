-- Entries written one after the other, and their bytes replaced. Assumes nothing.
use Rattle.std.proofs.Common.{◌≡◌, ℕ, zero, suc, ◌+◌, ◌-◌, ◌*◌, ◌/◌, ◌%◌, ◌<◌, ◌≤◌, List, [], ◌∷◌, length, get_or, take, drop, set, sym, refl, ap, ◌∙◌, mod-eq_of_lt, arith, length-drop, length-set, length-take-le, drop-set-lt, drop-cons, drop_of_length-le}
use Rattle.std.specs.Int.{to_le_bytes}
use lib.Seq.{sets}
use Rattle.layout.specs.Each.{Bytes}
use Rattle.layout.specs.Number.{le, num, number_at, put_number}
use Rattle.layout.specs.Format.{writes}
use native.Mathlib.Nat.{pow-zero, div-one}
use mir.Syntax.{w64}
use Rattle.layout.proofs.NumberLaws.{le_num, le_from, take_le}
use Rattle.layout.proofs.StoreLaws.{each_take, each_drop, sets_append}
use Rattle.memory.specs.Overlay.{run_of}
use Rattle.memory.specs.Entries.{entry, entry_size, overwritten}
use Rattle.memory.proofs.RowLaws.{entry_sized}
use Rattle.memory.proofs.MoveLaws.{unmoved}

-- ---- entries written

pub put_entry : (s t : List ℕ) (i a b : ℕ) → b < 256 → t ≡ put_number s i 8 a → set t (i + 8) b ≡ sets s i (entry.write (a, b))
unfolding entry put_number
put_entry s t i a b l h =
    let e : b % 256 ≡ b = mod-eq_of_lt l in
    ap (λ (x : List ℕ). set x (i + 8) b) h ∙ ap (λ (x : ℕ). set (sets s i (le 8 a)) (i + 8) x) (sym e) ∙ sym (sets_append (le 8 a) (le 1 b) s i)

-- a turn of the loop that writes a run
pub run_turn : (p p' bs : List ℕ) (i k a b : ℕ) → k < length bs → b ≡ get_or bs k 0 → p' ≡ sets p ((i + k) * entry_size) (entry.write (a + k, b))
    → sets p' ((i + (k + 1)) * entry_size) (writes entry (run_of (a + (k + 1)) (drop (k + 1) bs))) ≡ sets p ((i + k) * entry_size) (writes entry (run_of (a + k) (drop k bs)))
run_turn p p' bs i k a b h g e =
    let x : drop k bs ≡ b ∷ drop (suc k) bs = drop-cons bs k 0 h ∙ ap (λ (c : ℕ). c ∷ drop (suc k) bs) (sym g) in
    let j : k + 1 ≡ suc k = omega arith in
    let y : a + (k + 1) ≡ suc (a + k) = omega arith in
    let w : List ℕ = entry.write (a + k, b) in
    let vs : List ℕ = writes entry (run_of (suc (a + k)) (drop (suc k) bs)) in
    let z : (i + (k + 1)) * entry_size ≡ (i + k) * entry_size + length w = omega (arith, entry_sized.long (a + k, b)) in
    rw (e, y, z, j, x) (sym (sets_append w vs p ((i + k) * entry_size)))

pub run_none : (p bs : List ℕ) (i j a : ℕ) → length bs ≤ j → p ≡ sets p i (writes entry (run_of a (drop j bs)))
run_none p bs i j a h = ap (λ (cs : List ℕ). sets p i (writes entry (run_of a cs))) (sym (drop_of_length-le bs h))

-- ---- bytes replaced

-- the low bytes of a number, of those that a word has
pub low_bytes : (n v : ℕ) → n ≤ 8 → take n (to_le_bytes w64 v) ≡ le n v
low_bytes n v h = ap (take n) (le_from 8 0 v ∙ ap (le 8) (rw (pow-zero, div-one))) ∙ take_le n 8 v h

pub over_turn : (s bs : List ℕ) (i k b : ℕ) → k < length bs → b ≡ get_or bs k 0 → overwritten (set s ((i + k) * entry_size + 8) b) (i + (k + 1)) (drop (k + 1) bs) ≡ overwritten s (i + k) (drop k bs)
unfolding overwritten
over_turn s bs i k b h g =
    let x : drop k bs ≡ get_or bs k 0 ∷ drop (suc k) bs = drop-cons bs k 0 h in
    let y : i + (k + 1) ≡ suc (i + k) = omega arith in
    let j : k + 1 ≡ suc k = omega arith in
    rw (g, x, y, j)

pub over_none : (s bs : List ℕ) (i k : ℕ) → length bs ≤ k → s ≡ overwritten s i (drop k bs)
unfolding overwritten
over_none s bs i k h = ap (overwritten s i) (sym (drop_of_length-le bs h))

each_set : (s : List ℕ) (i b : ℕ) → b < 256 → Bytes s → Bytes (set s i b)
each_set [] i b h all = tt
each_set (x ∷ s) zero b h all = (h, all.1)
each_set (x ∷ s) (suc i) b h all = (all.0, each_set s i b h all.1)

-- a byte replaced is the entry written anew
set_byte : (s : List ℕ) (i a b : ℕ) → Bytes s → i * entry_size + entry_size ≤ length s → number_at s (i * entry_size) 8 ≡ a → b < 256 → set s (i * entry_size + 8) b ≡ sets s (i * entry_size) (entry.write (a, b))
unfolding number_at put_number
set_byte s i a b all h e l =
    let t : List ℕ = take 8 (drop (i * entry_size) s) in
    let lt : length t ≡ 8 = length-take-le 8 (drop (i * entry_size) s) (rw length-drop (omega arith)) in
    let w : le 8 a ≡ t = ap (le 8) (sym e) ∙ le_num 8 t lt (each_take 8 (drop (i * entry_size) s) (each_drop (i * entry_size) s all)) in
    put_entry s s (i * entry_size) a b l (unmoved s (i * entry_size) 8 (omega arith) ∙ ap (sets s (i * entry_size)) (sym w))

kept_address : (s : List ℕ) (i j b : ℕ) → i < j → number_at (set s (i * entry_size + 8) b) (j * entry_size) 8 ≡ number_at s (j * entry_size) 8
unfolding number_at
kept_address s i j b h = ap (λ (t : List ℕ). num (take 8 t)) (drop-set-lt (j * entry_size) s (i * entry_size + 8) b (omega arith))

-- bytes replaced are the run written, where the entries have its addresses
pub overwritten_is : (n : ℕ) (s : List ℕ) (i a v : ℕ) → Bytes s → (i + n) * entry_size ≤ length s → ((k : ℕ) → k < n → number_at s ((i + k) * entry_size) 8 ≡ a + k)
    → overwritten s i (le n v) ≡ sets s (i * entry_size) (writes entry (run_of a (le n v)))
unfolding overwritten
overwritten_is zero s i a v all h is = refl
overwritten_is (suc n) s i a v all h is =
    let b : ℕ = v % 256 in
    let s' : List ℕ = set s (i * entry_size + 8) b in
    let w : List ℕ = entry.write (a, b) in
    let vs : List ℕ = writes entry (run_of (suc a) (le n (v / 256))) in
    let i₀ : i ≡ i + 0 = omega arith in
    let a₀ : a + 0 ≡ a = omega arith in
    let here : number_at s (i * entry_size) 8 ≡ a = ap (λ (x : ℕ). number_at s (x * entry_size) 8) i₀ ∙ is 0 (omega arith) ∙ a₀ in
    let e : s' ≡ sets s (i * entry_size) w = set_byte s i a b all (omega arith) here (omega arith) in
    let next : (k : ℕ) → k < n → number_at s' ((suc i + k) * entry_size) 8 ≡ suc a + k =
    λ k l.
    let j : suc i + k ≡ i + suc k = omega arith in
    let d : a + suc k ≡ suc a + k = omega arith in
    kept_address s i (suc i + k) b (omega arith) ∙ ap (λ (x : ℕ). number_at s (x * entry_size) 8) j ∙ is (suc k) (omega arith) ∙ d in
    let z : suc i * entry_size ≡ i * entry_size + length w = omega (arith, entry_sized.long (a, b)) in
    overwritten_is n s' (suc i) (suc a) (v / 256) (each_set s (i * entry_size + 8) b (omega arith) all) (omega (arith, length-set s (i * entry_size + 8) b)) next
    ∙ ap (λ (t : List ℕ). sets t (suc i * entry_size) vs) e
    ∙ ap (λ (x : ℕ). sets (sets s (i * entry_size) w) x vs) z
    ∙ sym (sets_append w vs s (i * entry_size))
