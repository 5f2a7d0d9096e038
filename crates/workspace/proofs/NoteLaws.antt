-- The pending note: cleared, started, with a name more, and its names as bytes. Assumes nothing.
use mathlib.Core.Path.{◌≡◌, refl, sym, ap, ap₂, ◌∙◌}
use mathlib.Core.Bool.{Bool, true, false, not}
use mathlib.Core.List.{List, [], ◌∷◌, ◌++◌}
use Rattle.std.specs.Prelude.{Option, None, Some}
use Prim.Native.Nat.{ℕ, ◌+◌, ◌-◌, ◌*◌, ◌≤◌, ◌<◌}
use native.Mathlib.Omega.{arith}
use lib.Dec.{eqb}
use lib.ListN.{length, take, drop, length-append, length-drop}
use lib.Seq.{sets, length-sets, take_at, take-add, drop-drop, length-take-le}
use Rattle.layout.specs.Each.{Bytes}
use Rattle.layout.specs.Number.{le, num, number_at, put_number}
use Rattle.layout.specs.Format.{number, reads, bool_of}
use Rattle.layout.proofs.NumberLaws.{length_le, num_le, le_num}
use Rattle.layout.proofs.StoreLaws.{each_take, each_drop, drop_sets, take_sets, drop_sets_at}
use Rattle.layout.proofs.FormatLaws.{flag_set, length_reads}
use Rattle.memory.proofs.EntryLaws.{Sized, number_sized, reads_add, reads_take, writes_reads}
use Rattle.workspace.specs.Parts.{part, workspace_size, note_place, note_size, frame_part, note_part}
use Rattle.workspace.specs.Note.{taken_limit, names, names_bytes, pending_in, noted, taken, with_name, Few, Open}
use Rattle.workspace.specs.View.{Changes, leaving, noting}
use Rattle.workspace.proofs.PartLaws.{part_part, part_above, part_stored, drop_sets_in, number_part}
use Rattle.value.proofs.EncodingLaws.{flag_read}
use Rattle.workspace.proofs.ViewLaws.{Becomes, length_note, note_stored, changes}

abbrev note_if : Bool → List ℕ → Option (List ℕ)
note_if b l = elim b [ true ↦ Some l | false ↦ None ]

-- the names that stand in a note, also where its flag is not set
abbrev listed : List ℕ → List ℕ
listed p = (names.read (drop 1 p)).0

name : Sized (number 2) 2
name = number_sized 2

length_listed : (p : List ℕ) → length (listed p) ≡ number_at p 1 2
unfolding number_at
length_listed p = length_reads (number 2) (num (take 2 (drop 1 p))) (drop 2 (drop 1 p))

-- ---- what a store in the note does to it

pub pending_cleared : (p : List ℕ) → note_size ≤ length p → pending_in (sets p 0 (0 ∷ [])) ≡ None
unfolding pending_in number_at
pending_cleared p h =
    let e : num (part 0 1 (sets p 0 (0 ∷ []))) ≡ 0 = ap num (part_stored 0 0 1 p (0 ∷ []) (omega arith) (omega arith)) in
    ap (λ (n : ℕ). note_if (bool_of n) (listed (sets p 0 (0 ∷ [])))) e

pub pending_started : (p : List ℕ) → note_size ≤ length p → pending_in (sets p 0 (1 ∷ 0 ∷ 0 ∷ [])) ≡ Some []
unfolding pending_in number_at
pending_started p h =
    let q = sets p 0 (1 ∷ 0 ∷ 0 ∷ []) in
    let a : num (part 0 1 q) ≡ 1 = ap num (part_stored 0 0 1 p (1 ∷ 0 ∷ 0 ∷ []) (omega arith) (omega arith)) in
    let b : num (part 1 2 q) ≡ 0 = ap num (part_stored 0 1 2 p (1 ∷ 0 ∷ 0 ∷ []) (omega arith) (omega arith)) in
    ap₂ (λ (n k : ℕ). note_if (bool_of n) (reads (number 2) k (drop 2 (drop 1 q))).0) a b

module _ (p : List ℕ) (n x : ℕ) (room : note_size ≤ length p) (few : n < taken_limit) (count : n ≡ number_at p 1 2) (fits : x < 65536) where
  abbrev p₁ : List ℕ
  p₁ = sets p (3 + n * 2) (le 2 x)

  abbrev p₂ : List ℕ
  p₂ = sets p₁ 1 (le 2 (n + 1))

  flag_kept : number_at p₂ 0 1 ≡ number_at p 0 1
  unfolding number_at
  flag_kept = ap num (part_above 0 1 1 p₁ (le 2 (n + 1)) (omega arith) ∙ part_above 0 1 (3 + n * 2) p (le 2 x) (omega arith))

  count_more : number_at p₂ 1 2 ≡ n + 1
  unfolding number_at
  count_more =
      let l : 1 + length (le 2 (n + 1)) ≤ length p₁ = omega (arith, length_le 2 (n + 1), length-sets p (3 + n * 2) (le 2 x)) in
      ap num (part_stored 1 0 2 p₁ (le 2 (n + 1)) l (omega (arith, length_le 2 (n + 1)))) ∙ num_le 2 (n + 1) (omega arith)

  names_from : drop 3 p₂ ≡ sets (drop 3 p) (n * 2) (le 2 x)
  names_from = drop_sets (le 2 (n + 1)) p₁ 1 3 (omega (arith, length_le 2 (n + 1))) ∙ drop_sets_in (le 2 x) p 3 (n * 2) (omega arith)

  abbrev rest : List ℕ
  rest = drop 3 p

  names_before : (reads (number 2) n (sets rest (n * 2) (le 2 x))).0 ≡ (reads (number 2) n rest).0
  names_before =
      let l : n * 2 ≤ length rest = rw length-drop (omega arith) in
      sym (reads_take name n (n * 2) (sets rest (n * 2) (le 2 x)) (omega arith) (omega (arith, l, length-sets rest (n * 2) (le 2 x))))
      ∙ ap (λ (s : List ℕ). (reads (number 2) n s).0) (take_sets (le 2 x) rest (n * 2) (n * 2) (omega arith))
      ∙ reads_take name n (n * 2) rest (omega arith) l

  name_after : (reads (number 2) 1 (drop (n * 2) (sets rest (n * 2) (le 2 x)))).0 ≡ x ∷ []
  name_after =
      let l : n * 2 + length (le 2 x) ≤ length rest = rw length-drop (omega (arith, length_le 2 x)) in
      ap (λ (s : List ℕ). num (take 2 s) ∷ []) (drop_sets_at (le 2 x) rest (n * 2) l)
      ∙ ap (λ (s : List ℕ). num s ∷ []) (take_at (le 2 x) (drop (n * 2 + length (le 2 x)) rest) 2 (length_le 2 x))
      ∙ ap (λ (k : ℕ). k ∷ []) (num_le 2 x fits)

  listed_more : listed p₂ ≡ listed p ++ (x ∷ [])
  unfolding number_at
  listed_more =
      ap₂ (λ (k : ℕ) (s : List ℕ). (reads (number 2) k s).0) count_more (drop-drop 2 1 p₂ ∙ names_from)
      ∙ reads_add name n 1 (sets rest (n * 2) (le 2 x))
      ∙ ap₂ (λ (l r : List ℕ). l ++ r) (names_before ∙ ap₂ (λ (k : ℕ) (s : List ℕ). (reads (number 2) k s).0) count (sym (drop-drop 2 1 p))) name_after

  pub pending_added : pending_in p₂ ≡ with_name x (pending_in p)
  unfolding pending_in
  pending_added = ap₂ (λ (k : ℕ) (l : List ℕ). note_if (bool_of k) l) flag_kept listed_more ∙ go (bool_of (number_at p 0 1))
    where
      go : (b : Bool) → note_if b (listed p ++ (x ∷ [])) ≡ with_name x (note_if b (listed p))
      go true = refl
      go false = refl

-- ---- the names as bytes

listed_bytes : (p : List ℕ) → Bytes p → note_size ≤ length p → length (listed p) ≤ taken_limit → part 1 (2 + length (listed p) * 2) p ≡ names_bytes (listed p)
unfolding names_bytes
listed_bytes p all room few =
    let k = num (take 2 (drop 1 p)) in
    let s = drop 2 (drop 1 p) in
    let e : length (listed p) ≡ k = length_reads (number 2) k s in
    let l : k * 2 ≤ length s = rw (length-drop, length-drop) (omega (arith, e)) in
    let b : le 2 k ≡ take 2 (drop 1 p) = le_num 2 (take 2 (drop 1 p)) (length-take-le 2 (drop 1 p) (rw length-drop (omega arith))) (each_take 2 (drop 1 p) (each_drop 1 p all)) in
    ap (λ (n : ℕ). part 1 (2 + n * 2) p) e
    ∙ take-add 2 (k * 2) (drop 1 p)
    ∙ ap₂ (λ (x y : List ℕ). x ++ y) (sym b ∙ ap (le 2) (sym e)) (sym (writes_reads name k s l (each_drop 2 (drop 1 p) (each_drop 1 p all))))

-- ---- the note read in the workspace

module _ (w : List ℕ) where
  note_number : (d k : ℕ) → d + k ≤ note_size → number_at (note_part w) d k ≡ number_at w (note_place + d) k
  unfolding note_part
  note_number d k h = number_part w note_place note_size d k h

  pending_read : (a : ℕ) → a ≡ number_at w note_place 1 → pending_in (note_part w) ≡ note_if (bool_of a) (listed (note_part w))
  unfolding pending_in
  pending_read a e = ap (λ (n : ℕ). note_if (bool_of n) (listed (note_part w))) (note_number 0 1 (omega arith) ∙ sym e)

  pub reads_noted : (a : ℕ) → a ≡ number_at w note_place 1 → not (eqb a 0) ≡ noted (pending_in (note_part w))
  reads_noted a e = flag_read a ∙ go (bool_of a) ∙ sym (ap noted (pending_read a e))
    where
      go : (b : Bool) → b ≡ noted (note_if b (listed (note_part w)))
      go true = refl
      go false = refl

  pub counts_none : (a : ℕ) → a ≡ number_at w note_place 1 → a ≡ 0 → 0 ≡ length (taken (pending_in (note_part w)))
  counts_none a e z = sym (ap (λ (p : Option (List ℕ)). length (taken p)) (pending_read a e ∙ ap (λ (n : ℕ). note_if (bool_of n) (listed (note_part w))) z))

  pub counts_names : (a n : ℕ) → a ≡ number_at w note_place 1 → (a ≡ 0 → ⊥) → n ≡ number_at w (note_place + 1) 2 → n ≡ length (taken (pending_in (note_part w)))
  counts_names a n e z c =
      c ∙ sym (note_number 1 2 (omega arith)) ∙ sym (length_listed (note_part w))
      ∙ sym (ap (λ (p : Option (List ℕ)). length (taken p)) (pending_read a e ∙ ap (λ (b : Bool). note_if b (listed (note_part w))) (flag_set a z)))

  -- an open note has room for a name
  pub open_count : (n : ℕ) → n ≡ number_at w (note_place + 1) 2 → Open (pending_in (note_part w)) → n < taken_limit
  unfolding pending_in
  open_count n c o = go (bool_of (number_at (note_part w) 0 1)) o
    where
      go : (b : Bool) → Open (note_if b (listed (note_part w))) → n < taken_limit
      go true h = omega (arith, h, length_listed (note_part w), note_number 1 2 (omega arith), c)
      go false h = absurd h

  -- the names' bytes
  pub names_there : (n : ℕ) → Bytes w → workspace_size ≤ length w → noted (pending_in (note_part w)) ≡ true → Few (pending_in (note_part w))
      → n ≡ length (taken (pending_in (note_part w))) → take (note_place + 3 + n * 2 - (note_place + 1)) (drop (note_place + 1) w) ≡ names_bytes (taken (pending_in (note_part w)))
  unfolding pending_in note_part
  names_there n all room t f e = go (bool_of (number_at (note_part w) 0 1)) t f e
    where
      go : (b : Bool) → noted (note_if b (listed (note_part w))) ≡ true → Few (note_if b (listed (note_part w))) → n ≡ length (taken (note_if b (listed (note_part w))))
          → take (note_place + 3 + n * 2 - (note_place + 1)) (drop (note_place + 1) w) ≡ names_bytes (taken (note_if b (listed (note_part w))))
      go true t f e =
          let k : note_place + 3 + n * 2 - (note_place + 1) ≡ 2 + length (listed (note_part w)) * 2 = omega (arith, e) in
          ap (λ (m : ℕ). part (note_place + 1) m w) k
          ∙ sym (part_part note_place note_size 1 (2 + length (listed (note_part w)) * 2) w (omega (arith, f)))
          ∙ listed_bytes (note_part w) (each_take note_size (drop note_place w) (each_drop note_place w all)) (omega (arith, length_note w room)) f
      go false t f e = let z : ◌≡◌ {A = ℕ} 0 1 = cc in absurd (omega arith)

-- ---- the note changed in the workspace

pub note_cleared : (w w' : List ℕ) → workspace_size ≤ length w → w' ≡ put_number w note_place 1 0 → Changes w (leaving None) w'
unfolding put_number
note_cleared w w' room e =
    rw e (changes w (sets w note_place (0 ∷ [])) (frame_part w) (sets (note_part w) 0 (0 ∷ [])) (leaving None) (note_stored w (0 ∷ []) 0 room (omega arith))
    (λ m. rw (pending_cleared (note_part w) (omega (arith, length_note w room))))
    (λ h. rw (pending_cleared (note_part w) (omega (arith, length_note w room))) (omega arith)))

pub note_started : (w t w' : List ℕ) → workspace_size ≤ length w → t ≡ put_number w note_place 1 1 → w' ≡ put_number t (note_place + 1) 2 0 → Changes w (leaving (Some [])) w'
unfolding put_number
note_started w t w' room p q =
    let e : w' ≡ sets w note_place (1 ∷ 0 ∷ 0 ∷ []) = q ∙ ap (λ (l : List ℕ). sets l (note_place + 1) (0 ∷ 0 ∷ [])) p in
    rw e (changes w (sets w note_place (1 ∷ 0 ∷ 0 ∷ [])) (frame_part w) (sets (note_part w) 0 (1 ∷ 0 ∷ 0 ∷ [])) (leaving (Some [])) (note_stored w (1 ∷ 0 ∷ 0 ∷ []) 0 room (omega arith))
    (λ m. rw (pending_started (note_part w) (omega (arith, length_note w room))))
    (λ h. rw (pending_started (note_part w) (omega (arith, length_note w room))) (omega arith)))

-- two stores in the note, one after the other
note_twice : (w vs us : List ℕ) (i j : ℕ) → workspace_size ≤ length w → i + length vs ≤ note_size → j + length us ≤ note_size
    → Becomes w (sets (sets w (note_place + i) vs) (note_place + j) us) (frame_part w) (sets (sets (note_part w) i vs) j us)
note_twice w vs us i j room h l =
    let t = sets w (note_place + i) vs in
    let a = note_stored w vs i room h in
    let b = note_stored t us j (omega (arith, a.size)) l in
    record {
      memory = b.memory ∙ a.memory;
      frame = b.frame ∙ a.frame;
      note = b.note ∙ ap (λ (p : List ℕ). sets p j us) a.note;
      tables = b.tables ∙ a.tables;
      size = b.size ∙ a.size;
      registers = b.registers ∙ a.registers;
      questions = b.questions ∙ a.questions;
    }

more_few : (x : ℕ) (p : Option (List ℕ)) → Open p → Few (with_name x p)
more_few x None o = absurd o
more_few x (Some xs) o = rw length-append (omega arith)

pub note_added : (w t w' : List ℕ) (n x : ℕ) → workspace_size ≤ length w → x < 65536 → Open (pending_in (note_part w)) → n ≡ number_at w (note_place + 1) 2
    → t ≡ put_number w (note_place + 3 + n * 2) 2 x → w' ≡ put_number t (note_place + 1) 2 (n + 1) → Changes w (noting x) w'
unfolding put_number
note_added w t w' n x room fits o c p q =
    let few : n < taken_limit = open_count w n c o in
    let i : note_place + 3 + n * 2 ≡ note_place + (3 + n * 2) = omega arith in
    let s = sets (sets (note_part w) (3 + n * 2) (le 2 x)) 1 (le 2 (n + 1)) in
    let e : w' ≡ sets (sets w (note_place + (3 + n * 2)) (le 2 x)) (note_place + 1) (le 2 (n + 1)) =
    q ∙ ap (λ (l : List ℕ). sets l (note_place + 1) (le 2 (n + 1))) (p ∙ ap (λ (k : ℕ). sets w k (le 2 x)) i) in
    let m : pending_in s ≡ with_name x (pending_in (note_part w)) =
    pending_added (note_part w) n x (omega (arith, length_note w room)) few (c ∙ sym (note_number w 1 2 (omega arith))) fits in
    rw e (changes w (sets (sets w (note_place + (3 + n * 2)) (le 2 x)) (note_place + 1) (le 2 (n + 1))) (frame_part w) s (noting x)
    (note_twice w (le 2 x) (le 2 (n + 1)) (3 + n * 2) 1 room (omega (arith, length_le 2 x)) (omega (arith, length_le 2 (n + 1))))
    (λ k. rw m)
    (λ h. rw m (more_few x (pending_in (note_part w)) o)))

-- where the name goes
pub name_room : (w : List ℕ) (n : ℕ) → workspace_size ≤ length w → n ≡ number_at w (note_place + 1) 2 → Open (pending_in (note_part w)) → note_place + 3 + n * 2 + 2 ≤ length w
name_room w n room c o = omega (arith, open_count w n c o)
