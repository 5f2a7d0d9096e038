-- The registers: read in the workspace, and after one is set. Assumes nothing.
use mathlib.Core.Path.{◌≡◌, sym, ap, ◌∙◌}
use mathlib.Core.List.{List}
use Prim.Native.Nat.{ℕ, ◌+◌, ◌*◌, ◌^◌, ◌≤◌, ◌<◌}
use native.Mathlib.Nat.{add-zero}
use native.Mathlib.Omega.{arith}
use lib.ListN.{length, drop, length-drop}
use lib.Seq.{sets, length-sets, take_all, length-take-le}
use Rattle.layout.specs.Number.{le, num, number_at, put_number}
use Rattle.layout.proofs.NumberLaws.{length_le, num_le}
use Rattle.layout.proofs.StoreLaws.{take_sets, drop_sets, number_above}
use Rattle.value.specs.declared.Val.{Val}
use Rattle.memory.proofs.OverlayLaws.{below, equal, above, compared}
use Rattle.workspace.specs.Parts.{workspace_size, memory_size, frame_place, frame_size, note_place, note_size, registers_place, registers_size, tables_place, tables_size, questions_place, memory_part, frame_part, note_part, registers_part, tables, questions_part}
use Rattle.value.specs.Encoding.{val_bytes, val_at, Whole}
use Rattle.workspace.specs.Registers.{word_count, values_place, word_at, value_at}
use Rattle.workspace.specs.View.{view}
use Rattle.workspace.specs.Post.{Aside, SetsWord, SetsValue}
use Rattle.workspace.proofs.PartLaws.{part_part, part_sets, part_above, part_below, number_part, number_stored, number_below}
use Rattle.value.proofs.EncodingLaws.{length_val_bytes}
use Rattle.workspace.proofs.ValueLaws.{val_same, val_stored}

length_registers : (w : List ℕ) → workspace_size ≤ length w → length (registers_part w) ≡ registers_size
unfolding registers_part
length_registers w h = length-take-le registers_size (drop registers_place w) (rw length-drop (omega arith))

-- ---- read in the workspace

pub word_read : (w : List ℕ) (k x : ℕ) → k < word_count → x ≡ number_at w (registers_place + k * 8) 8 → x ≡ word_at (registers_part w) k
unfolding word_at registers_part
word_read w k x h e = e ∙ sym (number_part w registers_place registers_size (k * 8) 8 (omega arith))

pub value_read : (w : List ℕ) (k : ℕ) (v : Val) → k < 2 → v ≡ val_at w (registers_place + values_place + k * 16) → v ≡ value_at (registers_part w) k
unfolding value_at registers_part
value_read w k v h e =
    let i : registers_place + values_place + k * 16 ≡ registers_place + (values_place + k * 16) = omega arith in
    e ∙ ap (val_at w) i
    ∙ sym (val_same (registers_part w) w (values_place + k * 16) (registers_place + (values_place + k * 16)) (part_part registers_place registers_size (values_place + k * 16) 14 w (omega arith)))

-- ---- bytes stored among the registers

module _ (r vs : List ℕ) (i j : ℕ) where
  word_above : j * 8 + 8 ≤ i → word_at (sets r i vs) j ≡ word_at r j
  unfolding word_at
  word_above h = number_above r vs i (j * 8) 8 h

  word_below : i + length vs ≤ j * 8 → word_at (sets r i vs) j ≡ word_at r j
  unfolding word_at
  word_below h = number_below r vs i (j * 8) 8 h

  value_above : values_place + j * 16 + 14 ≤ i → value_at (sets r i vs) j ≡ value_at r j
  unfolding value_at
  value_above h = val_same (sets r i vs) r (values_place + j * 16) (values_place + j * 16) (part_above (values_place + j * 16) 14 i r vs h)

  value_below : i + length vs ≤ values_place + j * 16 → value_at (sets r i vs) j ≡ value_at r j
  unfolding value_at
  value_below h = val_same (sets r i vs) r (values_place + j * 16) (values_place + j * 16) (part_below (values_place + j * 16) 14 i r vs h)

-- ---- a word is set

module _ (r : List ℕ) (k x : ℕ) (room : registers_size ≤ length r) (few : k < word_count) (fits : x < 2 ^ 64) where
  word_here : word_at (sets r (k * 8) (le 8 x)) k ≡ x
  unfolding word_at number_at
  word_here =
      let l = length_le 8 x in
      ap (λ (i : ℕ). number_at (sets r (k * 8) (le 8 x)) i 8) (sym (add-zero (k * 8)))
      ∙ number_stored r (le 8 x) (k * 8) 0 8 (omega (arith, l)) (omega (arith, l))
      ∙ ap num (take_all 8 (le 8 x) (omega (arith, l)))
      ∙ num_le 8 x fits

  word_else : (j : ℕ) → (j ≡ k → ⊥) → word_at (sets r (k * 8) (le 8 x)) j ≡ word_at r j
  word_else j d = elim (compared j k) [
    | below h e ↦ word_above r (le 8 x) (k * 8) j (omega arith)
    | equal h e ↦ absurd (d h)
    | above h e ↦ word_below r (le 8 x) (k * 8) j (omega (arith, length_le 8 x))
  ]

-- ---- a value is set

module _ (r : List ℕ) (k : ℕ) (v : Val) (room : registers_size ≤ length r) (few : k < 2) (whole : Whole v) where
  value_here : value_at (sets r (values_place + k * 16) (val_bytes v)) k ≡ v
  unfolding value_at
  value_here =
      let l = length_val_bytes v in
      ap (val_at (sets r (values_place + k * 16) (val_bytes v))) (sym (add-zero (values_place + k * 16)))
      ∙ val_stored r (val_bytes v) (values_place + k * 16) 0 v (omega (arith, l)) (omega (arith, l)) (take_all 14 (val_bytes v) (omega (arith, l))) whole

  value_else : (j : ℕ) → (j ≡ k → ⊥) → value_at (sets r (values_place + k * 16) (val_bytes v)) j ≡ value_at r j
  value_else j d = elim (compared j k) [
    | below h e ↦ value_above r (val_bytes v) (values_place + k * 16) j (omega arith)
    | equal h e ↦ absurd (d h)
    | above h e ↦ value_below r (val_bytes v) (values_place + k * 16) j (omega (arith, length_val_bytes v))
  ]

-- ---- stored in the workspace: the other parts are as they were

module _ (w vs : List ℕ) (i : ℕ) (room : workspace_size ≤ length w) (fits : i + length vs ≤ registers_size) where
  abbrev w' : List ℕ
  w' = sets w (registers_place + i) vs

  registers_stored : registers_part w' ≡ sets (registers_part w) i vs
  unfolding registers_part
  registers_stored = part_sets registers_place registers_size i w vs (omega arith) fits

  aside_stored : Aside w w'
  unfolding view memory_part frame_part note_part tables questions_part
  aside_stored =
      let m : memory_part w' ≡ memory_part w = take_sets vs w (registers_place + i) memory_size (omega arith) in
      let f : frame_part w' ≡ frame_part w = part_above frame_place frame_size (registers_place + i) w vs (omega arith) in
      let p : note_part w' ≡ note_part w = part_above note_place note_size (registers_place + i) w vs (omega arith) in
      let l : length w' ≡ length w = length-sets w (registers_place + i) vs in
      record {
        holds = λ n. rw (f, p, m);
        fit = λ n h. record { room = omega (arith, l); sorted = rw m h.sorted; few = rw p h.few };
        size = l;
        tables = part_below tables_place tables_size (registers_place + i) w vs (omega arith);
        questions = drop_sets vs w (registers_place + i) questions_place (omega arith);
      }

pub word_set : (w : List ℕ) (k x : ℕ) → workspace_size ≤ length w → k < word_count → x < 2 ^ 64 → SetsWord w k x (put_number w (registers_place + k * 8) 8 x)
unfolding put_number
word_set w k x room few fits =
    let r = registers_part w in
    let l : registers_size ≤ length r = omega (arith, length_registers w room) in
    let b : k * 8 + length (le 8 x) ≤ registers_size = omega (arith, length_le 8 x) in
    let s = registers_stored w (le 8 x) (k * 8) room b in
    record {
      aside = aside_stored w (le 8 x) (k * 8) room b;
      here = rw s (word_here r k x l few fits);
      words = λ j h d. rw s (word_else r k x l few fits j d);
      values = λ j h. rw s (value_below r (le 8 x) (k * 8) j (omega (arith, length_le 8 x)));
    }

pub value_set : (w : List ℕ) (k : ℕ) (v : Val) → workspace_size ≤ length w → k < 2 → Whole v → SetsValue w k v (sets w (registers_place + values_place + k * 16) (val_bytes v))
value_set w k v room few whole =
    let r = registers_part w in
    let i : registers_place + values_place + k * 16 ≡ registers_place + (values_place + k * 16) = omega arith in
    let l : registers_size ≤ length r = omega (arith, length_registers w room) in
    let b : values_place + k * 16 + length (val_bytes v) ≤ registers_size = omega (arith, length_val_bytes v) in
    let s = registers_stored w (val_bytes v) (values_place + k * 16) room b in
    rw i (record {
      aside = aside_stored w (val_bytes v) (values_place + k * 16) room b;
      here = rw s (value_here r k v l few whole);
      words = λ j h. rw s (word_above r (val_bytes v) (values_place + k * 16) j (omega arith));
      values = λ j h d. rw s (value_else r k v l few whole j d);
    })
