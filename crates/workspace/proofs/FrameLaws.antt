-- The frame's slots: read where the bytes are the same, and after one is set. Assumes nothing.
use mathlib.Core.Path.{◌≡◌, sym, ap, ap₂, ◌∙◌}
use mathlib.Core.Bool.{Bool, true, false}
use mathlib.Core.List.{List, [], ◌∷◌}
use Rattle.std.specs.Prelude.{Option, None, Some}
use Prim.Native.Nat.{ℕ, suc, ◌+◌, ◌*◌, ◌≤◌, ◌<◌}
use native.Mathlib.Nat.{add-zero}
use native.Mathlib.Omega.{arith}
use lib.ListN.{length}
use lib.Seq.{sets, take_all}
use Rattle.layout.specs.Number.{num, number_at}
use Rattle.layout.specs.Format.{bool_of}
use Rattle.layout.proofs.FormatLaws.{flag_set}
use Rattle.value.specs.declared.Val.{Val}
use Rattle.memory.specs.Overlay.{find, store}
use Rattle.memory.proofs.OverlayLaws.{below, equal, above, compared}
use Rattle.workspace.specs.Parts.{part, frame_place, frame_size, frame_part}
use Rattle.value.specs.Encoding.{val_bytes, val_at, Whole}
use Rattle.workspace.specs.Variables.{slot_size, name_limit, slot_at, variables_in}
use Rattle.workspace.proofs.PartLaws.{part_part, part_above, part_below, part_stored, number_same, number_part}
use Rattle.value.proofs.EncodingLaws.{length_val_bytes}
use Rattle.workspace.proofs.ValueLaws.{val_same, val_stored}
use Rattle.workspace.proofs.VariableLaws.{those_find, those_store}

abbrev slot_if : Bool → Val → Option Val
slot_if b v = elim b [ true ↦ Some v | false ↦ None ]

pub slot_same : (f g : List ℕ) (x : ℕ) → part (x * slot_size) slot_size g ≡ part (x * slot_size) slot_size f → slot_at g x ≡ slot_at f x
unfolding slot_at
slot_same f g x e =
    let i = x * slot_size in
    let a : number_at g i 1 ≡ number_at f i 1 = rw (add-zero) at (number_same g f i i slot_size 0 1 e (omega arith)) in
    let b : part (i + 1) 14 g ≡ part (i + 1) 14 f =
    sym (part_part i slot_size 1 14 g (omega arith)) ∙ ap (part 1 14) e ∙ part_part i slot_size 1 14 f (omega arith) in
    ap₂ (λ (n : ℕ) (v : Val). slot_if (bool_of n) v) a (val_same g f (i + 1) (i + 1) b)

-- the bytes of a slot that is set
abbrev pub slot_bytes : Val → List ℕ
slot_bytes v = 1 ∷ val_bytes v

module _ (f : List ℕ) (x : ℕ) (v : Val) (room : frame_size ≤ length f) (few : x < name_limit) (whole : Whole v) where
  long : x * slot_size + length (slot_bytes v) ≤ length f
  long = omega (arith, length_val_bytes v)

  slot_set : slot_at (sets f (x * slot_size) (slot_bytes v)) x ≡ Some v
  unfolding slot_at number_at
  slot_set =
      let g = sets f (x * slot_size) (slot_bytes v) in
      let a : part (x * slot_size) 1 g ≡ 1 ∷ [] =
      ap (λ (i : ℕ). part i 1 g) (sym (add-zero (x * slot_size))) ∙ part_stored (x * slot_size) 0 1 f (slot_bytes v) long (omega arith) in
      ap₂ (λ (n : ℕ) (v : Val). slot_if (bool_of n) v) (ap num a) (val_stored f (slot_bytes v) (x * slot_size) 1 v long (omega (arith, length_val_bytes v)) (take_all 14 (val_bytes v) (omega (arith, length_val_bytes v))) whole)

  slot_else : (y : ℕ) → (y ≡ x → ⊥) → slot_at (sets f (x * slot_size) (slot_bytes v)) y ≡ slot_at f y
  slot_else y d =
      let i = x * slot_size in
      let l : length (slot_bytes v) ≡ 15 = ap suc (length_val_bytes v) in
      elim (compared y x) [
        | below k e ↦ slot_same f (sets f i (slot_bytes v)) y (part_above (y * slot_size) slot_size i f (slot_bytes v) (omega arith))
        | equal k e ↦ absurd (d k)
        | above k e ↦ slot_same f (sets f i (slot_bytes v)) y (part_below (y * slot_size) slot_size i f (slot_bytes v) (omega arith))
      ]

  pub variables_set : variables_in (sets f (x * slot_size) (slot_bytes v)) ≡ store x v (variables_in f)
  unfolding variables_in
  variables_set = those_store (slot_at f) (slot_at (sets f (x * slot_size) (slot_bytes v))) x v slot_set slot_else 0 name_limit (omega arith) (omega arith)

pub variables_find : (f : List ℕ) (x : ℕ) → x < name_limit → find x (variables_in f) ≡ slot_at f x
unfolding variables_in
variables_find f x h = those_find (slot_at f) x 0 name_limit (omega arith) (omega arith)

-- ---- a slot read in the workspace

module _ (w : List ℕ) (x a : ℕ) (few : x < name_limit) (read : a ≡ number_at w (frame_place + x * slot_size) 1) where
  flag_read : number_at (frame_part w) (x * slot_size) 1 ≡ a
  unfolding frame_part
  flag_read = number_part w frame_place frame_size (x * slot_size) 1 (omega arith) ∙ sym read

  val_read : val_at (frame_part w) (x * slot_size + 1) ≡ val_at w (frame_place + (x * slot_size + 1))
  unfolding frame_part
  val_read = val_same (frame_part w) w (x * slot_size + 1) (frame_place + (x * slot_size + 1)) (part_part frame_place frame_size (x * slot_size + 1) 14 w (omega arith))

  slot_read : slot_at (frame_part w) x ≡ slot_if (bool_of a) (val_at w (frame_place + (x * slot_size + 1)))
  unfolding slot_at
  slot_read = ap₂ (λ (n : ℕ) (v : Val). slot_if (bool_of n) v) flag_read val_read

  pub reads_unset : a ≡ 0 → None ≡ find x (variables_in (frame_part w))
  reads_unset z = sym (variables_find (frame_part w) x few ∙ slot_read ∙ ap (λ (n : ℕ). slot_if (bool_of n) (val_at w (frame_place + (x * slot_size + 1)))) z)

  pub reads_set : (v : Val) → (a ≡ 0 → ⊥) → v ≡ val_at w (frame_place + x * slot_size + 1) → Some v ≡ find x (variables_in (frame_part w))
  reads_set v z e =
      let k : frame_place + (x * slot_size + 1) ≡ frame_place + x * slot_size + 1 = omega arith in
      sym (variables_find (frame_part w) x few ∙ slot_read ∙ ap₂ slot_if (flag_set a z) (ap (val_at w) k ∙ sym e))
