-- The table of masks: what it is as a whole, which the checker computes, and so what each entry is.
-- Assumes nothing.
use Rattle.std.proofs.Common.{◌≡◌, ℕ, ◌-◌, ◌^◌, map, slice_index_or, refl, ap, arith, ◌∙◌}
use Rattle.std.proofs.lemmas.List.FromFn.{get_or-map-range_with_len}
use Rattle.std.specs.List.{range_with_len}
use native.Mathlib.Nat.{min-le_right}
use Rattle.value.specs.Width.{width}
use Rattle.value.specs.declared.width.TheConstants.{MASKS}

abbrev formula : ℕ → ℕ
formula w = 2 ^ w - 1

the_table : MASKS ≡ map formula (range_with_len 0 65)
the_table = refl

pub mask_at : (bits w : ℕ) → w ≡ width bits → slice_index_or MASKS w 0 ≡ 2 ^ width bits - 1
mask_at bits w e =
    ap (λ table. slice_index_or table w 0) the_table
    ∙ get_or-map-range_with_len formula 0 65 w (width bits) 0 (omega (arith, e, min-le_right bits 64)) (omega (arith, e))
