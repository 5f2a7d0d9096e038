-- Fields of a body, read one by one. Assumes nothing.
use mathlib.Core.Path.{◌≡◌, sym, ap, ap₂, ◌∙◌}
use mathlib.Core.Bool.{Bool}
use mathlib.Core.List.{List}
use Rattle.std.specs.Prelude.{Option, None, Some}
use Prim.Native.Nat.{ℕ, ◌+◌, ◌≤◌}
use lib.ListN.{length, get_or}
use native.Mathlib.Omega.{arith}
use mir.Syntax.{w8}
use mir.Val.{Fits}
use Rattle.layout.specs.Number.{number_at}
use Rattle.layout.specs.Format.{bool_of}
use Rattle.layout.proofs.FormatLaws.{flag_set}
use Rattle.layout.proofs.NumberLaws.{number_at_one}
use Rattle.value.specs.declared.Val.{Val}
use Rattle.files.specs.Program.{flagged}
use Rattle.value.specs.Encoding.{val_at}
use Rattle.definition.specs.Listing.{wrote_text}
use Rattle.text.specs.Read.{address_in, written_if, wrote_in}

-- ---- what is there if its flag is set

-- a flag in a byte is the byte as a number
pub address_is : (s : List ℕ) (i : ℕ) {o : Option ℕ} → i + 9 ≤ length s → ((j : ℕ) → Fits w8 (get_or s j 0)) → o ≡ flagged (get_or s i 0) (number_at s (i + 1) 8) → o ≡ address_in s i
unfolding address_in
address_is s i l all e = e ∙ ap (λ (f : ℕ). flagged f (number_at s (i + 1) 8)) (sym (number_at_one s i (omega arith) (all i).fits))

-- the text of what a step wrote
module _ (names : List (List ℕ)) (s : List ℕ) {f : ℕ} (e : f ≡ number_at s 17 1) where
  pub wrote_none : f ≡ 0 → wrote_text names None ≡ wrote_text names (wrote_in s)
  unfolding wrote_in
  wrote_none z = ap (λ (k : ℕ). wrote_text names (written_if (bool_of k) (number_at s 18 2, val_at s 20))) (sym z ∙ e)

  pub wrote_some : {k : ℕ} {v : Val} → (f ≡ 0 → ⊥) → k ≡ number_at s 18 2 → v ≡ val_at s 20 → wrote_text names (Some (k, v)) ≡ wrote_text names (wrote_in s)
  unfolding wrote_in
  wrote_some {k} {v} h p q =
      ap (λ (b : Bool). wrote_text names (written_if b (k, v))) (sym (flag_set f h))
      ∙ ap (λ (n : ℕ). wrote_text names (written_if (bool_of n) (k, v))) e
      ∙ ap₂ (λ (x : ℕ) (y : Val). wrote_text names (written_if (bool_of (number_at s 17 1)) (x, y))) p q
