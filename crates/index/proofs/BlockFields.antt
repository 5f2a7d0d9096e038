-- The case of a Switch that has a value: the first that is found among them decides. Assumes nothing.
use mathlib.Core.Path.{◌≡◌, refl, ap, sym, ◌∙◌}
use mathlib.Core.Bool.{Bool, true, false, cond}
use mathlib.Core.List.{List, map}
use Rattle.std.specs.Prelude.{Option, None, Some}
use Rattle.std.specs.Option.{option_map}
use Rattle.std.proofs.lemmas.Iterator.Adapters.{option_map_id}
use Rattle.std.specs.List.{find, range_with_len}
use Prim.Native.Nat.{ℕ, zero, suc, ◌+◌}
use native.Mathlib.Numerals.{add-one}
use lib.Dec.{eqb}
use Rattle.files.specs.Program.{case_of, listed, case_at}
use Rattle.index.specs.declared.blocks.Case.{Case}

by_case : (t : Bool) (c : Case) (rest : Option Case) {s : Option ℕ} → option_map (λ (c : Case). c.target) rest ≡ s
    → option_map (λ (c : Case). c.target) (cond t (Some c) rest) ≡ elim t [ true ↦ Some c.target | false ↦ s ]
by_case true c rest e = refl
by_case false c rest e = e

module _ (b : List ℕ) (i value : ℕ) where
  -- case k as the code has it
  abbrev pub case_read : ℕ → Case
  case_read k = record { value = (case_at b i k).value; target = (case_at b i k).target }

  abbrev pub has : Case → Bool
  has c = eqb c.value value

  by_found : (k n : ℕ) → option_map (λ (c : Case). c.target) (find has (map case_read (range_with_len k n))) ≡ case_of (listed (case_at b i) k n) value
  unfolding listed case_of
  by_found k zero = refl
  by_found k (suc n) =
      by_case (eqb (case_at b i k).value value) (case_read k) _ (by_found (k + 1) n ∙ ap (λ (j : ℕ). case_of (listed (case_at b i) j n) value) (add-one k))

  -- the target of the one that a search of the first so many finds
  pub case_found : (count : ℕ) (r : Option Case) {q : Option ℕ} → option_map (λ (c : Case). c) r ≡ find has (map case_read (range_with_len 0 count)) → q ≡ option_map (λ (c : Case). c.target) r
      → q ≡ case_of (listed (case_at b i) 0 count) value
  case_found count r e is = is ∙ ap (option_map (λ (c : Case). c.target)) (sym (option_map_id r) ∙ e) ∙ by_found 0 count
