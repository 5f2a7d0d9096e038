-- The variables that an accepted routine's head tells. Assumes nothing.
use mathlib.Core.Path.{◌≡◌, sym, ap, ◌∙◌}
use mathlib.Core.List.{List, [], ◌∷◌, ◌++◌}
use Prim.Native.Nat.{ℕ, zero, suc, ◌+◌, ◌-◌, ◌*◌, ◌<◌}
use native.Mathlib.Nat.{zero-add, add-zero, add-suc, suc-add}
use native.Mathlib.Omega.{arith}
use Rattle.layout.specs.Number.{number_at}
use Rattle.files.specs.FileTable.{body}
use Rattle.files.specs.Refusal.{names_of, types_of, routine_refusal}
use Rattle.files.specs.Program.{listed, variable_at, program_of}
use Rattle.files.proofs.HeadLaws.{Head, head_has}
use Rattle.files.proofs.Accepted.{routine}
use Rattle.setup.specs.Heads.{variable_count, parameter_count, variables, Heads, Reads}
use Rattle.setup.proofs.Rooting.{few_names, few_types}

-- ---- the lists

listed_more : {A : Type 0} (f : ℕ → A) (i n m : ℕ) → listed f i n ++ listed f (i + n) m ≡ listed f i (n + m)
unfolding listed
listed_more f i zero m = rw (zero-add, add-zero)
listed_more f i (suc n) m = rw (suc-add, add-suc, ← suc-add) (ap (λ (l : List _). f i ∷ l) (listed_more f (suc i) n m))

pub variables_more : (head : List ℕ) (k : ℕ) → variables head (k + 1) ≡ variables head k ++ (variable_at head k ∷ [])
unfolding listed
variables_more head k = sym (listed_more (variable_at head) 0 k 1) ∙ rw zero-add

module _ (r : List ℕ) (h : routine_refusal r ≡ 0) where
  pub has : Head (body r 2) (names_of (body r 0)) (types_of (body r 1))
  has = head_has (body r 2) _ _ (routine r h).bodies.headed

  pub heads : Heads (body r 2)
  heads = record {
    room = has.room;
    few = has.there;
    names = λ k l. omega (arith, (has.variables k l).0, few_names r h);
    types = λ k l. omega (arith, (has.variables k l).1, few_types r h);
  }

  -- parameters and then locals
  pub all_variables : (program_of r).parameters ++ (program_of r).locals ≡ variables (body r 2) (variable_count (body r 2))
  unfolding program_of
  all_variables =
      let n = parameter_count (body r 2) in
      let m = variable_count (body r 2) - n in
      let e : n + m ≡ variable_count (body r 2) = omega (arith, has.there) in
      ap (λ (i : ℕ). listed (variable_at (body r 2)) 0 n ++ listed (variable_at (body r 2)) i m) (sym (zero-add n)) ∙ listed_more (variable_at (body r 2)) 0 n m ∙ ap (variables (body r 2)) e

-- variable k as the code reads it
pub reads : {head : List ℕ} {k n t : ℕ} → Heads head → k < variable_count head → n ≡ number_at head (k * 4 + 13) 2 → t ≡ number_at head (k * 4 + 13 + 2) 2 → Reads head k (record { name = n; ty = t })
reads {head} {k} h l e f =
    let p : k * 4 + 13 + 2 ≡ k * 4 + 15 = omega arith in
    let q = f ∙ ap (λ (i : ℕ). number_at head i 2) p in
    record { name = e; named = omega (arith, h.names k l); type = q; typed = omega (arith, h.types k l) }
