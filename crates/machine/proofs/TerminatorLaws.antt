-- Terminators as runs on the code's host. Assumes nothing.
use mathlib.Core.Path.{◌≡◌, refl, sym, ap, ◌∙◌, subst}
use mathlib.Core.Bool.{Bool, true, false}
use mathlib.Core.List.{List}
use Rattle.std.specs.Prelude.{Option, None, Some, Result}
use Prim.Native.Nat.{ℕ, zero, suc, ◌+◌, ◌*◌, ◌≤◌}
use native.Mathlib.Omega.{arith}
use lib.Dec.{eqb}
use lib.ListN.{length, get_or}
use Rattle.value.specs.declared.Val.{Val}
use Rattle.layout.specs.Number.{number_at}
use Rattle.files.specs.Program.{Case, case_of, Tree, place, tree_from, tree_at, listed, case_at, terminator_of}
use Rattle.files.specs.Program as program
use Rattle.definition.specs.Act.{Act, done, fail, End, gave, stopped, branch_unknown, switch_unknown, no_case}
use Rattle.definition.specs.Evaluate.{number_in}
use Rattle.definition.specs.Statements as statements
use Rattle.definition.specs.Walk as walk
use Rattle.index.specs.declared.blocks.Place.{Place}
use Rattle.index.specs.declared.blocks.Terminator.{Terminator}
use Rattle.index.specs.declared.blocks.Terminator.TheVariants.{Return, Goto, Branch, Switch}
use Rattle.index.specs.Blocks.{terminator_as, cases_in, Ends}
use Rattle.hosting.specs.declared.Stop.TheVariants.{Returned}
use Rattle.hosting.specs.declared.Short.{Short}
use Rattle.hosting.specs.declared.Stop.{Stop}
use Rattle.hosting.specs.Stands.{Stands, stands}
use Rattle.hosting.specs.Scene.{given}
use Rattle.hosting.specs.Ending.{end_of}
use Rattle.operations.specs.Going as going
use Rattle.operations.proofs.Going.{acts, told, done_goes}
use Rattle.machine.specs.Post.{Evals}
use Rattle.std.specs.declared.ops.ControlFlow.{ControlFlow}
use Rattle.std.specs.declared.ops.ControlFlow.TheVariants.{Continue, Break}
use Rattle.outcomes.specs.declared.leads.Spot.{Spot}
use Rattle.outcomes.specs.Endings.{act_of, bind_end, next_end}
use Rattle.outcomes.specs.Placing.{Placing}
use Rattle.machine.specs.Statements.{Terminates}
use Rattle.outcomes.specs.Post.{branches, switches, statements_at, Leads, Outside}
use Rattle.machine.proofs.Running.{then_end, tried_then}

-- ---- the root of a terminator that has one

place_at : (nodes : List ℕ) (n : ℕ) → place (tree_at nodes n) ≡ n
unfolding tree_at tree_from
place_at nodes n = go (length nodes)
  where
    go : (f : ℕ) → place (tree_from f nodes n) ≡ n
    go zero = refl
    go (suc f) = refl

root_same : (nodes : List ℕ) (m n : ℕ) → tree_at nodes m ≡ tree_at nodes n → m ≡ n
root_same nodes m n e = sym (place_at nodes m) ∙ ap place e ∙ place_at nodes n

abbrev Rooting : program.Terminator → List ℕ → ℕ → Type 0
Rooting program.returns nodes n = ⊥
Rooting (program.goto b) nodes n = ⊥
Rooting (program.branch at t taken next) nodes n = t ≡ tree_at nodes n
Rooting (program.switch at t cases) nodes n = t ≡ tree_at nodes n

rooted : (nodes b : List ℕ) (i n : ℕ) (k : ℕ) → Rooting (terminator_of nodes b i k) nodes n → (2 ≤ k) × (number_at b (i + 12) 4 ≡ n)
rooted nodes b i n zero h = absurd h
rooted nodes b i n (suc zero) h = absurd h
rooted nodes b i n (suc (suc zero)) h = (omega arith, root_same nodes (number_at b (i + 12) 4) n h)
rooted nodes b i n (suc (suc (suc k))) h = (omega arith, root_same nodes (number_at b (i + 12) 4) n h)

module _ {nodes ss blocks : List ℕ} {p : Place} {t : Terminator} (all : Placing nodes ss blocks p) (ends : Ends blocks p.start t) where
  root_stands : (n : ℕ) → Rooting (terminator_as nodes blocks p.start t) nodes n → Stands nodes n (tree_at nodes n)
  root_stands n h =
      let r = rooted nodes blocks p.start n (get_or blocks (p.start + 2) 0) (subst (λ (z : program.Terminator). Rooting z nodes n) (sym (ends.is nodes)) h) in
      subst (λ (m : ℕ). Stands nodes m (tree_at nodes m)) r.1 (all.root r.0)

  pub branch_stands : {a : Option ℕ} {n taken next : ℕ} → t ≡ Branch a n taken next → Stands nodes n (tree_at nodes n)
  branch_stands {n = n} e = root_stands n (subst (λ (z : Terminator). Rooting (terminator_as nodes blocks p.start z) nodes n) (sym e) refl)

  pub switch_stands : {a : Option ℕ} {n count : ℕ} → t ≡ Switch a n count → Stands nodes n (tree_at nodes n)
  switch_stands {n = n} e = root_stands n (subst (λ (z : Terminator). Rooting (terminator_as nodes blocks p.start z) nodes n) (sym e) refl)

  pub switch_cases : {a : Option ℕ} {n count : ℕ} → t ≡ Switch a n count → p.start + 24 + count * 12 ≤ length blocks
  switch_cases e = let z = ap cases_in e in omega (arith, ends.inside, z)

-- ---- what is made of the value

place_is : {b : List ℕ} {n : ℕ} {t : Tree} → Stands b n t → place t ≡ n
place_is (stands i h) = refl

module _ {b s r : List ℕ} {w₀ o₀ w o : List ℕ} {n : ℕ} {e : Result Val Short} (l : Result ℕ Short) (evals : Evals b s r n w₀ o₀ e w o) (t : Tree) (h : Stands b n t) where
  taking_goes : (taken next : ℕ) → end_of l ≡ bind_end (branches n taken next) (end_of e) → going.Goes (given b s r) (λ x. walk.taking x.env t taken next) w₀ o₀ (end_of l) w o
  unfolding walk.taking
  taking_goes taken next q = told q (then_end f (branches n taken next) same (end_of e) (evals.goes t h))
    where
      f : Val → Act ℕ
      f v = elim (number_in v) [ None ↦ fail (branch_unknown (place t)) | Some m ↦ done (elim (eqb m 0) [ true ↦ next | false ↦ taken ]) ]

      by : (m : Option ℕ) → elim m [ None ↦ fail (branch_unknown (place t)) | Some m ↦ done (elim (eqb m 0) [ true ↦ next | false ↦ taken ]) ]
          ≡ act_of {A = ℕ} (elim m [ None ↦ stopped (branch_unknown n) | Some m ↦ gave (elim (eqb m 0) [ true ↦ next | false ↦ taken ]) ])
      by None = ap (λ (z : ℕ). fail (branch_unknown z)) (place_is h)
      by (Some m) = refl

      same : (v : Val) → f v ≡ act_of (branches n taken next v)
      same v = by (number_in v)

  choosing_goes : (blocks : List ℕ) (start count : ℕ) → end_of l ≡ bind_end (switches n (listed (case_at blocks (start + 24)) 0 count)) (end_of e)
      → going.Goes (given b s r) (λ x. walk.choosing x.env t (listed (case_at blocks (start + 24)) 0 count)) w₀ o₀ (end_of l) w o
  unfolding walk.choosing
  choosing_goes blocks start count q = told q (then_end f (switches n cases) same (end_of e) (evals.goes t h))
    where
      cases : List Case
      cases = listed (case_at blocks (start + 24)) 0 count

      f : Val → Act ℕ
      f v = elim v.known [
        | false ↦ fail (switch_unknown (place t))
        | true ↦ elim (case_of cases (walk.extended v)) [ None ↦ fail (no_case (walk.extended v)) | Some b ↦ done b ]
      ]

      found : (z : ℕ) (m : Option ℕ) → elim m [ None ↦ fail (no_case z) | Some b ↦ done b ] ≡ act_of {A = ℕ} (elim m [ None ↦ stopped (no_case z) | Some b ↦ gave b ])
      found z None = refl
      found z (Some b) = refl

      by : (b : Bool) (z : ℕ) (m : Option ℕ) → elim b [ false ↦ fail (switch_unknown (place t)) | true ↦ elim m [ None ↦ fail (no_case z) | Some b ↦ done b ] ]
          ≡ act_of {A = ℕ} (elim b [ false ↦ stopped (switch_unknown n) | true ↦ elim m [ None ↦ stopped (no_case z) | Some b ↦ gave b ] ])
      by false z m = ap (λ (z : ℕ). fail (switch_unknown z)) (place_is h)
      by true z m = found z m

      same : (v : Val) → f v ≡ act_of (switches n cases v)
      same v = by v.known (walk.extended v) (case_of cases (walk.extended v))

-- ---- each terminator

module _ {b s r ss blocks : List ℕ} {p : Place} {t : Terminator} (ends : Ends blocks p.start t) where
  led_by : {t' : Terminator} {w₀ o₀ w o : List ℕ} {q : ControlFlow Stop Spot} → t ≡ t' → Outside q
      → ((limit : ℕ) → going.Goes (given b s r) (λ x. walk.terminate x.env (statements_at b ss blocks p) (terminator_as b blocks p.start t')) w₀ o₀ (next_end limit q) w o)
      → Terminates b s r ss blocks p w₀ o₀ q w o
  led_by e out run = record {
    goes = λ limit. acts (λ i x h. ap (walk.terminate x.env (statements_at b ss blocks p)) (ends.is b ∙ ap (terminator_as b blocks p.start) e)) (run limit);
    outside = out;
  }

  pub terminates_return : {w o : List ℕ} → t ≡ Return → Terminates b s r ss blocks p w o (Break (Returned None)) w o
  unfolding walk.terminate
  terminates_return e = led_by e tt (λ limit. done_goes (λ x. walk.stops (statements.Returned None)) (λ i x h. refl))

  pub terminates_goto : {w o : List ℕ} {n : ℕ} → t ≡ Goto n → Terminates b s r ss blocks p w o (Continue (record { block = n; statement = None })) w o
  unfolding walk.terminate
  terminates_goto {n = n} e = led_by e refl (λ limit. done_goes (λ x. walk.goes (walk.before n)) (λ i x h. refl))

  module _ {w₀ o₀ w o : List ℕ} {a : Option ℕ} {n : ℕ} {e : Result Val Short} {l : Result ℕ Short} {q : ControlFlow Stop Spot} (all : Placing b ss blocks p) (evals : Evals b s r n w₀ o₀ e w o) (leads : Leads ss blocks p a l q) where
    abbrev leave : End ℕ → walk.Next
    leave = walk.left_to (walk.address_or a (statements_at b ss blocks p))

    pub terminates_branch : {taken next : ℕ} → t ≡ Branch a n taken next → end_of l ≡ bind_end (branches n taken next) (end_of e) → Terminates b s r ss blocks p w₀ o₀ q w o
    unfolding walk.terminate
    terminates_branch {taken} {next} i k =
        led_by i leads.outside
        (λ limit. told (leads.is b limit) (tried_then leave (end_of l) (taking_goes l evals (tree_at b n) (branch_stands all ends i) taken next k)))

    pub terminates_switch : {count : ℕ} → t ≡ Switch a n count → end_of l ≡ bind_end (switches n (listed (case_at blocks (p.start + 24)) 0 count)) (end_of e) → Terminates b s r ss blocks p w₀ o₀ q w o
    unfolding walk.terminate
    terminates_switch {count} i k =
        led_by i leads.outside
        (λ limit. told (leads.is b limit) (tried_then leave (end_of l) (choosing_goes l evals (tree_at b n) (switch_stands all ends i) blocks p.start count k)))
