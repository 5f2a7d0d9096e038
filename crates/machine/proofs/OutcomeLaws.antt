-- What a statement's root does, as runs on the code's host, and what its results read as. Assumes nothing.
use mathlib.Core.Path.{◌≡◌, refl, sym, ap, ◌∙◌, subst}
use mathlib.Core.Bool.{Bool, true, false}
use mathlib.Core.List.{List}
use Rattle.std.specs.Prelude.{Option, None, Some, Result, Ok, Err}
use Prim.Native.Nat.{ℕ, ◌+◌, ◌*◌, ◌≤◌, ◌<◌}
use native.Mathlib.Omega.{arith}
use borrow.Author.Tests.{eq-eqb}
use lib.ListN.{length}
use Rattle.value.specs.declared.Ty.{Ty}
use Rattle.value.specs.declared.Val.{Val}
use Rattle.layout.specs.Text.{text}
use Rattle.files.specs.Nodes.{kind_of, span_of, value_of}
use Rattle.files.specs.Program.{Program, Node, Tree, tree, Trees, node_of}
use Rattle.files.specs.declared.kinds.Kind.TheVariants.{Return}
use Rattle.definition.specs.Act.{Act, done, End, gave, no_note, ◌>>=◌}
use Rattle.definition.specs.Term.{Term, no_terms, more_terms, eval, node, kids, kid, is}
use Rattle.definition.specs.Evaluate.{Env, did, look, looks, execute}
use Rattle.definition.specs.Statements.{Outcome, Returned, NoReturn, Halted, returned_as, returning, is_named, is_halted, outcome}
use Rattle.hosting.specs.declared.Facts.{Facts}
use Rattle.hosting.specs.declared.Short.{Short}
use Rattle.hosting.specs.declared.Did.{Did}
use Rattle.hosting.specs.Stands.{Stands, stands, Shape, a_leave, a_give, Fine}
use Rattle.hosting.specs.Scene.{given}
use Rattle.hosting.specs.Routine.{returns_as}
use Rattle.hosting.specs.Ending.{ended, end_of, done_of}
use Rattle.hosting.proofs.Shapes.{room, returned_kid}
use Rattle.operations.specs.Going.{ReadyIn, Goes}
use Rattle.operations.proofs.Going.{acts, told, done_goes, remains}
use Rattle.machine.specs.Post.{Evals, Executes}
use Rattle.outcomes.specs.declared.roots.Acts.{Acts}
use Rattle.outcomes.specs.declared.roots.Acts.TheVariants.{Does, Leaves, Gives as Giving, Strays, Halts as Halting}
use Rattle.outcomes.specs.declared.roots.Sort.{Sort}
use Rattle.outcomes.specs.declared.roots.Sort.TheVariants.{Gives, Unreachable, Halts, Plain}
use Rattle.outcomes.specs.Endings.{bind_end, acts_end}
use Rattle.outcomes.specs.Sorts.{sort_of, Sorted}
use Rattle.machine.specs.Statements.{Acting}
use Rattle.outcomes.proofs.SortLaws.{sort_gives, first_kid}
use Rattle.machine.proofs.Running.{then_end}

-- ---- the definition's `outcome` by what the root is

abbrev by_sort : Program → Env → Option ℕ → Term → Sort → Act Outcome
by_sort P E at t Gives = returning P (kids t)
by_sort P E at t Unreachable = done (did no_note, Some (NoReturn at))
by_sort P E at t Halts = done (did no_note, Some (Halted at (node (kid 0 (kids t))).value))
by_sort P E at t Plain = execute E t >>= λ d. done (d, None)

outcome_sort : (P : Program) (E : Env) (at : Option ℕ) (t : Term) → outcome P E at t ≡ by_sort P E at t (sort_of P t)
unfolding outcome
outcome_sort P E at t = go (is Return t) (is_named P t (text "__builtin_unreachable")) (is_halted P t)
  where
    go : (a b c : Bool) → elim a [
      | true ↦ returning P (kids t)
      | false ↦ elim b [
        | true ↦ done (did no_note, Some (NoReturn at))
        | false ↦ elim c [ true ↦ done (did no_note, Some (Halted at (node (kid 0 (kids t))).value)) | false ↦ execute E t >>= λ d. done (d, None) ]
      ]
    ] ≡ by_sort P E at t (elim a [ true ↦ Gives | false ↦ elim b [ true ↦ Unreachable | false ↦ elim c [ true ↦ Halts | false ↦ Plain ] ] ])
    go true b c = refl
    go false true c = refl
    go false false true = refl
    go false false false = refl

-- ---- what a Return has under it

pub record Returning (b : List ℕ) (n : ℕ) (t : Tree) : Type 0 where
  pub given : Tree
  pub spells : Stands b (n + 1) given
  pub only : (E : Env) → kids (look E t) ≡ more_terms (look E given) no_terms

returns_none : {b : List ℕ} {n : ℕ} {t : Tree} (E : Env) → kind_of b n ≡ 16 → span_of b n ≡ 1 → Stands b n t → kids (look E t) ≡ no_terms
unfolding look
returns_none {b} {n} E k s (stands {ts = ts} i h) = under (subst (λ (j : ℕ). Shape b j n ts) k h)
  where
    under : {us : Trees} → Shape b 16 n us → looks E us ≡ no_terms
    under (a_leave e) = refl
    under (a_give l h e) = absurd (omega (arith, l, s))

returns_one : {b : List ℕ} {n : ℕ} {t : Tree} → kind_of b n ≡ 16 → (span_of b n ≡ 1 → ⊥) → Stands b n t → Returning b n t
unfolding look
returns_one {b} {n} k s (stands {ts = ts} i h) = under (subst (λ (j : ℕ). Shape b j n ts) k h)
  where
    under : {us : Trees} → Shape b 16 n us → Returning b n (tree (node_of b n) us)
    under (a_leave e) = absurd (s e)
    under (a_give {a = a} l h e) = record { given = a; spells = h; only = λ E. refl }

-- the value of a Return stands under it
pub give_kid : {b : List ℕ} {n s : ℕ} → kind_of b n ≡ 16 → Fine b n → (s ≡ span_of b n) × (s < 4294967296) → (s ≡ 1 → ⊥) → Fine b (n + 1)
give_kid k f e ne = returned_kid k f refl (λ z. ne (omega (arith, z, e.0)))

-- a sort that was told
pub sorted_as : {b : List ℕ} {f : Facts} {n : ℕ} {s r : Sort} → s ≡ r → Sorted b f n s → Sorted b f n r
sorted_as {b} {f} {n} e h = subst (λ (z : Sort). Sorted b f n z) e h

pub gives_kind : {b : List ℕ} {f : Facts} {n : ℕ} {s : Sort} → Sorted b f n s → s ≡ Gives → kind_of b n ≡ 16
gives_kind so e = (sorted_as e so).here

pub halts_room : {b : List ℕ} {f : Facts} {n : ℕ} {s : Sort} → Sorted b f n s → s ≡ Halts → (n + 1) * 20 + 20 ≤ length b
halts_room so e = room (sorted_as e so).here.0

-- ---- runs

module _ {b symbols regions : List ℕ} {f : Facts} {n : ℕ} {w o : List ℕ} (ready : ReadyIn (given b symbols regions) w) where
  -- what is known without a run
  at_once : {q : Result Acts Short} {s : Sort} (v : Option ℕ → Outcome) → ((at : Option ℕ) → acts_end at q ≡ ended (v at)) → Sorted b f n s
      → ((P : Program) (E : Env) (at : Option ℕ) (t : Tree) → Stands b n t → by_sort P E at (look E t) s ≡ done (v at)) → Acting b symbols regions f n w o q w o
  at_once {q} v e so d = record {
    goes = λ P named at t h.
        acts (λ i x m. outcome_sort P x.env at (look x.env t) ∙ ap (by_sort P x.env at (look x.env t)) (so.is P named x.env t h) ∙ d P x.env at t h) (run at);
    remains = remains (run None) ready;
  }
    where
      run : (at : Option ℕ) → Goes (given b symbols regions) (λ x. done (v at)) w o (acts_end at q) w o
      run at = told (e at) (done_goes (λ x. v at) (λ i x m. refl))

  pub acting_strays : {s : Sort} → Sorted b f n s → s ≡ Unreachable → Acting b symbols regions f n w o (Ok Strays) w o
  acting_strays so q = at_once (λ at. (did no_note, Some (NoReturn at))) (λ at. refl) (sorted_as q so) (λ P E at t h. refl)

  pub acting_halts : {v : ℕ} {s : Sort} → Sorted b f n s → s ≡ Halts → v ≡ value_of b (n + 1) → Acting b symbols regions f n w o (Ok (Halting v)) w o
  acting_halts {v} so' q e =
      let so = sorted_as q so' in
      at_once (λ at. (did no_note, Some (Halted at v))) (λ at. refl) so
      (λ P E at t h. ap (λ (d : Node). done (did no_note, Some (Halted at d.value))) (first_kid E so.here.1 so.here.0 (λ z. omega (arith, z, so.here.2)) h)
      ∙ ap (λ (z : ℕ). done (did no_note, Some (Halted at z))) (sym e))

  pub acting_leaves : {s : ℕ} → kind_of b n ≡ 16 → (s ≡ span_of b n) × (s < 4294967296) → s ≡ 1 → Acting b symbols regions f n w o (Ok Leaves) w o
  unfolding returning
  acting_leaves k e z = at_once (λ at. (did no_note, Some (Returned None))) (λ at. refl) (sort_gives b f n refl (eq-eqb (kind_of b n) 16 k)) (λ P E at t h. ap (returning P) (returns_none E k (sym e.0 ∙ z) h))

-- a value is returned
abbrev gave_end : Option Ty → Val → End Outcome
gave_end returns v = gave (did no_note, Some (Returned (Some (returns_as returns v))))

module _ {b symbols regions : List ℕ} {f : Facts} {n : ℕ} {w₀ o₀ w o : List ℕ} (ready : ReadyIn (given b symbols regions) w₀) where
  -- something is executed
  acting_plain : {q : Result Did Short} {r : Result Acts Short} {s : Sort} → Fine b n → Sorted b f n s → s ≡ Plain → Executes b symbols regions n w₀ o₀ q w o
      → ((at : Option ℕ) → acts_end at r ≡ bind_end (λ d. gave (d, None)) (done_of q)) → Acting b symbols regions f n w₀ o₀ r w o
  acting_plain {q} {r} fn so p x e = record {
    goes = λ P named at t h.
        acts (λ i x m. outcome_sort P x.env at (look x.env t) ∙ ap (by_sort P x.env at (look x.env t)) ((sorted_as p so).is P named x.env t h)) (run at t h);
    remains = remains (run None fn.tree fn.spells) ready;
  }
    where
      run : (at : Option ℕ) (t : Tree) → Stands b n t → Goes (given b symbols regions) (λ x. execute x.env (look x.env t) >>= λ d. done (d, None)) w₀ o₀ (acts_end at r) w o
      run at t h = told (e at) (then_end (λ d. done (d, None)) (λ d. gave (d, None)) (λ d. refl) (done_of q) (x.goes t h))

  pub acting_does : {q : Result Did Short} {d : Did} {s : Sort} → Fine b n → Sorted b f n s → s ≡ Plain → Executes b symbols regions n w₀ o₀ q w o → q ≡ Ok d → Acting b symbols regions f n w₀ o₀ (Ok (Does d)) w o
  acting_does fn so p x e = acting_plain fn so p x (λ at. sym (ap (λ z. bind_end (λ d. gave (d, None)) (done_of z)) e))

  pub acting_fails : {q : Result Did Short} {y : Short} {s : Sort} → Fine b n → Sorted b f n s → s ≡ Plain → Executes b symbols regions n w₀ o₀ q w o → q ≡ Err y → Acting b symbols regions f n w₀ o₀ (Err y) w o
  acting_fails fn so p x e = acting_plain fn so p x (λ at. sym (ap (λ z. bind_end (λ d. gave (d, None)) (done_of z)) e))

  acting_returns : {e : Result Val Short} {r : Result Acts Short} {s : ℕ} → kind_of b n ≡ 16 → Fine b n → (s ≡ span_of b n) × (s < 4294967296) → (s ≡ 1 → ⊥) → Evals b symbols regions (n + 1) w₀ o₀ e w o
      → ((at : Option ℕ) → acts_end at r ≡ bind_end (gave_end f.returns) (end_of e)) → Acting b symbols regions f n w₀ o₀ r w o
  unfolding returning
  acting_returns {e} {r} k fn d ne x q = record {
    goes = λ P named at t h.
        let u = returns_one k (λ z. ne (d.0 ∙ z)) h in
        acts (λ i x m. outcome_sort P x.env at (look x.env t) ∙ ap (by_sort P x.env at (look x.env t)) ((sort_gives b f n refl (eq-eqb (kind_of b n) 16 k)).is P named x.env t h) ∙ ap (returning P) (u.only x.env))
        (run (returned_as P) named.returned at u.given u.spells);
    remains = remains (run (returns_as f.returns) (λ v. refl) None (give_kid k fn d ne).tree (give_kid k fn d ne).spells) ready;
  }
    where
      run : (cast : Val → Val) → ((v : Val) → cast v ≡ returns_as f.returns v) → (at : Option ℕ) (t : Tree) → Stands b (n + 1) t
          → Goes (given b symbols regions) (λ x. eval (look x.env t) >>= λ v. done (did no_note, Some (Returned (Some (cast v))))) w₀ o₀ (acts_end at r) w o
      run cast same at t h =
          told (q at)
          (then_end (λ v. done (did no_note, Some (Returned (Some (cast v))))) (gave_end f.returns)
          (λ v. ap (λ (z : Val). done (did no_note, Some (Returned (Some z)))) (same v)) (end_of e) (x.goes t h))

  pub acting_gives : {e : Result Val Short} {v u : Val} {s : ℕ} → kind_of b n ≡ 16 → Fine b n → (s ≡ span_of b n) × (s < 4294967296) → (s ≡ 1 → ⊥) → Evals b symbols regions (n + 1) w₀ o₀ e w o → e ≡ Ok v
      → u ≡ returns_as f.returns v → Acting b symbols regions f n w₀ o₀ (Ok (Giving u)) w o
  acting_gives k fn d ne x q g =
      acting_returns k fn d ne x (λ at. ap (λ (z : Val). ended (did no_note, Some (Returned (Some z)))) g ∙ sym (ap (λ z. bind_end (gave_end f.returns) (end_of z)) q))

  pub acting_short : {e : Result Val Short} {y : Short} {s : ℕ} → kind_of b n ≡ 16 → Fine b n → (s ≡ span_of b n) × (s < 4294967296) → (s ≡ 1 → ⊥) → Evals b symbols regions (n + 1) w₀ o₀ e w o → e ≡ Err y
      → Acting b symbols regions f n w₀ o₀ (Err y) w o
  acting_short k fn d ne x q = acting_returns k fn d ne x (λ at. sym (ap (λ z. bind_end (gave_end f.returns) (end_of z)) q))
