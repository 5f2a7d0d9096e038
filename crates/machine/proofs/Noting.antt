-- What a statement that is no Assign does: its value, and a note. Assumes nothing.
use mathlib.Core.Path.{◌≡◌, refl, ap, ap₂, ◌∙◌}
use mathlib.Core.Bool.{Bool, true, false, ◌||◌}
use mathlib.Core.List.{List}
use Prim.Native.Nat.{ℕ}
use lib.Dec.{eqb}
use borrow.Author.Tests.{ne_eqb}
use Rattle.value.specs.declared.Val.{Val}
use native.Mathlib.Omega.{arith}
use Rattle.files.specs.Nodes.{kind_of}
use Rattle.files.proofs.KindLaws.{same_test}
use Rattle.files.specs.declared.kinds.Kind.{Kind}
use Rattle.files.specs.Program.{Tree, kind_numbered, number_of}
use Rattle.files.specs.declared.kinds.Kind.TheVariants.{Assign, Call, Intrinsic}
use Rattle.definition.specs.Act.{Act, done, pending, no_note, ◌>>=◌}
use Rattle.definition.specs.Term.{Term, is, eval}
use Rattle.definition.specs.Evaluate.{Env, Did, did, unknown_note, look, execute}
use Rattle.workspace.specs.Parts.{note_part}
use Rattle.workspace.specs.Note.{pending_in}
use Rattle.hosting.specs.declared.How.{How}
use Rattle.std.specs.Prelude.{Result}
use Rattle.hosting.specs.declared.Short.{Short}
use Rattle.hosting.specs.declared.Did as code
use Rattle.hosting.specs.Scene.{Given, given}
use Rattle.hosting.specs.Stands.{Stands, stands}
use Rattle.hosting.specs.Ending.{ended, end_of, done_of}
use Rattle.operations.specs.Registers.{result_in, end_in, told_end, end_by, short_in}
use Rattle.operations.specs.Going.{Goes}
use Rattle.machine.specs.Post.{Evals, Executes, Evaluates, Assigns}
use Rattle.operations.specs.Steps.{noted, noted_end}
use Rattle.operations.proofs.Going.{done_goes, pending_goes, goes, halts, acts, told}
use Rattle.machine.proofs.Evaluating.{ended_on, short_on}

abbrev noted_act : Bool → Val → Act Did
noted_act true v = pending (λ p. done (did (unknown_note v p)))
noted_act false v = done (did no_note)

execute_other : (E : Env) (t : Term) → is Assign t ≡ false → execute E t ≡ (eval t >>= λ v. noted_act (is Call t || is Intrinsic t) v)
unfolding execute
execute_other E t e = rw (e, execute) (go (is Call t || is Intrinsic t))
  where
    go : (z : Bool) → ◌≡◌ {A = Act Did} (eval t >>= λ v. elim z [ true ↦ pending (λ p. done (did (unknown_note v p))) | false ↦ done (did no_note) ]) (eval t >>= λ v. noted_act z v)
    go true = refl
    go false = refl

noted_goes : {g : How → Given} {w o : List ℕ} (k : ℕ) (v : Val) → Goes g (λ x. noted_act (eqb k 14 || eqb k 15) v) w o (ended (did (noted k v (pending_in (note_part w))))) w o
noted_goes {g} {w} {o} k v = go (eqb k 14 || eqb k 15)
  where
    go : (z : Bool) → Goes g (λ x. noted_act z v) w o (ended (did (elim z [ true ↦ unknown_note v (pending_in (note_part w)) | false ↦ no_note ]))) w o
    go true = pending_goes (λ y. did (unknown_note v y))
    go false = done_goes (λ _. did no_note) (λ _ x h. refl)

module _ {b s r : List ℕ} {n : ℕ} {w₀ o₀ : List ℕ} {q : Bool} {w o : List ℕ} (ev : Evaluates b s r n w₀ o₀ q w o) where
  other_goes : {t : Tree} → (kind_of b n ≡ 13 → ⊥) → Stands b n t → (z : Bool) → q ≡ z → Goes (given b s r) (λ x. execute x.env (look x.env t)) w₀ o₀ (noted_end (kind_of b n) z w) w o
  unfolding look
  other_goes ne (stands {ts = ts} i h) true e = acts (λ _ x _. execute_other x.env _ (ne_eqb _ _ ne)) (goes _ (ended_on ev e (stands i h)) (noted_goes (kind_of b n) (result_in w)))
  other_goes ne (stands {ts = ts} i h) false e = acts (λ _ x _. execute_other x.env _ (ne_eqb _ _ ne)) (halts _ _ (short_on ev e (stands i h)))

-- ---- what the caller is given

module _ {b s r : List ℕ} {n : ℕ} {w₀ o₀ : List ℕ} {q : Bool} {w o : List ℕ} where
  pub gives_evals : {e : Result Val Short} → Evaluates b s r n w₀ o₀ q w o → end_of e ≡ end_in q w → Evals b s r n w₀ o₀ e w o
  gives_evals ev l = record { goes = λ t i. told l (ev.goes t i) }

  pub gives_executes : {d : Result code.Did Short} → Assigns b s r n w₀ o₀ q w o → done_of d ≡ told_end q w → Executes b s r n w₀ o₀ d w o
  gives_executes ev l = record { goes = λ t i. told l (ev.goes t i) }

  pub gives_other : {k : ℕ} {d : Result code.Did Short} → k ≡ kind_of b n → (k ≡ 13 → ⊥) → Evaluates b s r n w₀ o₀ q w o → done_of d ≡ noted_end k q w → Executes b s r n w₀ o₀ d w o
  gives_other {k} ek ne ev l = record { goes = λ t i. told (l ∙ ap (λ (j : ℕ). noted_end j q w) ek) (other_goes ev (λ z. ne (ek ∙ z)) i q refl) }

-- a kind that was read, by its number
pub numbered_noted : (κ : Kind) (k : ℕ) (q : Bool) (w : List ℕ) → κ ≡ kind_numbered k → noted_end (number_of κ) q w ≡ noted_end k q w
numbered_noted κ k q w e =
    ap (λ (j : Kind). noted_end (number_of j) q w) e
    ∙ ap₂ (λ (x y : Bool). end_by q (did (elim (x || y) [ true ↦ unknown_note (result_in w) (pending_in (note_part w)) | false ↦ no_note ])) (short_in w)) (same_test k 14 (omega arith)) (same_test k 15 (omega arith))
