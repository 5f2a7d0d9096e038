-- How far a loop over trees side by side has come: what is still to be done gives the whole. Assumes nothing.
use Rattle.std.specs.Prelude.{Option, None, Some, is_some}
use mathlib.Core.Path.{◌≡◌, refl, ◌∙◌}
use mathlib.Core.Bool.{Bool, true, false}
use mathlib.Core.List.{List}
use Prim.Native.Nat.{ℕ, ◌≤◌}
use native.Mathlib.Nat.{le_refl}
use native.Mathlib.Omega.{arith}
use Rattle.value.specs.declared.Val.{Val}
use Rattle.files.specs.Program.{Trees}
use Rattle.files.specs.Spells.{next}
use Rattle.definition.specs.Term.{nothing}
use Rattle.hosting.specs.Scene.{given}
use Rattle.hosting.specs.Stands.{KidsAt, no_kid, a_kid, FineKids}
use Rattle.operations.specs.Registers.{how_in}
use Rattle.operations.specs.Going.{ReadyIn}
use Rattle.operations.specs.Steps.{Gives, AtHand}
use Rattle.machine.specs.Post.{Evaluates, EvaluatesKids}
use Rattle.hosting.proofs.Shapes.{kid_here, kids_more}
use Rattle.machine.proofs.Ranks.{next_past}
use Rattle.machine.proofs.Evaluating.{Valued, valued_at_hand, valued_as, ready_valued, how_valued, kids_end, kids_evals, kids_short}

-- trees, from node n up to node e: the loop is at node i, with these bytes
pub record KidsSoFar (b s r : List ℕ) (n e : ℕ) (w₀ o₀ : List ℕ) (i : ℕ) (w o : List ℕ) : Type 0 where
  pub past : n ≤ i
  pub ready : ReadyIn (given b s r) w
  pub how : how_in w ≡ how_in w₀
  pub fine : FineKids b i e
  pub rest : {q : Bool} {w' o' : List ℕ} → EvaluatesKids b s r i e w o q w' o' → EvaluatesKids b s r n e w₀ o₀ q w' o'

pub kid_within : {b : List ℕ} {n e : ℕ} {ts : Trees} → KidsAt b n e ts → n ≤ e
kid_within no_kid = le_refl _
kid_within (a_kid lt h k) = omega (arith, lt)

pub kids_start : {b s r : List ℕ} {n e : ℕ} {w o : List ℕ} → ReadyIn (given b s r) w → FineKids b n e → KidsSoFar b s r n e w o n w o
kids_start p f = record { past = le_refl _; ready = p; how = refl; fine = f; rest = λ k. k }

module _ {b s r : List ℕ} {n e : ℕ} {w₀ o₀ : List ℕ} {i : ℕ} {w o : List ℕ} (z : KidsSoFar b s r n e w₀ o₀ i w o) where
  pub kids_done : {q : Bool} {w' : List ℕ} → e ≤ i → Gives w nothing q w' → EvaluatesKids b s r n e w₀ o₀ q w' o
  kids_done h p = z.rest (kids_end (omega (arith, h, kid_within z.fine.spells)) p)

  module _ (ne : i ≡ e → ⊥) where
    kids_on : {v : Val} {w₁ o₁ : List ℕ} {m : ℕ} → Valued b s r i w o v w₁ o₁ → m ≡ next b i → KidsSoFar b s r n e w₀ o₀ m w₁ o₁
    kids_on ev em = record {
      past = omega (arith, z.past, next_past (kid_here ne z.fine) em);
      ready = ready_valued ev z.ready (kid_here ne z.fine);
      how = how_valued ev (kid_here ne z.fine) ∙ z.how;
      fine = kids_more ne z.fine em;
      rest = λ k. z.rest (kids_evals ne ev em k);
    }

    -- a tree whose value is at hand, and one that is evaluated
    pub kids_skipped : (slot : Option Val) {m : ℕ} → AtHand b i w slot → is_some slot ≡ true → m ≡ next b i → KidsSoFar b s r n e w₀ o₀ m w o
    kids_skipped None a h em = cc
    kids_skipped (Some v) a h em = kids_on (valued_at_hand a refl) em

    module _ {p : Bool} {w₁ o₁ : List ℕ} (ev : Evaluates b s r i w o p w₁ o₁) where
      pub kids_next : {m : ℕ} → p ≡ true → m ≡ next b i → KidsSoFar b s r n e w₀ o₀ m w₁ o₁
      kids_next ep em = kids_on (valued_as ev ep refl) em

      pub kids_stopped : p ≡ false → EvaluatesKids b s r n e w₀ o₀ false w₁ o₁
      kids_stopped ep = z.rest (kids_short ne ev ep)
