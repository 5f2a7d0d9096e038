-- How far a loop over fields side by side has come: what is still to be done gives the whole. Assumes nothing.
use mathlib.Core.Path.{◌≡◌, refl, ◌∙◌}
use mathlib.Core.Bool.{Bool, true, false}
use mathlib.Core.List.{List}
use Prim.Native.Nat.{ℕ, ◌+◌, ◌≤◌}
use native.Mathlib.Nat.{le_refl}
use native.Mathlib.Omega.{arith}
use Rattle.files.specs.Nodes.{ref_of, value_of}
use Rattle.files.specs.Program.{Trees}
use Rattle.files.specs.Spells.{next}
use Rattle.workspace.specs.Parts.{tables}
use Rattle.workspace.specs.Types.{type_at}
use Rattle.hosting.specs.Scene.{given}
use Rattle.hosting.specs.Stands.{FieldsAt, no_field, a_field, FineFields}
use Rattle.operations.specs.Registers.{result_in, unit_in, how_in}
use Rattle.operations.specs.Going.{ReadyIn, Works}
use Rattle.machine.specs.Post.{Evaluates, StoresFields}
use Rattle.operations.specs.Steps.{store_field}
use Rattle.hosting.proofs.Shapes.{field_inside, field_kid, fields_more}
use Rattle.machine.proofs.Evaluating.{ready_on, how_on}
use Rattle.machine.proofs.Storing.{works_ready, fields_end, fields_short, fields_store, field_short}

-- fields from node n up to node e: the loop is at node i, with these bytes
pub record FieldsSoFar (b s r : List ℕ) (n e address : ℕ) (w₀ o₀ : List ℕ) (i : ℕ) (w o : List ℕ) : Type 0 where
  pub past : n ≤ i
  pub ready : ReadyIn (given b s r) w
  pub how : how_in w ≡ how_in w₀
  pub fine : FineFields b i e
  pub rest : {d : Bool} {w' o' : List ℕ} → StoresFields b s r i e address w o d w' o' → StoresFields b s r n e address w₀ o₀ d w' o'

field_within : {b : List ℕ} {n e : ℕ} {ts : Trees} → FieldsAt b n e ts → n ≤ e
field_within no_field = le_refl _
field_within (a_field lt i k l h z f) = omega (arith, lt)

pub fields_start : {b s r : List ℕ} {n e address : ℕ} {w o : List ℕ} → ReadyIn (given b s r) w → FineFields b n e → FieldsSoFar b s r n e address w o n w o
fields_start p f = record { past = le_refl _; ready = p; how = refl; fine = f; rest = λ k. k }

module _ {b s r : List ℕ} {n e address : ℕ} {w₀ o₀ : List ℕ} {i : ℕ} {w o : List ℕ} (so : FieldsSoFar b s r n e address w₀ o₀ i w o) where
  pub fields_done : e ≤ i → StoresFields b s r n e address w₀ o₀ true w o
  fields_done z = so.rest (fields_end (omega (arith, z, field_within so.fine.spells)))

  module _ (ne : i ≡ e → ⊥) where
    module _ {q : Bool} {w₁ o₁ : List ℕ} (ev : Evaluates b s r (i + 1) w o q w₁ o₁) where
      pub fields_stopped : q ≡ false → StoresFields b s r n e address w₀ o₀ false w₁ o₁
      fields_stopped eq = so.rest (fields_short ne ev eq)

      module _ {w₂ : List ℕ} (eq : q ≡ true) (u : Bool) (st : Works (store_field address (value_of b i) (type_at (tables w₁) (ref_of b i)) (result_in w₁)) w₁ (unit_in u w₂) w₂) where
        pub field_stopped : u ≡ false → StoresFields b s r n e address w₀ o₀ false w₂ o₁
        field_stopped eu = so.rest (field_short ne ev eq u st eu)

        pub fields_next : {m : ℕ} → u ≡ true → m ≡ next b i → FieldsSoFar b s r n e address w₀ o₀ m w₂ o₁
        fields_next eu em = record {
          past = let z = field_inside ne so.fine in omega (arith, so.past, em, z.some);
          ready = works_ready u (ready_on ev so.ready eq (field_kid ne so.fine)) st eu;
          how = (st.goes (given b s r) o₁).how ∙ how_on ev (field_kid ne so.fine) ∙ so.how;
          fine = fields_more ne so.fine em;
          rest = λ k. so.rest (fields_store ne ev eq u st eu em k);
        }
