-- Nodes side by side: fields and arguments are, and each has one past it. Assumes nothing.
use Rattle.std.proofs.Common.{◌≡◌, ℕ, ◌<◌, List, Some, sym, ap, ◌∙◌, subst, arith}
use Rattle.files.specs.Program.{Trees}
use Rattle.files.specs.Spells.{next}
use Rattle.hosting.specs.Stands.{KidsAt, no_kid, a_kid, FieldsAt, no_field, a_field}
use Rattle.hosting.proofs.Shapes.{inside}
use Rattle.operations.specs.Rows.{Row, row_past, row_node, Steps}
use Rattle.operations.specs.declared.siblings.Siblings.{Siblings}

pub row_of_fields : {b : List ℕ} {n e : ℕ} {ts : Trees} → FieldsAt b n e ts → Row b n e
row_of_fields no_field = row_past (omega arith)
row_of_fields (a_field lt i k l h z f) = row_node i (row_of_fields f)

pub row_of_kids : {b : List ℕ} {n e : ℕ} {ts : Trees} → KidsAt b n e ts → Row b n e
row_of_kids no_kid = row_past (omega arith)
row_of_kids (a_kid lt h f) = row_node (inside h) (row_of_kids f)

row_on : {b : List ℕ} {n e : ℕ} → n < e → Row b n e → Row b (next b n) e
row_on lt (row_past le) = absurd (omega (arith, lt, le))
row_on lt (row_node i r) = r

-- P holds where an iterator over the nodes b up to node e stands
pub record Over (b : List ℕ) (e : ℕ) (P : ℕ → Type 0) (s : Siblings) : Type 0 where
  pub nodes : s.nodes.now ≡ b
  pub end : s.end ≡ e
  pub row : Row s.nodes.now s.at s.end
  pub here : P s.at

-- a step that gives node i
module _ {b : List ℕ} {e : ℕ} {P : ℕ → Type 0} {s : Siblings} (o : Over b e P s) {i : ℕ} {t : Siblings} (st : Steps s (Some i) t) where
  pub over_at : P i
  over_at = subst P (sym st.0) o.here

  pub over_more : i ≡ e → ⊥
  over_more q = omega (arith, st.0, st.1, o.end, q)

  pub over_on : {Q : ℕ → Type 0} → Q (next b i) → Over b e Q t
  over_on {Q} q = record {
    nodes = ap (λ v. v.now) st.4 ∙ o.nodes;
    end = st.3 ∙ o.end;
    row = rw (st.4, st.2, st.3) (row_on st.1 o.row);
    here = subst Q (ap (next b) st.0 ∙ sym (st.2 ∙ ap (λ (v : List ℕ). next v s.at) o.nodes)) q;
  }
