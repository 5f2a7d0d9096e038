-- The fields of a struct, counted, and told. Assumes nothing.
use Rattle.std.proofs.Common.{◌≡◌, ℕ, ◌≤◌, Bool, List, [], ◌∷◌, length, sym, refl, ap, ◌∙◌, subst, arith}
use Rattle.std.specs.Iterator.{Yields, Drains}
use Rattle.files.specs.Program.{Trees}
use Rattle.files.specs.Spells.{next, size}
use Rattle.definition.specs.Act.{fields_written}
use Rattle.definition.specs.Evaluate.{did}
use Rattle.hosting.specs.Stands.{FieldsAt, no_field, a_field}
use Rattle.operations.specs.declared.siblings.Siblings.{Siblings}
use Rattle.operations.specs.Rows.{Steps}
use Rattle.operations.specs.Steps.{Tells, CountsFields, Builds}

-- ---- counted

counted : {b : List ℕ} (xs : List ℕ) {n e : ℕ} {ts : Trees} (s t : Siblings) → FieldsAt b n e ts → s.nodes.now ≡ b → s.at ≡ n → s.end ≡ e → Yields Steps s xs t → t.end ≤ t.at → length xs ≡ size ts
unfolding size
counted [] s t no_field pb pn pe y z = refl
counted [] s t (a_field lt i k l h m f) pb pn pe y z =
    let le : s.end ≤ s.at = subst (λ (v : Siblings). v.end ≤ v.at) (sym y) z in
    absurd (omega (arith, lt, pn, pe, le))
counted (x ∷ xs) s t no_field pb pn pe y z = absurd (omega (arith, y.1.1, pn, pe))
counted {b} (x ∷ xs) {n} s t (a_field lt i k l h m f) pb pn pe y z =
    let st = y.1 in
    let more = counted xs y.0 t f (ap (λ v. v.now) st.4 ∙ pb) (st.2 ∙ ap (λ (v : List ℕ). next v s.at) pb ∙ ap (next b) pn) (st.3 ∙ pe) y.2 z in
    omega (arith, more)

pub counts_of : {s : Siblings} {k : ℕ} → (xs : List ℕ) × Drains Steps s xs × (k ≡ length xs) → CountsFields s.nodes.now s.at s.end k
counts_of {s} d = record { counts = λ ts f. d.2 ∙ counted d.0 s d.1.1.0 f refl refl refl d.1.1.1 d.1.1.2 }

-- ---- told

pub built_fields : (b : List ℕ) (n e address : ℕ) (w : List ℕ) (k : ℕ) (r : Bool) (w' : List ℕ) → CountsFields b n e k → Tells w (did (fields_written address k)) r w' → Builds b n e address w r w'
built_fields b n e address w k r w' c t = record { tells = λ ts h. subst (λ (j : ℕ). Tells w (did (fields_written address j)) r w') (c.counts ts h) t }
