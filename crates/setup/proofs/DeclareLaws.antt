-- Variables declared one after another: the last of a name stands. Assumes nothing.
use mathlib.Core.Path.{◌≡◌, refl, sym, ap, ◌∙◌}
use mathlib.Core.List.{List, [], ◌∷◌, ◌++◌}
use Rattle.std.specs.Prelude.{None, Some}
use Prim.Native.Nat.{ℕ, ◌+◌}
use native.Mathlib.Omega.{arith}
use borrow.Author.Tests.{eq-eqb, ne_eqb}
use lib.ListN.{get_or}
use Rattle.value.specs.declared.Ty.{Ty}
use Rattle.spelling.specs.Spelling.{type_of}
use Rattle.memory.proofs.OverlayLaws.{below, equal, above, compared}
use Rattle.files.specs.Program.{Variable, listed, variable_at}
use Rattle.definition.specs.Walk.{declared_in}
use Rattle.workspace.specs.Parts.{tables}
use Rattle.workspace.specs.Types.{declared_at, type_at}
use Rattle.workspace.specs.Post.{Declares}
use Rattle.setup.specs.declared.head.Named.{Named}
use Rattle.setup.specs.Heads.{variables, Reads, Typed}
use Rattle.setup.specs.Post.{DeclaresSome}
use Rattle.setup.proofs.Following.{kept_none, kept_then}
use Rattle.setup.proofs.HeadLaws.{variables_more}

module _ (types : List (List ℕ)) where
  -- one more at the end
  declared_here : (vs : List Variable) (v : Variable) (x : ℕ) → v.name ≡ x → declared_in types (vs ++ (v ∷ [])) x ≡ Some (type_of (get_or types v.type []))
  unfolding declared_in
  declared_here [] v x e = rw (eq-eqb v.name x e, declared_in)
  declared_here (u ∷ vs) v x e = rw (declared_here vs v x e, declared_in)

  declared_other : (vs : List Variable) (v : Variable) (x : ℕ) → (v.name ≡ x → ⊥) → declared_in types (vs ++ (v ∷ [])) x ≡ declared_in types vs x
  unfolding declared_in
  declared_other [] v x e = rw (ne_eqb v.name x e, declared_in)
  declared_other (u ∷ vs) v x e = rw (declared_other vs v x e, declared_in)

pub declare_none : (head w : List ℕ) → DeclaresSome head 0 w w
unfolding declared_in listed
declare_none head w = record { kept = kept_none w; types = λ i. refl; pointees = λ i. refl; declared = λ types typed None x. None x }

pub declare_more : {head w₀ w w' : List ℕ} {k : ℕ} {v : Named} {ty : Ty} → DeclaresSome head k w₀ w → Reads head k v → ty ≡ type_at (tables w) v.ty → Declares w v.name ty w'
    → DeclaresSome head (k + 1) w₀ w'
declare_more {head} {w₀} {w} {w'} {k} {v} {ty} so r e d = record {
  kept = kept_then so.kept d.kept;
  types = λ i. d.types i ∙ so.types i;
  pointees = λ i. d.pointees i ∙ so.pointees i;
  declared = λ types typed nothing x. step types typed nothing x ∙ sym (ap (λ vs. declared_in types vs x) (variables_more head k));
}
  where
    is_type : (types : List (List ℕ)) → Typed types (tables w₀) → ty ≡ type_of (get_or types (variable_at head k).type [])
    is_type types typed = e ∙ so.types v.ty ∙ typed.is v.ty r.typed ∙ ap (λ (i : ℕ). type_of (get_or types i [])) r.type

    step : (types : List (List ℕ)) → Typed types (tables w₀) → ((x : ℕ) → declared_at (tables w₀) x ≡ None) → (x : ℕ) → declared_at (tables w') x ≡ declared_in types (variables head k ++ (variable_at head k ∷ [])) x
    step types typed nothing x =
        elim (compared v.name x) [
          | below l o ↦ other types typed nothing x (λ z. omega arith)
          | equal l o ↦ ap (declared_at (tables w')) (sym l) ∙ d.here ∙ ap Some (is_type types typed) ∙ sym (declared_here types (variables head k) (variable_at head k) x (sym r.name ∙ l))
          | above l o ↦ other types typed nothing x (λ z. omega arith)
        ]
      where
        other : (types : List (List ℕ)) → Typed types (tables w₀) → ((x : ℕ) → declared_at (tables w₀) x ≡ None) → (x : ℕ) → (v.name ≡ x → ⊥) → declared_at (tables w') x ≡ declared_in types (variables head k ++ (variable_at head k ∷ [])) x
        other types typed nothing x n =
            d.others x (λ z. n (sym z)) ∙ so.declared types typed nothing x ∙ sym (declared_other types (variables head k) (variable_at head k) x (λ z. n (r.name ∙ z)))
