-- One thing done to a workspace after another. Assumes nothing.
use mathlib.Core.Path.{◌≡◌, refl, ap, ◌∙◌}
use mathlib.Core.List.{List}
use Prim.Native.Nat.{ℕ}
use Rattle.workspace.specs.View.{View, view, Changes}
use Rattle.workspace.specs.Post.{Kept, SameTypes}

pub kept_none : (w : List ℕ) → Kept w w
kept_none w = record { holds = λ s. refl; fit = λ s h. h; size = refl }

pub kept_then : {u v w : List ℕ} → Kept u v → Kept v w → Kept u w
kept_then p q = record { holds = λ s. q.holds s ∙ p.holds s; fit = λ s h. q.fit s (p.fit s h); size = q.size ∙ p.size }

pub types_then : {s t u : List ℕ} → SameTypes s t → SameTypes t u → SameTypes s u
types_then p q = record {
  declared = λ x. q.declared x ∙ p.declared x;
  types = λ i. q.types i ∙ p.types i;
  pointees = λ i. q.pointees i ∙ p.pointees i;
}

pub changes_then : {u v w : List ℕ} (f g h : View → View) → ((x : View) → g (f x) ≡ h x) → Changes u f v → Changes v g w → Changes u h w
changes_then {u} f g h e p q = record {
  holds = λ s. q.holds s ∙ ap g (p.holds s) ∙ e (view u s);
  tables = q.tables ∙ p.tables;
  fit = λ s l. q.fit s (p.fit s l);
  size = q.size ∙ p.size;
  registers = q.registers ∙ p.registers;
  questions = q.questions ∙ p.questions;
}

pub changes_none : (w : List ℕ) (f : View → View) → ((x : View) → x ≡ f x) → Changes w f w
changes_none w f e = record { holds = λ s. e (view w s); tables = refl; fit = λ s h. h; size = refl; registers = refl; questions = refl }
