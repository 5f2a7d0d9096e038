-- The table of types grows. Assumes nothing.
use mathlib.Core.Path.{◌≡◌, refl, sym, ap, subst, ◌∙◌}
use mathlib.Core.List.{List, [], ◌∷◌}
use Prim.Native.Nat.{ℕ, suc, ◌+◌, ◌≤◌}
use native.Mathlib.Omega.{arith}
use borrow.Author.Count.{below_more}
use lib.ListN.{get_or, drop}
use Rattle.std.specs.Prelude.{Option, None}
use Rattle.value.specs.declared.Ty.{Ty}
use Rattle.spelling.specs.Spelling.{type_of, pointee_of}
use Rattle.files.specs.Program.{texts_in}
use Rattle.index.specs.Texts.{text_count}
use Rattle.index.proofs.TextRest.{left_one, left_none}
use Rattle.workspace.specs.Types.{CodedIf}
use Rattle.workspace.specs.Post.{PutsType}
use Rattle.hosting.specs.Scene.{pointee}
use Rattle.setup.specs.Post.{Spells, Unspelled}
use Rattle.setup.proofs.TypeLaws.{coded_pointed, pointed}
use Rattle.setup.proofs.Following.{kept_then}
use Rattle.setup.proofs.NameSearch.{no_text}

pub coded_pointee : {p : Option Ty} (t : List ℕ) → p ≡ pointee_of t → CodedIf p
coded_pointee t f = subst CodedIf (sym f) (coded_pointed t)

-- one type more: what text i spells
spells_more : {b w₀ w w' t : List ℕ} {i : ℕ} {ty : Ty} {p : Option Ty} → Spells b i w₀ w → t ≡ get_or (texts_in b) i [] → ty ≡ type_of t → p ≡ pointee_of t → PutsType w i ty p w'
    → Spells b (i + 1) w₀ w'
spells_more {t = t} {i} so is e f puts = record {
  kept = kept_then so.kept puts.kept;
  types = below_more _ i (λ j l. puts.types j (λ z. omega arith) ∙ so.types j l) (puts.here ∙ e ∙ ap type_of is);
  pointees = below_more _ i (λ j l. puts.pointees j (λ z. omega arith) ∙ so.pointees j l) (puts.there ∙ f ∙ pointed t ∙ ap pointee is);
  declared = λ x. puts.declared x ∙ so.declared x;
}

-- ---- the types of the texts: the first i are put, and the texts of the others are left

pub record Spelling (b w₀ w rest : List ℕ) (i : ℕ) : Type 0 where
  pub spells : Spells b i w₀ w
  pub left : texts_in rest ≡ drop i (texts_in b)

-- the next text
pub spell_text : {b w₀ w rest w' rest' t : List ℕ} {i : ℕ} {ty : Ty} {p : Option Ty} → Spelling b w₀ w rest i → ty ≡ type_of t → p ≡ pointee_of t → PutsType w i ty p w'
    → texts_in rest ≡ t ∷ texts_in rest' → Spelling b w₀ w' rest' (i + 1)
spell_text {b} {i = i} so e f puts g =
    let here = left_one (texts_in b) i (sym so.left ∙ g) in
    let n : suc i ≡ i + 1 = omega arith in
    record { spells = spells_more so.spells (sym here.1) e f puts; left = sym here.2 ∙ ap (λ (k : ℕ). drop k (texts_in b)) n }

-- ---- the types past them

pub unspelled_more : {m i : ℕ} {w₀ w w' : List ℕ} {ty : Ty} → m ≤ i → Unspelled m i w₀ w → ty ≡ type_of [] → PutsType w i ty None w' → Unspelled m (i + 1) w₀ w'
unspelled_more {i = i} l so e puts = record {
  size = puts.kept.size ∙ so.size;
  spells = λ b w₀ h s. spells_more {t = []} {p = None} (so.spells b w₀ h s) (sym (no_text b i (omega arith))) e refl puts;
}

-- no text is left
pub spell_rest : {b w₀ w rest w' : List ℕ} {i : ℕ} → Spelling b w₀ w rest i → texts_in rest ≡ [] → Unspelled i 512 w w' → Spells b 512 w₀ w'
unfolding text_count
spell_rest {b} {w₀} {i = i} so g rest = rest.spells b w₀ (left_none (texts_in b) i (sym so.left ∙ g)).0 so.spells
