-- Each type that a spelling names has a code. Assumes nothing.
use mathlib.Core.Path.{◌≡◌, refl, sym, subst}
use mathlib.Core.Bool.{Bool, true, false, cond}
use mathlib.Core.List.{List, []}
use Rattle.std.specs.Prelude.{Option, None, Some}
use Prim.Native.Nat.{ℕ, ◌≤◌, ◌<◌}
use native.Mathlib.Omega.{arith}
use lib.ListN.{get_or}
use Rattle.value.specs.declared.Ty.{Ty}
use Rattle.spelling.specs.Spelling.{ends_star, before_star, type_of, pointee_of}
use Rattle.spelling.proofs.Every.{every}
use Rattle.definition.specs.Evaluate.{type_or}
use Rattle.workspace.specs.Types.{Coded, CodedIf, pointee_at}
use Rattle.hosting.specs.Scene.{pointee, Narrow}

pub coded : (s : List ℕ) → Coded (type_of s)
coded = every Coded (record { whole = refl; some = omega arith; most = omega arith }) (λ bits signed w l m. record { whole = w; some = l; most = m })

-- a type that is one of a spelling
pub coded_type : {t : Ty} (s : List ℕ) → t ≡ type_of s → Coded t
coded_type s e = subst Coded (sym e) (coded s)

-- what a spelling points at
pub pointed : (s : List ℕ) → pointee_of s ≡ pointee s
pointed s = go (ends_star s) (type_of (before_star s))
  where
    go : (t : Bool) (x : Ty) → cond t (Some x) None ≡ elim t [ true ↦ Some x | false ↦ None ]
    go true x = refl
    go false x = refl

pub coded_pointed : (s : List ℕ) → CodedIf (pointee_of s)
coded_pointed s = go (ends_star s) (type_of (before_star s)) (coded (before_star s))
  where
    go : (t : Bool) (x : Ty) → Coded x → CodedIf (cond t (Some x) None)
    go true x c = c
    go false x c = tt

-- it is no wider than a load can be
narrow_pointee : (s : List ℕ) → (type_or (pointee s)).bits ≤ 64
narrow_pointee s = go (ends_star s) (type_of (before_star s)) (coded (before_star s))
  where
    go : (t : Bool) (x : Ty) → Coded x → (type_or (elim t [ true ↦ Some x | false ↦ None ])).bits ≤ 64
    go true x c = c.most
    go false x c = omega arith

pub narrow : (types : List (List ℕ)) (t : List ℕ) → ((i : ℕ) → i < 512 → pointee_at t i ≡ pointee (get_or types i [])) → Narrow t
narrow types t h = record { narrow = λ i l. subst (λ (o : Option Ty). (type_or o).bits ≤ 64) (sym (h i l)) (narrow_pointee (get_or types i [])) }
