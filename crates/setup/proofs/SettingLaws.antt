-- Variables set one after another: parameters at the start, where the last of a name stands, and those that are not set at the end, where the first
-- does. Assumes nothing.
use mathlib.Core.Path.{◌≡◌, refl, sym, ap, ap₂, ◌∙◌}
use mathlib.Core.Bool.{Bool, true, false, not}
use mathlib.Core.List.{List, [], ◌∷◌, ◌++◌}
use Rattle.std.specs.Prelude.{Option, None, Some, is_some, slice_get}
use Prim.Native.Nat.{ℕ, ◌+◌}
use lib.ListN.{length, get_or}
use Rattle.value.specs.declared.Ty.{Ty}
use Rattle.value.specs.declared.Val.{Val}
use Rattle.value.specs.Value.{unknown_val}
use Rattle.spelling.specs.Spelling.{type_of}
use Rattle.memory.specs.Overlay.{Overlay, find, store}
use Rattle.files.specs.Program.{Variable, listed, variable_at}
use Rattle.files.proofs.ListedLaws.{length_listed}
use Rattle.definition.specs.Walk.{parameters_set, unset_added}
use Rattle.workspace.specs.Parts.{frame_part, tables}
use Rattle.workspace.specs.Variables.{variables_in}
use Rattle.workspace.specs.Types.{type_at}
use Rattle.workspace.specs.View.{View, view, Changes, setting}
use Rattle.hosting.specs.Setting.{with_variables}
use Rattle.setup.specs.declared.head.Named.{Named}
use Rattle.setup.specs.Heads.{variables, Reads, Typed, argument_if, added_if, adding, starting, ending}
use Rattle.setup.specs.Post.{arguments_in, StartsSome, EndsSome}
use Rattle.setup.proofs.Following.{changes_none, changes_then}
use Rattle.setup.proofs.HeadLaws.{variables_more}

-- ---- one more at the end

added_one : (o : Option Val) (x : ℕ) (t : Ty) (m : Overlay Val) → ◌≡◌ {A = Overlay Val} (elim o [ None ↦ store x (unknown_val t) m | Some v ↦ m ]) (added_if o x t m)
added_one None x t m = refl
added_one (Some v) x t m = refl

module _ (types : List (List ℕ)) where
  abbrev type_text : Variable → Ty
  type_text v = type_of (get_or types v.type [])

  set_last : (vs : List Variable) (v : Variable) (args : List Val) (m : Overlay Val)
      → parameters_set types (vs ++ (v ∷ [])) args m ≡ store v.name (argument_if (slice_get args (length vs)) (type_text v)) (parameters_set types vs args m)
  unfolding parameters_set
  set_last [] v [] m = refl
  set_last [] v (a ∷ args) m = refl
  set_last (u ∷ vs) v [] m = set_last vs v [] _
  set_last (u ∷ vs) v (a ∷ args) m = set_last vs v args _

  added_last : (vs : List Variable) (v : Variable) (m : Overlay Val)
      → unset_added types (vs ++ (v ∷ [])) m ≡ added_if (find v.name (unset_added types vs m)) v.name (type_text v) (unset_added types vs m)
  unfolding unset_added
  added_last [] v m = added_one (find v.name m) v.name (type_text v) m
  added_last (u ∷ vs) v m = added_last vs v _

-- ---- parameters

pub start_none : (head call w : List ℕ) → StartsSome head call 0 w w
unfolding parameters_set listed
start_none head call w = record { size = refl; same = refl; changes = λ types typed. changes_none w _ (λ x. refl) }

-- the type of a variable, as the table spells it
is_type : (types : List (List ℕ)) (w₀ w : List ℕ) {head : List ℕ} {k : ℕ} {v : Named} {ty : Ty} → Reads head k v → ty ≡ type_at (tables w) v.ty → Typed types (tables w₀) → tables w ≡ tables w₀ → ty ≡ type_text types (variable_at head k)
is_type types w₀ w {head} {k} {v} r e typed same =
    e ∙ ap (λ (t : List ℕ). type_at t v.ty) same ∙ typed.is v.ty r.typed ∙ ap (λ (i : ℕ). type_of (get_or types i [])) r.type

pub start_more : {head call w₀ w w' : List ℕ} {k : ℕ} {v : Named} {ty : Ty} {a : Val} → Reads head k v → ty ≡ type_at (tables w) v.ty → StartsSome head call k w₀ w → a ≡ argument_if (slice_get (arguments_in call) k) ty → Changes w (setting v.name a) w' → StartsSome head call (k + 1) w₀ w'
start_more {head} {call} {w₀} {w} {w'} {k} {v} {ty} {a} r e so p c = record {
  size = c.size ∙ so.size;
  same = c.tables ∙ so.same;
  changes = λ types typed. changes_then (starting types head k (arguments_in call)) (setting v.name a) (starting types head (k + 1) (arguments_in call)) (step types typed) (so.changes types typed) c;
}
  where
    last : (types : List (List ℕ)) → Typed types (tables w₀) → (m : Overlay Val) → store v.name a (parameters_set types (variables head k) (arguments_in call) m) ≡ parameters_set types (variables head (k + 1)) (arguments_in call) m
    last types typed m =
        let f = variable_at head k in
        ap₂ (λ (x : ℕ) (z : Val). store x z (parameters_set types (variables head k) (arguments_in call) m)) r.name
        (p ∙ ap₂ (λ (i : ℕ) (t : Ty). argument_if (slice_get (arguments_in call) i) t) (sym (length_listed (variable_at head) 0 k)) (is_type types w₀ w r e typed so.same))
        ∙ sym (ap (λ vs. parameters_set types vs (arguments_in call) m) (variables_more head k) ∙ set_last types (variables head k) f (arguments_in call) m)

    step : (types : List (List ℕ)) → Typed types (tables w₀) → (x : View) → setting v.name a (starting types head k (arguments_in call) x) ≡ starting types head (k + 1) (arguments_in call) x
    step types typed x = ap (λ (m : Overlay Val). with_variables m x) (last types typed x.variables)

-- ---- what was never set

pub end_more : {head w₀ w w' : List ℕ} {k : ℕ} {v : Named} {ty : Ty} → Reads head k v → ty ≡ type_at (tables w) v.ty → EndsSome head k w₀ w → Changes w (adding v.name ty) w' → EndsSome head (k + 1) w₀ w'
end_more {head} {w₀} {w} {w'} {k} {v} {ty} r e so c = record {
  size = c.size ∙ so.size;
  same = c.tables ∙ so.same;
  changes = λ types typed. changes_then (ending types head k) (adding v.name ty) (ending types head (k + 1)) (step types typed) (so.changes types typed) c;
}
  where
    last : (types : List (List ℕ)) → Typed types (tables w₀) → (m : Overlay Val)
        → added_if (find v.name (unset_added types (variables head k) m)) v.name ty (unset_added types (variables head k) m) ≡ unset_added types (variables head (k + 1)) m
    last types typed m =
        let u = unset_added types (variables head k) m in
        ap₂ (λ (x : ℕ) (t : Ty). added_if (find x u) x t u) r.name (is_type types w₀ w r e typed so.same)
        ∙ sym (ap (λ vs. unset_added types vs m) (variables_more head k) ∙ added_last types (variables head k) (variable_at head k) m)

    step : (types : List (List ℕ)) → Typed types (tables w₀) → (x : View) → adding v.name ty (ending types head k x) ≡ ending types head (k + 1) x
    step types typed x = ap (λ (m : Overlay Val). with_variables m x) (last types typed x.variables)

pub end_none : (head w : List ℕ) → EndsSome head 0 w w
unfolding unset_added listed
end_none head w = record { size = refl; same = refl; changes = λ types typed. changes_none w _ (λ x. refl) }

-- ---- one name that may be set

module _ (w : List ℕ) (x : ℕ) (t : Ty) {r : Option Val} (e : r ≡ find x (variables_in (frame_part w))) where
  added_set : (v : Val) → r ≡ Some v → Changes w (adding x t) w
  unfolding view
  added_set v q =
      let o = sym e ∙ q in
      record { holds = λ s. rw o; tables = refl; fit = λ s h. h; size = refl; registers = refl; questions = refl }

  added_unset : {v : Val} {w' : List ℕ} → r ≡ None → v ≡ unknown_val t → Changes w (setting x v) w' → Changes w (adding x t) w'
  unfolding view
  added_unset {v} q p c =
      let o = sym e ∙ q in
      record { holds = λ s. c.holds s ∙ rw (o, p); tables = c.tables; fit = c.fit; size = c.size; registers = c.registers; questions = c.questions }

  -- by the test that none is set
  module _ {b : Bool} (is : is_some r ≡ not b) where
    pub added_else : b ≡ false → Changes w (adding x t) w
    added_else f = go r refl
      where
        go : (o : Option Val) → r ≡ o → Changes w (adding x t) w
        go None q = let h : false ≡ true = sym (ap is_some q) ∙ is ∙ ap not f in cc
        go (Some v) q = added_set v q

    pub added_then : b ≡ true → {v : Val} {w' : List ℕ} → v ≡ unknown_val t → Changes w (setting x v) w' → Changes w (adding x t) w'
    added_then f {v} {w'} p c = go r refl
      where
        go : (o : Option Val) → r ≡ o → Changes w (adding x t) w'
        go None q = added_unset q p c
        go (Some y) q = let h : true ≡ false = sym (ap is_some q) ∙ is ∙ ap not f in cc
