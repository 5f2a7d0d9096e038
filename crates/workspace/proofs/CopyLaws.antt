-- The variables copied out one slot after another, as a record's body has them. Assumes nothing.
use mathlib.Core.Path.{◌≡◌, refl, sym, ap, ap₂, ◌∙◌}
use mathlib.Core.List.{List, [], ◌∷◌, ◌++◌}
use mathlib.Core.Bool.{Bool, cond}
use Rattle.std.specs.Prelude.{Option, None, Some, is_some, filter}
use Rattle.std.specs.List.{range_with_len}
use Prim.Native.Nat.{ℕ, zero, suc, ◌+◌, ◌-◌, ◌*◌, ◌≤◌, ◌<◌}
use native.Mathlib.Nat.{zero-add, add-zero}
use native.Mathlib.Numerals.{add-one}
use native.Mathlib.Omega.{arith}
use lib.ListN.{length, drop, length-append, length-drop}
use lib.Seq.{sets, sets-eq, length-sets, take_at, drop_at, drop-drop}
use Rattle.layout.specs.Number.{le, put_number}
use Rattle.layout.specs.Format.{number, pair}
use Rattle.layout.proofs.StoreLaws.{sets_append}
use Rattle.layout.proofs.FormatLaws.{writes_append}
use Rattle.value.specs.declared.Val.{Val}
use Rattle.memory.specs.Overlay.{Overlay, find}
use Rattle.workspace.specs.Parts.{frame_part}
use Rattle.value.specs.Encoding.{val_bytes, val}
use Rattle.definition.specs.Record.{variables_body}
use Rattle.workspace.specs.Variables.{name_limit, slot_at, entry_if, those, variables_in, variable_at, variable_size}
use Rattle.workspace.specs.Post.{PutsVariables}
use Rattle.workspace.proofs.VariableLaws.{those_more}
use Rattle.workspace.proofs.FrameLaws.{variables_find}

-- ---- the body's bytes

pub length_body : (m : Overlay Val) → length (variables_body m) ≡ length m * variable_size
unfolding variables_body
length_body [] = refl
length_body (p ∷ m) = omega (arith, length_body m)

body_append : (l m : Overlay Val) → variables_body (l ++ m) ≡ variables_body l ++ variables_body m
unfolding variables_body
body_append l m = writes_append (pair (number 2) val) l m

body_one : (x : ℕ) (v : Val) → variables_body ((x, v) ∷ []) ≡ le 2 x ++ val_bytes v
unfolding variables_body val_bytes
body_one x v = refl

-- ---- the variables of the names before x, and of the next

-- of the frame f, those of the first n names
abbrev pub before : List ℕ → ℕ → Overlay Val
before f n = those (slot_at f) 0 n

pub before_next : (f : List ℕ) (x : ℕ) → before f (x + 1) ≡ before f x ++ variable_at f x
before_next f x = rw (add-one) (those_more (slot_at f) 0 x ∙ ap (λ (k : ℕ). before f x ++ variable_at f k) (zero-add x))

pub before_start : (f : List ℕ) → before f 0 ≡ []
unfolding those
before_start f = refl

pub length_next : (f : List ℕ) (x : ℕ) → length (before f (x + 1)) ≡ length (before f x) + length (variable_at f x)
length_next f x = ap length (before_next f x) ∙ length-append (before f x) (variable_at f x)

-- no fewer with more names
pub before_grows : (f : List ℕ) (x k : ℕ) → length (before f x) ≤ length (before f (x + k))
before_grows f x zero = rw add-zero (omega arith)
before_grows f x (suc k) =
    let e : x + suc k ≡ x + k + 1 = omega arith in
    rw e (omega (arith, before_grows f x k, length_next f (x + k)))

pub before_all : (f : List ℕ) → before f name_limit ≡ variables_in f
unfolding variables_in
before_all f = refl

pub before_within : (f : List ℕ) (x : ℕ) → x ≤ name_limit → length (before f x) ≤ length (variables_in f)
before_within f x h =
    let e : x + (name_limit - x) ≡ name_limit = omega arith in
    omega (arith, before_grows f x (name_limit - x), ap (λ (k : ℕ). length (before f k)) e, ap length (before_all f))

-- ---- what a slot says

module _ (w : List ℕ) (x : ℕ) (r : Option Val) (few : x < name_limit) (read : r ≡ find x (variables_in (frame_part w))) where
  slot_is : slot_at (frame_part w) x ≡ r
  slot_is = sym (read ∙ variables_find (frame_part w) x few)

  set_at : (v : Val) → r ≡ Some v → variable_at (frame_part w) x ≡ (x, v) ∷ []
  set_at v e = ap (λ (o : Option Val). entry_if x o []) (slot_is ∙ e)

  unset_at : r ≡ None → variable_at (frame_part w) x ≡ []
  unset_at e = ap (λ (o : Option Val). entry_if x o []) (slot_is ∙ e)

  -- a variable that is set is copied
  pub put_room : (v : Val) (out : List ℕ) (at : ℕ) → r ≡ Some v → at + length (variable_at (frame_part w) x) * variable_size ≤ length out → at + variable_size ≤ length out
  put_room v out at e h = omega (arith, h, ap length (set_at v e))

  pub puts_set : (v : Val) (out out' : List ℕ) (at : ℕ) → r ≡ Some v → out' ≡ sets out at (variables_body ((x, v) ∷ [])) → PutsVariables (variable_at (frame_part w) x) out at out' (at + variable_size)
  puts_set v out out' at e b = rw (set_at v e) (record { bytes = b; place = omega arith })

  pub puts_unset : (out : List ℕ) (at : ℕ) → r ≡ None → PutsVariables (variable_at (frame_part w) x) out at out at
  unfolding variables_body
  puts_unset out at e = rw (unset_at e) (record { bytes = refl; place = omega arith })

-- its name and its value
pub variable_put : (out t out' : List ℕ) (at x : ℕ) (v : Val) → t ≡ put_number out at 2 x → out' ≡ sets t (at + 2) (val_bytes v) → out' ≡ sets out at (variables_body ((x, v) ∷ []))
unfolding put_number
variable_put out t out' at x v p q = q ∙ ap (λ (l : List ℕ). sets l (at + 2) (val_bytes v)) p ∙ sym (ap (sets out at) (body_one x v) ∙ sets_append (le 2 x) (val_bytes v) out at)

-- ---- the variables of the first names are copied

-- bytes stored after others
sets_after : (a b s : List ℕ) (n : ℕ) → n ≡ length a → n + length b ≤ length s → sets (a ++ drop n s) n b ≡ a ++ b ++ drop (n + length b) s
sets_after a b s n e h =
    let l : n + length b ≤ length (a ++ drop n s) = rw (length-append, length-drop) (omega (arith, e)) in
    sets-eq b (a ++ drop n s) n l
    ∙ ap₂ (λ (x y : List ℕ). x ++ b ++ y) (take_at a (drop n s) n (sym e))
    (sym (drop-drop (length b) n (a ++ drop n s)) ∙ ap (drop (length b)) (drop_at a (drop n s) n (sym e)) ∙ drop-drop (length b) n s)

pub record Copying (f out₀ out : List ℕ) (at x : ℕ) : Type 0 where
  pub few : x ≤ name_limit
  pub place : at ≡ length (before f x) * variable_size
  pub bytes : out ≡ variables_body (before f x) ++ drop at out₀
  pub size : length out ≡ length out₀

pub copy_start : (f out : List ℕ) → Copying f out out 0 0
unfolding variables_body
copy_start f out = record { few = omega arith; place = rw (before_start f); bytes = rw (before_start f); size = refl }

module _ (f out₀ out : List ℕ) (at x : ℕ) (i : Copying f out₀ out at x) where
  pub copy_room : x < name_limit → length (variables_in f) * variable_size ≤ length out₀ → at + length (variable_at f x) * variable_size ≤ length out
  copy_room h l = omega (arith, i.place, i.size, before_within f (x + 1) (omega arith), length_next f x)

  pub copy_more : (out' : List ℕ) (next : ℕ) → x < name_limit → length (variables_in f) * variable_size ≤ length out₀ → PutsVariables (variable_at f x) out at out' next → Copying f out₀ out' next (x + 1)
  copy_more out' next h l p = record {
    few = omega arith;
    place = omega (arith, p.place, i.place, length_next f x);
    bytes =
        let b = variables_body (variable_at f x) in
        let n : next ≡ at + length b = p.place ∙ ap (λ (k : ℕ). at + k) (sym (length_body (variable_at f x))) in
        let e : at ≡ length (variables_body (before f x)) = i.place ∙ sym (length_body (before f x)) in
        p.bytes ∙ ap (λ (o : List ℕ). sets o at b) i.bytes
        ∙ sets_after (variables_body (before f x)) b out₀ at e (omega (arith, copy_room h l, i.size, length_body (variable_at f x)))
        ∙ ap₂ (λ (y : List ℕ) (k : ℕ). y ++ drop k out₀) (sym (ap variables_body (before_next f x) ∙ body_append (before f x) (variable_at f x))) (sym n);
    size = ap length p.bytes ∙ length-sets out at (variables_body (variable_at f x)) ∙ i.size;
  }

  pub copy_done : name_limit ≤ x → out ≡ variables_body (variables_in f) ++ drop (length (variables_in f) * variable_size) out₀
  copy_done h =
      let e : x ≡ name_limit = omega (arith, i.few) in
      let b : before f x ≡ variables_in f = ap (before f) e ∙ before_all f in
      i.bytes ∙ ap₂ (λ (m : Overlay Val) (k : ℕ). variables_body m ++ drop k out₀) b (i.place ∙ ap (λ (m : Overlay Val). length m * variable_size) b)

-- ---- the variables that are set, counted

-- whether the variable x of the frame f is set
abbrev pub is_set : List ℕ → ℕ → Bool
is_set f x = is_some (find x (variables_in f))

set_from : (f : List ℕ) (x n : ℕ) → x + n ≤ name_limit → length (filter (is_set f) (range_with_len x n)) ≡ length (those (slot_at f) x n)
unfolding those
set_from f x zero h = refl
set_from f x (suc n) h =
    let r = filter (is_set f) (range_with_len (x + 1) n) in
    let more : length r ≡ length (those (slot_at f) (suc x) n) = rw add-one (set_from f (suc x) n (omega arith)) in
    go (slot_at f x) (variables_find f x (omega arith)) more
  where
    go : (o : Option Val) → find x (variables_in f) ≡ o → length (filter (is_set f) (range_with_len (x + 1) n)) ≡ length (those (slot_at f) (suc x) n)
        → length (filter (is_set f) (range_with_len x (suc n))) ≡ length (entry_if x o (those (slot_at f) (suc x) n))
    go None e more = ap (λ (b : Bool). length (cond b (x ∷ filter (is_set f) (range_with_len (x + 1) n)) (filter (is_set f) (range_with_len (x + 1) n)))) (ap is_some e) ∙ more
    go (Some v) e more = ap (λ (b : Bool). length (cond b (x ∷ filter (is_set f) (range_with_len (x + 1) n)) (filter (is_set f) (range_with_len (x + 1) n)))) (ap is_some e) ∙ ap suc more

pub set_all : (f : List ℕ) → length (filter (is_set f) (range_with_len 0 name_limit)) ≡ length (variables_in f)
unfolding variables_in
set_all f = set_from f 0 name_limit (omega arith)
