-- What a shape says of the nodes: where the children stand, that they lie in the body, and what fields may be. Assumes nothing.
use mathlib.Core.Path.{◌≡◌, refl, sym, subst, ◌∙◌}
use mathlib.Core.List.{List}
use Prim.Native.Nat.{ℕ, ◌+◌, ◌*◌, ◌≤◌, ◌<◌}
use native.Mathlib.Omega.{arith}
use lib.ListN.{length}
use Rattle.files.specs.Nodes.{kind_of, ref_of, width_of}
use Rattle.files.specs.Program.{Tree, Trees}
use Rattle.files.specs.Spells.{Inside, next, size}
use Rattle.hosting.specs.Stands.{Stands, stands, Shape, a_constant, a_var, a_register, a_text, a_function, an_always, a_never, a_decided, a_cast, a_deref, an_address, a_ternary, a_binary, an_assign, a_call, an_intrinsic, a_leave, a_give, a_struct, a_plain, KidsAt, no_kid, a_kid, FieldsAt, no_field, a_field, Fine, FineKids, FineArgs, FineFields}

-- ---- what stands at a node

pub inside : {b : List ℕ} {n : ℕ} {t : Tree} → Stands b n t → Inside b n
inside (stands i h) = i

pub fine : {b : List ℕ} {n : ℕ} {t : Tree} → Stands b n t → Fine b n
fine {t = t} h = record { tree = t; spells = h; inside = inside h }

pub room : {b : List ℕ} {n : ℕ} → Fine b n → n * 20 + 20 ≤ length b
room f = let i = f.inside in omega (arith, i.some, i.fits)

-- a kind that was read and tested
pub same_kind : {k a b : ℕ} → k ≡ a → k ≡ b → a ≡ b
same_kind p q = sym p ∙ q

-- the children of the node n, of a kind that a test has shown
pub record Kids (b : List ℕ) (k n : ℕ) : Type 0 where
  pub trees : Trees
  pub shape : Shape b k n trees

kids_of' : {b : List ℕ} {n : ℕ} {t : Tree} (k : ℕ) → kind_of b n ≡ k → Stands b n t → Kids b k n
kids_of' {b} {n} k e (stands {ts = ts} i h) = record { trees = ts; shape = subst (λ (j : ℕ). Shape b j n ts) e h }

pub kids_of : {b : List ℕ} {n : ℕ} (k : ℕ) → kind_of b n ≡ k → Fine b n → Kids b k n
kids_of k e f = kids_of' k e f.spells

-- ---- the children of each kind

module _ {b : List ℕ} {n : ℕ} where
  cast_under : {ts : Trees} → Shape b 8 n ts → Fine b (n + 1)
  cast_under (a_cast l h e) = fine h

  pub cast_kid : kind_of b n ≡ 8 → Fine b n → Fine b (n + 1)
  cast_kid k f = cast_under (kids_of 8 k f).shape

  cast_ref : {ts : Trees} → Shape b 8 n ts → ref_of b n < 512
  cast_ref (a_cast l h e) = l

  pub cast_type : kind_of b n ≡ 8 → Fine b n → ref_of b n < 512
  cast_type k f = cast_ref (kids_of 8 k f).shape

  deref_under : {ts : Trees} → Shape b 9 n ts → Fine b (n + 1)
  deref_under (a_deref h e) = fine h

  pub deref_kid : kind_of b n ≡ 9 → Fine b n → Fine b (n + 1)
  deref_kid k f = deref_under (kids_of 9 k f).shape

  address_under : {ts : Trees} → Shape b 10 n ts → Fine b (n + 1)
  address_under (an_address h e) = fine h

  pub address_kid : kind_of b n ≡ 10 → Fine b n → Fine b (n + 1)
  address_kid k f = address_under (kids_of 10 k f).shape

  ternary_one : {ts : Trees} → Shape b 11 n ts → Fine b (n + 1)
  ternary_one (a_ternary h g i e) = fine h

  ternary_two : {ts : Trees} → Shape b 11 n ts → Fine b (next b (n + 1))
  ternary_two (a_ternary h g i e) = fine g

  ternary_three : {ts : Trees} → Shape b 11 n ts → Fine b (next b (next b (n + 1)))
  ternary_three (a_ternary h g i e) = fine i

  pub ternary_first : kind_of b n ≡ 11 → Fine b n → Fine b (n + 1)
  ternary_first k f = ternary_one (kids_of 11 k f).shape

  pub ternary_second : {m : ℕ} → kind_of b n ≡ 11 → Fine b n → m ≡ next b (n + 1) → Fine b m
  ternary_second k f e = subst (Fine b) (sym e) (ternary_two (kids_of 11 k f).shape)

  pub ternary_third : {m l : ℕ} → kind_of b n ≡ 11 → Fine b n → m ≡ next b (n + 1) → l ≡ next b m → Fine b l
  ternary_third k f e d = subst (Fine b) (sym (d ∙ next_same e)) (ternary_three (kids_of 11 k f).shape)
    where
      next_same : {i j : ℕ} → i ≡ j → next b i ≡ next b j
      next_same p = rw p

  binary_one : {ts : Trees} → Shape b 12 n ts → Fine b (n + 1)
  binary_one (a_binary h g e) = fine h

  binary_two : {ts : Trees} → Shape b 12 n ts → Fine b (next b (n + 1))
  binary_two (a_binary h g e) = fine g

  pub binary_left : kind_of b n ≡ 12 → Fine b n → Fine b (n + 1)
  binary_left k f = binary_one (kids_of 12 k f).shape

  pub binary_right : {m : ℕ} → kind_of b n ≡ 12 → Fine b n → m ≡ next b (n + 1) → Fine b m
  binary_right k f e = subst (Fine b) (sym e) (binary_two (kids_of 12 k f).shape)

  assign_one : {ts : Trees} → Shape b 13 n ts → Fine b (n + 1)
  assign_one (an_assign h g e) = fine h

  assign_two : {ts : Trees} → Shape b 13 n ts → Fine b (next b (n + 1))
  assign_two (an_assign h g e) = fine g

  pub assign_left : kind_of b n ≡ 13 → Fine b n → Fine b (n + 1)
  assign_left k f = assign_one (kids_of 13 k f).shape

  pub assign_right : {m : ℕ} → kind_of b n ≡ 13 → Fine b n → m ≡ next b (n + 1) → Fine b m
  assign_right k f e = subst (Fine b) (sym e) (assign_two (kids_of 13 k f).shape)

  callee_under : {ts : Trees} → Shape b 14 n ts → Fine b (n + 1)
  callee_under (a_call h g e) = fine h

  pub call_callee : kind_of b n ≡ 14 → Fine b n → Fine b (n + 1)
  call_callee k f = callee_under (kids_of 14 k f).shape

  args_under : {ts : Trees} → Shape b 14 n ts → FineArgs b (next b (n + 1)) (next b n) 0
  args_under (a_call {ts = ts} h g e) = record { trees = ts; spells = g; room = omega (arith, e) }

  pub call_args : {m e : ℕ} → kind_of b n ≡ 14 → Fine b n → m ≡ next b (n + 1) → e ≡ next b n → FineArgs b m e 0
  call_args k f p q = rw (p, q) (args_under (kids_of 14 k f).shape)

  kids_under : {ts : Trees} → Shape b 15 n ts → FineKids b (n + 1) (next b n)
  kids_under (an_intrinsic {ts = ts} h) = record { trees = ts; spells = h }

  pub intrinsic_kids : {e : ℕ} → kind_of b n ≡ 15 → Fine b n → e ≡ next b n → FineKids b (n + 1) e
  intrinsic_kids k f q = rw q (kids_under (kids_of 15 k f).shape)

  returned_under : {ts : Trees} → Shape b 16 n ts → (next b n ≡ n + 1 → ⊥) → Fine b (n + 1)
  returned_under (a_leave e) ne = absurd (ne (omega (arith, e)))
  returned_under (a_give l h e) ne = fine h

  pub returned_kid : {e : ℕ} → kind_of b n ≡ 16 → Fine b n → e ≡ next b n → (e ≡ n + 1 → ⊥) → Fine b (n + 1)
  returned_kid k f q ne = returned_under (kids_of 16 k f).shape (λ p. ne (q ∙ p))

  fields_under : {ts : Trees} → Shape b 17 n ts → FineFields b (n + 1) (next b n)
  fields_under (a_struct {ts = ts} h) = record { trees = ts; spells = h }

  pub struct_fields : {e : ℕ} → kind_of b n ≡ 17 → Fine b n → e ≡ next b n → FineFields b (n + 1) e
  struct_fields k f q = rw q (fields_under (kids_of 17 k f).shape)

  constant_narrow : {ts : Trees} → Shape b 0 n ts → width_of b n ≤ 8
  constant_narrow (a_constant e l) = l

  pub constant_width : {k : ℕ} → k ≡ kind_of b n → k ≡ 0 → Fine b n → width_of b n ≤ 8
  constant_width p q f = constant_narrow (kids_of 0 (sym p ∙ q) f).shape

  var_below : {ts : Trees} → Shape b 1 n ts → ref_of b n < 512
  var_below (a_var e l) = l

  pub var_name : kind_of b n ≡ 1 → Fine b n → ref_of b n < 512
  var_name k f = var_below (kids_of 1 k f).shape

-- ---- trees side by side

kid_at : {b : List ℕ} {n e : ℕ} {ts : Trees} → (n ≡ e → ⊥) → KidsAt b n e ts → Fine b n
kid_at ne no_kid = absurd (ne refl)
kid_at ne (a_kid lt h k) = fine h

kids_after : {b : List ℕ} {n e : ℕ} {ts : Trees} → (n ≡ e → ⊥) → KidsAt b n e ts → FineKids b (next b n) e
kids_after ne no_kid = absurd (ne refl)
kids_after ne (a_kid {ts = ts} lt h k) = record { trees = ts; spells = k }

args_after : {b : List ℕ} {n e : ℕ} (k : ℕ) {ts : Trees} → (n ≡ e → ⊥) → KidsAt b n e ts → size ts + k ≤ 16 → FineArgs b (next b n) e (k + 1)
unfolding size
args_after k ne no_kid r = absurd (ne refl)
args_after k ne (a_kid {ts = ts} lt h m) r = record { trees = ts; spells = m; room = omega (arith, r) }

args_left : {b : List ℕ} {n e : ℕ} {k : ℕ} {ts : Trees} → (n ≡ e → ⊥) → KidsAt b n e ts → size ts + k ≤ 16 → k < 16
unfolding size
args_left ne no_kid r = absurd (ne refl)
args_left ne (a_kid lt h k) r = omega (arith, r)

field_under : {b : List ℕ} {n e : ℕ} {ts : Trees} → (n ≡ e → ⊥) → FieldsAt b n e ts → Fine b (n + 1)
field_under ne no_field = absurd (ne refl)
field_under ne (a_field lt i k l h z f) = fine h

field_at : {b : List ℕ} {n e : ℕ} {ts : Trees} → (n ≡ e → ⊥) → FieldsAt b n e ts → Inside b n
field_at ne no_field = absurd (ne refl)
field_at ne (a_field lt i k l h z f) = i

field_ref : {b : List ℕ} {n e : ℕ} {ts : Trees} → (n ≡ e → ⊥) → FieldsAt b n e ts → ref_of b n < 512
field_ref ne no_field = absurd (ne refl)
field_ref ne (a_field lt i k l h z f) = l

fields_after : {b : List ℕ} {n e : ℕ} {ts : Trees} → (n ≡ e → ⊥) → FieldsAt b n e ts → FineFields b (next b n) e
fields_after ne no_field = absurd (ne refl)
fields_after ne (a_field {ts = ts} lt i k l h z f) = record { trees = ts; spells = f }

module _ {b : List ℕ} {n e : ℕ} (ne : n ≡ e → ⊥) where
  pub kid_here : FineKids b n e → Fine b n
  kid_here f = kid_at ne f.spells

  pub kids_more : {m : ℕ} → FineKids b n e → m ≡ next b n → FineKids b m e
  kids_more f p = rw p (kids_after ne f.spells)

  pub arg_here : {k : ℕ} → FineArgs b n e k → Fine b n
  arg_here f = kid_at ne f.spells

  pub args_more : {k m : ℕ} → FineArgs b n e k → m ≡ next b n → FineArgs b m e (k + 1)
  args_more {k} f p = rw p (args_after k ne f.spells f.room)

  pub args_few : {k : ℕ} → FineArgs b n e k → k < 16
  args_few f = args_left ne f.spells f.room

  pub field_kid : FineFields b n e → Fine b (n + 1)
  field_kid f = field_under ne f.spells

  pub field_inside : FineFields b n e → Inside b n
  field_inside f = field_at ne f.spells

  pub field_room : FineFields b n e → n * 20 + 20 ≤ length b
  field_room f = let i = field_inside f in omega (arith, i.some, i.fits)

  pub field_type : FineFields b n e → ref_of b n < 512
  field_type f = field_ref ne f.spells

  pub fields_more : {m : ℕ} → FineFields b n e → m ≡ next b n → FineFields b m e
  fields_more f p = rw p (fields_after ne f.spells)

-- ---- a kind that is none of the first 18 is the last

last_shape : {b : List ℕ} {k n : ℕ} {ts : Trees} → Shape b k n ts → (k ≡ 0 → ⊥) → (k ≡ 1 → ⊥) → (k ≡ 2 → ⊥) → (k ≡ 3 → ⊥) → (k ≡ 4 → ⊥) → (k ≡ 5 → ⊥) → (k ≡ 6 → ⊥) → (k ≡ 7 → ⊥) → (k ≡ 8 → ⊥)
    → (k ≡ 9 → ⊥) → (k ≡ 10 → ⊥) → (k ≡ 11 → ⊥) → (k ≡ 12 → ⊥) → (k ≡ 13 → ⊥) → (k ≡ 14 → ⊥) → (k ≡ 15 → ⊥) → (k ≡ 16 → ⊥) → (k ≡ 17 → ⊥) → k ≡ 19
last_shape (a_constant e l) a0 a1 a2 a3 a4 a5 a6 a7 a8 a9 a10 a11 a12 a13 a14 a15 a16 a17 = absurd (a0 refl)
last_shape (a_var e l) a0 a1 a2 a3 a4 a5 a6 a7 a8 a9 a10 a11 a12 a13 a14 a15 a16 a17 = absurd (a1 refl)
last_shape (a_register e) a0 a1 a2 a3 a4 a5 a6 a7 a8 a9 a10 a11 a12 a13 a14 a15 a16 a17 = absurd (a2 refl)
last_shape (a_text e) a0 a1 a2 a3 a4 a5 a6 a7 a8 a9 a10 a11 a12 a13 a14 a15 a16 a17 = absurd (a3 refl)
last_shape (a_function e) a0 a1 a2 a3 a4 a5 a6 a7 a8 a9 a10 a11 a12 a13 a14 a15 a16 a17 = absurd (a4 refl)
last_shape (an_always e) a0 a1 a2 a3 a4 a5 a6 a7 a8 a9 a10 a11 a12 a13 a14 a15 a16 a17 = absurd (a5 refl)
last_shape (a_never e) a0 a1 a2 a3 a4 a5 a6 a7 a8 a9 a10 a11 a12 a13 a14 a15 a16 a17 = absurd (a6 refl)
last_shape (a_decided e) a0 a1 a2 a3 a4 a5 a6 a7 a8 a9 a10 a11 a12 a13 a14 a15 a16 a17 = absurd (a7 refl)
last_shape (a_cast l h e) a0 a1 a2 a3 a4 a5 a6 a7 a8 a9 a10 a11 a12 a13 a14 a15 a16 a17 = absurd (a8 refl)
last_shape (a_deref h e) a0 a1 a2 a3 a4 a5 a6 a7 a8 a9 a10 a11 a12 a13 a14 a15 a16 a17 = absurd (a9 refl)
last_shape (an_address h e) a0 a1 a2 a3 a4 a5 a6 a7 a8 a9 a10 a11 a12 a13 a14 a15 a16 a17 = absurd (a10 refl)
last_shape (a_ternary h g i e) a0 a1 a2 a3 a4 a5 a6 a7 a8 a9 a10 a11 a12 a13 a14 a15 a16 a17 = absurd (a11 refl)
last_shape (a_binary h g e) a0 a1 a2 a3 a4 a5 a6 a7 a8 a9 a10 a11 a12 a13 a14 a15 a16 a17 = absurd (a12 refl)
last_shape (an_assign h g e) a0 a1 a2 a3 a4 a5 a6 a7 a8 a9 a10 a11 a12 a13 a14 a15 a16 a17 = absurd (a13 refl)
last_shape (a_call h g e) a0 a1 a2 a3 a4 a5 a6 a7 a8 a9 a10 a11 a12 a13 a14 a15 a16 a17 = absurd (a14 refl)
last_shape (an_intrinsic h) a0 a1 a2 a3 a4 a5 a6 a7 a8 a9 a10 a11 a12 a13 a14 a15 a16 a17 = absurd (a15 refl)
last_shape (a_leave e) a0 a1 a2 a3 a4 a5 a6 a7 a8 a9 a10 a11 a12 a13 a14 a15 a16 a17 = absurd (a16 refl)
last_shape (a_give l h e) a0 a1 a2 a3 a4 a5 a6 a7 a8 a9 a10 a11 a12 a13 a14 a15 a16 a17 = absurd (a16 refl)
last_shape (a_struct h) a0 a1 a2 a3 a4 a5 a6 a7 a8 a9 a10 a11 a12 a13 a14 a15 a16 a17 = absurd (a17 refl)
last_shape (a_plain e) a0 a1 a2 a3 a4 a5 a6 a7 a8 a9 a10 a11 a12 a13 a14 a15 a16 a17 = refl

pub last_kind : {b : List ℕ} {n : ℕ} {t : Tree} → Stands b n t → (k : ℕ) → k ≡ kind_of b n → (k ≡ 0 → ⊥) → (k ≡ 1 → ⊥) → (k ≡ 2 → ⊥) → (k ≡ 3 → ⊥) → (k ≡ 4 → ⊥) → (k ≡ 5 → ⊥) → (k ≡ 6 → ⊥) → (k ≡ 7 → ⊥) → (k ≡ 8 → ⊥)
    → (k ≡ 9 → ⊥) → (k ≡ 10 → ⊥) → (k ≡ 11 → ⊥) → (k ≡ 12 → ⊥) → (k ≡ 13 → ⊥) → (k ≡ 14 → ⊥) → (k ≡ 15 → ⊥) → (k ≡ 16 → ⊥) → (k ≡ 17 → ⊥) → k ≡ 19
last_kind {b} {n} (stands {ts = ts} i h) k e = last_shape (subst (λ (j : ℕ). Shape b j n ts) (sym e) h)
