-- The codes of types: each type that a spelling names has one, from which it is read again. Assumes nothing.
use mathlib.Core.Path.{◌≡◌, refl, sym, ap, ap₂, ◌∙◌}
use mathlib.Core.Bool.{Bool, true, false, not}
use Rattle.std.specs.Prelude.{Option, None, Some}
use Prim.Native.Nat.{ℕ, zero, suc, ◌+◌, ◌*◌, ◌/◌, ◌%◌, ◌≤◌, ◌<◌}
use native.Mathlib.Omega.{arith}
use mir.Val.{bool_byte}
use lib.Dec.{eqb}
use Rattle.layout.specs.Format.{flag_of, bool_of}
use Rattle.value.specs.declared.Ty.{Ty}
use Rattle.definition.proofs.Fields.{bool_back}
use Rattle.workspace.specs.Types.{code_of, type_of_code, code_if, type_if_code, Coded, CodedIf}
use Rattle.value.proofs.EncodingLaws.{flag_read, flag_written}

-- ---- a code and its type

flag_most : (b : Bool) → flag_of b ≤ 1
flag_most true = omega arith
flag_most false = omega arith

pub code_small : (t : Ty) → Coded t → code_of t < 256
unfolding code_of
code_small t h = omega (arith, flag_most t.signed, flag_most t.boolean, h.most)

code_some : (t : Ty) → Coded t → 0 < code_of t
unfolding code_of
code_some t h = omega (arith, h.whole, h.some)

pub code_back : (t : Ty) → Coded t → type_of_code (code_of t) ≡ t
unfolding code_of type_of_code
code_back t h =
    let c = t.bits + flag_of t.boolean * 2 + flag_of t.signed in
    let f = flag_most t.signed in
    let g = flag_most t.boolean in
    let b : c / 8 * 8 ≡ t.bits = omega (arith, f, g, h.whole) in
    let s : c % 2 ≡ flag_of t.signed = omega (arith, f, h.whole) in
    let d : c / 2 % 2 ≡ flag_of t.boolean = omega (arith, f, g, h.whole) in
    λ i. record { bits = b i; signed = ◌∙◌ (ap bool_of s) (bool_back t.signed) i; boolean = ◌∙◌ (ap bool_of d) (bool_back t.boolean) i }

pub some_code : (c : ℕ) → (c ≡ 0 → ⊥) → type_if_code c ≡ Some (type_of_code c)
unfolding type_if_code
some_code zero h = absurd (h refl)
some_code (suc c) h = refl

pub no_code : (c : ℕ) → c ≡ 0 → type_if_code c ≡ None
unfolding type_if_code
no_code c h = ap type_if_code h

-- a code read
pub coded_none : (n c : ℕ) → c ≡ n → c ≡ 0 → None ≡ type_if_code n
coded_none n c e z = sym (no_code n (sym e ∙ z))

pub coded_some : (n c : ℕ) (t : Ty) → c ≡ n → (c ≡ 0 → ⊥) → t ≡ type_of_code c → Some t ≡ type_if_code n
coded_some n c t e z p = ap Some p ∙ sym (some_code c z) ∙ ap type_if_code e

pub if_small : (o : Option Ty) → CodedIf o → code_if o < 256
unfolding code_if
if_small None h = omega arith
if_small (Some t) h = code_small t h

pub if_back : (o : Option Ty) → CodedIf o → type_if_code (code_if o) ≡ o
unfolding code_if
if_back None h = no_code 0 refl
if_back (Some t) h = some_code (code_of t) (λ e. omega (arith, e, code_some t h)) ∙ ap Some (code_back t h)

-- ---- computed

pub code_made : (t : Ty) → t.bits + bool_byte t.boolean * 2 + bool_byte t.signed ≡ code_of t
unfolding code_of
code_made t = ap₂ (λ (m n : ℕ). t.bits + m * 2 + n) (flag_written t.boolean) (flag_written t.signed)

pub type_made : (c : ℕ) → ◌≡◌ {A = Ty} (record { bits = c / 8 * 8; signed = not (eqb (c % 2) 0); boolean = not (eqb (c / 2 % 2) 0) }) (type_of_code c)
unfolding type_of_code
type_made c = λ i. record { bits = c / 8 * 8; signed = flag_read (c % 2) i; boolean = flag_read (c / 2 % 2) i }

-- what a pointer points at

pub pointed_code : (p : Option Ty) (t : Ty) (c : ℕ) → p ≡ Some t → c ≡ code_of t → c ≡ code_if p
unfolding code_if
pointed_code p t c e k = k ∙ sym (ap code_if e)

pub unpointed_code : (p : Option Ty) → p ≡ None → 0 ≡ code_if p
unfolding code_if
unpointed_code p e = sym (ap code_if e)
