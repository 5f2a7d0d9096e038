-- A value's bytes: written and read again, and read where the same bytes stand elsewhere. Assumes nothing.
use mathlib.Core.Path.{◌≡◌, refl, sym, ◌∙◌}
use mathlib.Core.Bool.{Bool, true, false}
use mathlib.Core.List.{List}
use Prim.Native.Nat.{ℕ, ◌+◌, ◌≤◌}
use native.Mathlib.Nat.{add-zero}
use native.Mathlib.Omega.{arith}
use lib.ListN.{length}
use lib.Seq.{sets, take_all}
use Rattle.layout.specs.Number.{le, num, number_at}
use Rattle.layout.specs.Format.{flag_of, bool_of}
use Rattle.layout.proofs.NumberLaws.{num_le}
use Rattle.value.specs.declared.Val.{Val}
use Rattle.workspace.specs.Parts.{part}
use Rattle.value.specs.Encoding.{val_bytes, val_at, Whole}
use Rattle.value.proofs.EncodingLaws.{length_val_bytes}
use Rattle.workspace.proofs.PartLaws.{number_same, part_stored}

-- the value of the same 14 bytes
pub val_same : (s t : List ℕ) (i j : ℕ) → part i 14 s ≡ part j 14 t → val_at s i ≡ val_at t j
unfolding val_at
val_same s t i j e =
    let a : number_at s i 1 ≡ number_at t j 1 = rw (add-zero, add-zero) at (number_same s t i j 14 0 1 e (omega arith)) in
    let b = number_same s t i j 14 1 1 e (omega arith) in
    let c = number_same s t i j 14 2 4 e (omega arith) in
    let d = number_same s t i j 14 6 8 e (omega arith) in
    rw (a, b, c, d)

flag_back : (b : Bool) → bool_of (num (le 1 (flag_of b))) ≡ b
flag_back true = refl
flag_back false = refl

val_back : (v : Val) → Whole v → val_at (val_bytes v) 0 ≡ v
unfolding val_at val_bytes number_at
val_back v h =
    let a : bool_of (num (le 1 (flag_of v.known))) ≡ v.known = flag_back v.known in
    let b : bool_of (num (le 1 (flag_of v.signed))) ≡ v.signed = flag_back v.signed in
    let c : num (le 4 v.bits) ≡ v.bits = num_le 4 v.bits h.bits in
    let d : num (le 8 v.number) ≡ v.number = num_le 8 v.number h.number in
    λ i. record { known = a i; signed = b i; bits = c i; number = d i }

-- the value whose bytes are stored, among others
pub val_stored : (s vs : List ℕ) (i d : ℕ) (v : Val) → i + length vs ≤ length s → d + 14 ≤ length vs → part d 14 vs ≡ val_bytes v → Whole v → val_at (sets s i vs) (i + d) ≡ v
val_stored s vs i d v h l e w =
    val_same (sets s i vs) (val_bytes v) (i + d) 0 (part_stored i d 14 s vs h l ∙ e ∙ sym (take_all 14 (val_bytes v) (omega (arith, length_val_bytes v)))) ∙ val_back v w
