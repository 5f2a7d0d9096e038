-- Values fit their fields, whatever they are made of. Assumes nothing.
use mathlib.Core.Bool.{Bool, false, cond, ◌&&◌}
use mathlib.Core.List.{List}
use Prim.Native.Nat.{ℕ, ◌^◌, ◌≤◌}
use native.Mathlib.Nat.{mod-lt, lt_of_lt_of_le}
use native.Mathlib.Omega.{arith}
use lib.Dec.{lit<, ltb, eqb}
use lib.Pow.{pow_pos}
use lib.IntN.{ℤ, nat_abs}
use Rattle.layout.proofs.FormatLaws.{Below}
use Rattle.std.specs.Prelude.{Result, Ok, Err}
use Rattle.value.specs.declared.Ty.{Ty}
use Rattle.value.specs.declared.Val.{Val}
use Rattle.value.specs.declared.Operands.{Operands}
use Rattle.value.specs.declared.BinaryOp.{BinaryOp}
use Rattle.value.specs.declared.BinaryOp.TheVariants.{Add, Sub, Mul, Div, Mod, And, Or, Xor, Shl, Shr, Equal, NotEqual, Less, LessEqual, Greater, GreaterEqual, LogicalAnd, LogicalOr}
use Rattle.value.specs.declared.ArithmeticError.{ArithmeticError}
use Rattle.value.specs.declared.ArithmeticError.TheVariants.{DivisionByZero}
use Rattle.value.specs.Width.{width, residue}
use Rattle.value.specs.Value.{type, type_of_val, known_val, unknown_val, convert, as_bool, cast_to, meaning, read_as}
use Rattle.value.specs.Operators.{count_of, operands_of, arithmetic, division, bitwise, truth, order, compared, shift, binary_of}
use Rattle.spelling.specs.Spelling.{type_of}
use Rattle.spelling.proofs.Every.{every}
use Rattle.value.proofs.Pick.{either}
use Rattle.value.proofs.Word.{width_le}
use Rattle.definition.proofs.Fields.{ValFits}
use Rattle.value.proofs.Residue.{residue_lt}

pub record TyIs (t : Ty) : Type 0 where
  pub bits : Below 4 t.bits

pub record ValIs (v : Val) : Type 0 where
  pub fits : ValFits v

-- ---- numbers of a width

pub residue_fits : (bits : ℕ) (z : ℤ) → Below 8 (residue (width bits) z)
residue_fits bits z = lt_of_lt_of_le (residue_lt (width bits) z) (width_le bits)

module _ {t : Ty} (h : TyIs t) where
  pub known_fits : (n : ℕ) → ValIs (known_val n t)
  known_fits n = record { fits = (h.bits, lt_of_lt_of_le (mod-lt n (pow_pos (width t.bits))) (width_le t.bits)) }

  pub unknown_fits : ValIs (unknown_val t)
  unknown_fits = record { fits = (h.bits, lit< tt) }

  convert_fits : (z : ℤ) → ValIs (convert z t)
  convert_fits z = record { fits = (h.bits, residue_fits t.bits z) }

  pub cast_fits : (v : Val) → ValIs (cast_to v t)
  cast_fits v = either ValIs v.known (convert_fits (cond t.boolean (as_bool (meaning v)) (meaning v))) unknown_fits

-- ---- types by their spelling

pub small : {k : ℕ} {s : Bool} → k ≤ 64 → TyIs (type k s)
small h = record { bits = omega (arith, h) }

eight : {s : Bool} → TyIs (type 8 s)
eight = small (omega arith)

pub sixty_four : {s : Bool} → TyIs (type 64 s)
sixty_four = small (omega arith)

pub type_fits : (s : List ℕ) → TyIs (type_of s)
type_fits = every TyIs (record { bits = omega arith }) (λ bits signed w l m. small m)

-- ---- the operators

pub data AnswerIs : Result Val ArithmeticError → Type 0 where
  value_is : {v : Val} → ValIs v → AnswerIs (Ok v)
  no_value : AnswerIs (Err DivisionByZero)

module _ {l r : Val} (hl : ValIs l) (hr : ValIs r) where
  type_of_lem : {v : Val} → ValIs v → TyIs (type_of_val v)
  type_of_lem h = record { bits = h.fits.0 }

  operands_fit : TyIs (operands_of l r).ty
  unfolding operands_of
  operands_fit =
      let t : TyIs (type l.bits (l.signed && r.signed)) = record { bits = hl.fits.0 } in
      either TyIs (ltb r.bits l.bits) (type_of_lem hl) (either TyIs (ltb l.bits r.bits) (type_of_lem hr) t)

  module _ (p : Operands) (h : TyIs p.ty) where
    arithmetic_fits : (f : ℤ → ℤ → ℤ) → ValIs (arithmetic f p)
    unfolding arithmetic
    arithmetic_fits f = either ValIs p.known (convert_fits h (f (read_as p.ty p.a) (read_as p.ty p.b))) (unknown_fits h)

    division_fits : (f : ℤ → ℤ → ℤ) → AnswerIs (division f p)
    unfolding division
    division_fits f = either AnswerIs (eqb (nat_abs (read_as p.ty p.b)) 0) (either AnswerIs p.known no_value (value_is (unknown_fits h))) (value_is (arithmetic_fits f))

    bitwise_fits : (f : ℕ → ℕ → ℕ) → ValIs (bitwise f p)
    unfolding bitwise
    bitwise_fits f = either ValIs p.known (known_fits h (f p.a p.b)) (unknown_fits h)

  truth_fits : (b : Bool) (p : Operands) → ValIs (truth b p)
  unfolding truth
  truth_fits b p = either ValIs p.known (known_fits (eight {s = false}) (cond b 1 0)) (unknown_fits (eight {s = p.ty.signed}))

  order_fits : (f : ℤ → ℤ → Bool) (p : Operands) → ValIs (order f p)
  unfolding order
  order_fits f p = truth_fits _ p

  test_fits : (f : ℕ → ℕ → Bool) (p : Operands) → ValIs (compared f p)
  unfolding compared
  test_fits f p = truth_fits _ p

  shift_fits : (f : ℤ → ℕ → ℤ) → ValIs (shift f l r)
  unfolding shift
  shift_fits f = either ValIs (l.known && r.known) (convert_fits (type_of_lem hl) (f (meaning l) (2 ^ count_of l r))) (unknown_fits (type_of_lem hl))

  pub binary_fits : (o : BinaryOp) → AnswerIs (binary_of o l r)
  unfolding binary_of
  binary_fits Add = value_is (arithmetic_fits _ operands_fit _)
  binary_fits Sub = value_is (arithmetic_fits _ operands_fit _)
  binary_fits Mul = value_is (arithmetic_fits _ operands_fit _)
  binary_fits Div = division_fits _ operands_fit _
  binary_fits Mod = division_fits _ operands_fit _
  binary_fits And = value_is (bitwise_fits _ operands_fit _)
  binary_fits Or = value_is (bitwise_fits _ operands_fit _)
  binary_fits Xor = value_is (bitwise_fits _ operands_fit _)
  binary_fits Shl = value_is (shift_fits _)
  binary_fits Shr = value_is (shift_fits _)
  binary_fits Equal = value_is (test_fits _ _)
  binary_fits NotEqual = value_is (test_fits _ _)
  binary_fits Less = value_is (order_fits _ _)
  binary_fits LessEqual = value_is (order_fits _ _)
  binary_fits Greater = value_is (order_fits _ _)
  binary_fits GreaterEqual = value_is (order_fits _ _)
  binary_fits LogicalAnd = value_is (test_fits _ _)
  binary_fits LogicalOr = value_is (test_fits _ _)
