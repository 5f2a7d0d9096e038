-- A type that is no bool is not changed by a word of sign beside it. Assumes nothing.
use Rattle.std.proofs.Common.{◌≡◌, Bool, true, false, refl}
use Rattle.value.specs.declared.Ty.{Ty}
use Rattle.spelling.specs.Spelling.{beside}

pub kept : (sign : Bool) (t : Ty) → t.boolean ≡ false → t ≡ beside sign t
kept true t h = λ i. record { bits = t.bits; signed = t.signed; boolean = h i }
kept false t h = refl
