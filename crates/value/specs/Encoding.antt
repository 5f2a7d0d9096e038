-- A value in bytes, as a record has it: "A value is 14 bytes: known u8, signed u8, width in bits u32, number u64". Assumes nothing.
use Rattle.std.specs.Prelude.{ℕ, ◌+◌, ◌^◌, ◌<◌, Bool, List}
use Rattle.layout.specs.Number.{number_at}
use Rattle.layout.specs.Format.{Format, number, flag, pair, via, bool_of}
use Rattle.value.specs.declared.Val.{Val}

abbrev pub value_size : ℕ
value_size = 14

abbrev pub from_val : Val → Bool × (Bool × (ℕ × ℕ))
from_val v = (v.known, (v.signed, (v.bits, v.number)))

abbrev pub to_val : Bool × (Bool × (ℕ × ℕ)) → Val
to_val p = record { known = p.0; signed = p.1.0; bits = p.1.1.0; number = p.1.1.1 }

abbrev pub val : Format Val
val = via from_val to_val (pair flag (pair flag (pair (number 4) (number 8))))

unfoldable pub val_bytes : Val → List ℕ
val_bytes v = val.write v

-- the value whose bytes start at index i; a flag is set where it is not 0
unfoldable pub val_at : List ℕ → ℕ → Val
val_at s i = record {
  known = bool_of (number_at s i 1);
  signed = bool_of (number_at s (i + 1) 1);
  bits = number_at s (i + 2) 4;
  number = number_at s (i + 6) 8;
}

-- a value's fields fit their bytes, as those of the code's values do
pub record Whole (v : Val) : Type 0 where
  pub bits : v.bits < 2 ^ 32
  pub number : v.number < 2 ^ 64
