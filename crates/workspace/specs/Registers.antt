-- The registers, in which an evaluation hands on what it came to: words of 8 bytes, then two places of 16 for a value. Assumes nothing.
use Rattle.std.specs.Prelude.{List, ℕ, ◌+◌, ◌*◌}
use Rattle.layout.specs.Number.{number_at}
use Rattle.value.specs.declared.Val.{Val}
use Rattle.value.specs.Encoding.{val_at}

abbrev pub word_count : ℕ
word_count = 14

-- where the values stand, behind the words
abbrev pub values_place : ℕ
values_place = word_count * 8

-- of the registers' part r
unfoldable pub word_at : List ℕ → ℕ → ℕ
word_at r k = number_at r (k * 8) 8

unfoldable pub value_at : List ℕ → ℕ → Val
value_at r k = val_at r (values_place + k * 16)
