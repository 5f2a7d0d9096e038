-- The text of a value from its parts. Assumes nothing.
use mathlib.Core.Path.{◌≡◌, sym, ap, ◌∙◌}
use mathlib.Core.Bool.{Bool, true, false}
use mathlib.Core.List.{List, [], ◌++◌}
use Prim.Native.Nat.{ℕ, ◌<◌}
use borrow.Author.Tests.{lt-ltb}
use Rattle.layout.specs.Text.{text}
use Rattle.value.specs.declared.Val.{Val}
use Rattle.value.specs.declared.Ty.{Ty}
use Rattle.value.specs.Value.{type_of_val, read_as, meaning}
use Rattle.definition.specs.Numerals.{digits, hexadecimal}
use Rattle.definition.specs.Listing.{integer_text, hex_beside, val_text}

-- ---- the hexadecimal beside it

module _ (n : ℕ) where
  abbrev beside : Bool → List ℕ
  beside t = elim t [ true ↦ text " (" ++ (hexadecimal n ++ text ")") | false ↦ [] ]

  pub beside_wide : 9 < n → text " (0x" ++ (digits 64 16 n ++ text ")") ≡ hex_beside n
  beside_wide h = ap beside (sym (lt-ltb 9 n h))

-- ---- a value

module _ (v : Val) where
  abbrev shown : Bool → List ℕ
  shown t = elim t [ true ↦ integer_text (meaning v) ++ hex_beside v.number | false ↦ text "unknown" ]

  pub value_known : {t : Ty} → t ≡ type_of_val v → v.known ≡ true → integer_text (read_as t v.number) ++ hex_beside v.number ≡ val_text v
  value_known e h = ap (λ (y : Ty). integer_text (read_as y v.number) ++ hex_beside v.number) e ∙ ap shown (sym h)
