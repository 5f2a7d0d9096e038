-- The lines of a listing. Assumes nothing.
use Rattle.std.specs.Prelude.{List, [], ◌∷◌, ◌++◌, ℕ, zero, suc, length, drop}
use Rattle.value.specs.declared.Val.{Val}
use Rattle.layout.specs.Text.{text}
use Rattle.definition.specs.Numerals.{hexadecimal}
use Rattle.definition.specs.Statements.{Stop}
use Rattle.layout.specs.Number.{number_at}
use Rattle.definition.specs.Record.{body_at}
use Rattle.definition.specs.Listing.{name_text, commas, val_text, step_text, stop_text}
use Rattle.value.specs.Encoding.{val_at}
use Rattle.text.specs.Read.{step_in, step_size, stop_in}

module _ (names : List (List ℕ)) where
  -- names with commas between them
  abbrev pub commaed : List ℕ → List ℕ
  commaed [] = []
  commaed (x ∷ xs) = commas names x xs

  unfoldable pub header_text : (name address : ℕ) → List ℕ
  header_text name address = text "; " ++ (name_text names name ++ (text " at " ++ (hexadecimal address ++ text ": emulated\n")))

  unfoldable pub stop_line : Stop → List ℕ
  stop_line s = text "; " ++ (stop_text names s ++ text "\n")

  unfoldable pub variable_line : ℕ × Val → List ℕ
  variable_line p = text ";   " ++ (name_text names p.0 ++ (text " = " ++ (val_text p.1 ++ text "\n")))

  -- the lines of the steps that stand in a body, one after the other; the first number bounds how many
  unfoldable pub step_lines : ℕ → List ℕ → List ℕ
  step_lines zero s = []
  step_lines (suc f) [] = []
  step_lines (suc f) (b ∷ s) = step_text names (step_in (b ∷ s)) ++ step_lines f (drop (step_size (b ∷ s)) (b ∷ s))

  -- and of the variables
  unfoldable pub variable_lines : ℕ → List ℕ → List ℕ
  variable_lines zero s = []
  variable_lines (suc f) [] = []
  variable_lines (suc f) (b ∷ s) = variable_line (number_at (b ∷ s) 0 2, val_at (b ∷ s) 2) ++ variable_lines f (drop 16 (b ∷ s))

  -- all lines, from the bytes of a record: the header, the steps that its third pair locates, the stop, the variables
  unfoldable pub lines_of : (name address : ℕ) → List ℕ → List ℕ
  lines_of name address r =
      header_text name address
      ++ (step_lines (length (body_at r 2)) (body_at r 2)
      ++ (stop_line (stop_in (body_at r 0)) ++ variable_lines (length (body_at r 3)) (body_at r 3)))
