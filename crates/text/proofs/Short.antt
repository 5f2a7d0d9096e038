-- How long the parts of a line are at most. Assumes nothing.
use mathlib.Core.Path.{◌≡◌, refl, ap}
use mathlib.Core.Bool.{Bool, true, false, cond}
use mathlib.Core.List.{List, [], ◌∷◌, ◌++◌}
use Rattle.std.specs.Prelude.{Option, None, Some}
use Prim.Native.Nat.{ℕ, zero, suc, ◌+◌, ◌-◌, ◌*◌, ◌/◌, ◌%◌, ◌≤◌}
use native.Mathlib.Omega.{arith}
use lib.Dec.{ltb, eqb}
use lib.IntN.{ℤ, pos, negsuc}
use lib.ListN.{length, replicate, length-append, length-replicate}
use Rattle.layout.specs.Text.{text}
use Rattle.value.specs.declared.Val.{Val}
use Rattle.value.specs.Value.{type, read_as, meaning}
use Rattle.value.specs.Encoding.{val_at}
use Rattle.definition.specs.Numerals.{digit, digits, decimal, hexadecimal, padded}
use Rattle.definition.specs.Act.{Why, branch_unknown, switch_unknown, no_case, struct_to, unknown_address, unknown_value, no_width, store_to, by_zero, no_note, fields_written, value_written, result_unknown, not_followed}
use Rattle.definition.specs.Statements.{Stop, Returned, Steps, Unknown, NoBlock, NoBlocks, NoReturn, Halted}
use Rattle.definition.specs.Listing.{integer_text, hex_beside, val_text, name_text, why_text, stopped_text, stop_text, commas, note_text, address_text, wrote_text, step_text}
use Rattle.files.specs.Program.{texts_in}
use Rattle.layout.specs.Number.{number_at}
use Rattle.text.specs.Read.{address_in, names_in, wrote_in, note_in, step_in, StepThere}
use Rattle.text.specs.Lines.{header_text, stop_line, variable_line}
use Rattle.text.proofs.NameLaws.{name_short}

pub digits_short : (k base n : ℕ) → length (digits k base n) ≤ k
unfolding digits
digits_short zero base n = omega arith
digits_short (suc k) base n = go (ltb n base) (digits_short k base (n / base))
  where
    go : (t : Bool) → length (digits k base (n / base)) ≤ k → length {A = ℕ} (elim t [ true ↦ digit n ∷ [] | false ↦ digits k base (n / base) ++ (digit (n % base) ∷ []) ]) ≤ suc k
    go true h = omega arith
    go false h = omega (arith, h, length-append (digits k base (n / base)) (digit (n % base) ∷ []))

padded_short : (ds : List ℕ) → length ds ≤ 64 → length (padded ds) ≤ 64
padded_short ds h = omega (arith, h, length-append (replicate (8 - length ds) 48) ds, length-replicate {A = ℕ} (8 - length ds) 48)

integer_short : (z : ℤ) → length (integer_text z) ≤ 65
integer_short (pos n) = omega (arith, digits_short 64 10 n)
integer_short (negsuc n) = omega (arith, digits_short 64 10 (suc n))

beside_short : (n : ℕ) → length (hex_beside n) ≤ 69
beside_short n = go (ltb 9 n)
  where
    go : (t : Bool) → length {A = ℕ} (elim t [ true ↦ text " (" ++ (hexadecimal n ++ text ")") | false ↦ [] ]) ≤ 69
    go true = omega (arith, digits_short 64 16 n, length-append (digits 64 16 n) (text ")"))
    go false = omega arith

val_short : (v : Val) → length (val_text v) ≤ 134
val_short v = go v.known
  where
    go : (t : Bool) → length {A = ℕ} (elim t [ true ↦ integer_text (meaning v) ++ hex_beside v.number | false ↦ text "unknown" ]) ≤ 134
    go true = omega (arith, integer_short (meaning v), beside_short v.number, length-append (integer_text (meaning v)) (hex_beside v.number))
    go false = omega arith

address_short : (o : Option ℕ) → length (address_text [] o) ≤ 64
address_short None = omega arith
address_short (Some a) = padded_short (digits 64 16 a) (digits_short 64 16 a)

stopped_short : (o : Option ℕ) → length (stopped_text [] o) ≤ 79
stopped_short None = omega arith
stopped_short (Some a) = omega (arith, digits_short 64 16 a, length-append (digits 64 16 a) (text ": "))

-- the names that a step's note tells of are as many as it says, at most 16
names_many : (s : List ℕ) (i n : ℕ) → length (names_in s i n) ≡ n
unfolding names_in
names_many s i zero = refl
names_many s i (suc n) = ap suc (names_many s (i + 2) n)

-- of the names in a body
module _ (b : List ℕ) where
  abbrev names : List (List ℕ)
  names = texts_in b

  wrote_short : (o : Option (ℕ × Val)) → length (wrote_text names o) ≤ 396
  wrote_short None = omega arith
  wrote_short (Some w) = omega (arith, name_short b w.0, val_short w.1, length-append (name_text names w.0) (text " = " ++ val_text w.1))

  commas_short : (x : ℕ) (xs : List ℕ) → length (commas names x xs) ≤ 257 + 257 * length xs
  commas_short x [] = omega (arith, name_short b x)
  commas_short x (y ∷ ys) = omega (arith, name_short b x, commas_short y ys, length-append (name_text names x) (text ", " ++ commas names y ys))

  taken_short : (xs : List ℕ) → length xs ≤ 16 → length (note_text names (not_followed xs)) ≤ 4300
  taken_short [] h = omega arith
  taken_short (x ∷ xs) h = omega (arith, h, commas_short x xs, length-append (commas names x xs) (text " after it"))

  why_short : (x : Why) → length (why_text names x) ≤ 320
  why_short (branch_unknown node) = omega (arith, digits_short 64 10 node, length-append (decimal node) (text " depends on an unknown value"))
  why_short (switch_unknown node) = omega (arith, digits_short 64 10 node, length-append (decimal node) (text " depends on an unknown value"))
  why_short (no_case value) = omega (arith, integer_short (read_as (type 64 true) value))
  why_short (struct_to node) = omega (arith, digits_short 64 10 node)
  why_short (unknown_address node) = omega (arith, digits_short 64 10 node, length-append (decimal node) (text " goes to an unknown address"))
  why_short (unknown_value address) = omega (arith, digits_short 64 16 address)
  why_short (no_width name) = omega (arith, name_short b name, length-append (name_text names name) (text ", whose width the image does not say"))
  why_short (store_to node) = omega (arith, digits_short 64 10 node)
  why_short by_zero = omega arith

  stop_short : (x : Stop) → length (stop_text names x) ≤ 400
  stop_short (Returned None) = omega arith
  stop_short (Returned (Some v)) = omega (arith, val_short v)
  stop_short (Steps limit) = omega (arith, digits_short 64 10 limit, length-append (decimal limit) (text " steps"))
  stop_short (Unknown at x) = omega (arith, stopped_short at, why_short x, length-append (stopped_text names at) (why_text names x))
  stop_short (NoBlock block) = omega (arith, digits_short 64 10 block)
  stop_short NoBlocks = omega arith
  stop_short (NoReturn at) = omega (arith, stopped_short at, length-append (stopped_text names at) (text "the call does not return"))
  stop_short (Halted at target) =
      omega (arith, stopped_short at, digits_short 64 16 target, length-append (stopped_text names at) (hexadecimal target ++ text " is not analyzed"), length-append (digits 64 16 target) (text " is not analyzed"))

  -- ---- the lines

  pub header_short : (name address : ℕ) → length (header_text names name address) ≤ 8192
  unfolding header_text
  header_short name address =
      omega (arith, name_short b name, digits_short 64 16 address, length-append (name_text names name) (text " at " ++ (hexadecimal address ++ text ": emulated\n")), length-append (digits 64 16 address) (text ": emulated\n"))

  pub stop_line_short : (x : Stop) → length (stop_line names x) ≤ 8192
  unfolding stop_line
  stop_line_short x = omega (arith, stop_short x, length-append (stop_text names x) (text "\n"))

  pub variable_short : (p : ℕ × Val) → length (variable_line names p) ≤ 8192
  unfolding variable_line
  variable_short p =
      omega (arith, name_short b p.0, val_short p.1, length-append (name_text names p.0) (text " = " ++ (val_text p.1 ++ text "\n")), length-append (val_text p.1) (text "\n"))

  note_short : (a b c d : Bool) (x y z : ℕ) (v : Val) (ns : List ℕ) → length ns ≤ 16
      → length (note_text names (cond a no_note (cond b (fields_written x y) (cond c (value_written z v) (cond d result_unknown (not_followed ns)))))) ≤ 4300
  note_short true b c d x y z v ns h = omega arith
  note_short false true c d x y z v ns h = omega (arith, digits_short 64 10 y, digits_short 64 16 x, length-append (decimal y) (text " fields at " ++ hexadecimal x))
  note_short false false true d x y z v ns h = omega (arith, val_short v, digits_short 64 16 z, length-append (val_text v) (text " at " ++ hexadecimal z))
  note_short false false false true x y z v ns h = omega arith
  note_short false false false false x y z v ns h = taken_short ns h

  note_in_short : (s : List ℕ) → number_at s 61 2 ≤ 16 → length (note_text names (note_in s)) ≤ 4300
  unfolding note_in
  note_in_short s h =
      let k = number_at s 34 1 in
      note_short (eqb k 0) (eqb k 1) (eqb k 2) (eqb k 3) (number_at s 35 8) (number_at s 43 4) (number_at s 35 8) (val_at s 47) (names_in s 63 (number_at s 61 2))
      (omega (arith, names_many s 63 (number_at s 61 2), h))

  pub step_short : {n : ℕ} (s : List ℕ) → StepThere n s → length (step_text names (step_in s)) ≤ 8192
  unfolding step_in
  step_short s t =
      let a = address_text [] (address_in s 0) in
      let d = decimal (number_at s 13 4) in
      let w = wrote_text names (wrote_in s) in
      let m = note_text names (note_in s) in
      omega (
        arith,
        address_short (address_in s 0),
        digits_short 64 10 (number_at s 13 4),
        wrote_short (wrote_in s),
        note_in_short s t.few,
        length-append a (text "  " ++ (d ++ (w ++ (m ++ text "\n")))),
        length-append d (w ++ (m ++ text "\n")),
        length-append w (m ++ text "\n"),
        length-append m (text "\n"),
      )

pub refusal_short : (n : ℕ) → length (text "; refused " ++ (decimal n ++ text "\n")) ≤ 8192
refusal_short n = omega (arith, digits_short 64 10 n, length-append (decimal n) (text "\n"))
