-- What stands in the bodies of a record, read by place: a value, a step, a stop, a variable. `s` is the body from the first byte of what is read on.
-- Assumes nothing.
use Rattle.std.specs.Prelude.{◌≡◌, Bool, true, false, cond, List, [], ◌∷◌, ℕ, zero, suc, ◌+◌, ◌*◌, ◌≤◌, ◌<◌, length, drop, eqb, Option, None, Some}
use Rattle.layout.specs.Number.{number_at}
use Rattle.layout.specs.Format.{bool_of}
use Rattle.value.specs.declared.Val.{Val}
use Rattle.value.specs.Encoding.{val_at}
use Rattle.files.specs.Program.{flagged}
use Rattle.definition.specs.Act.{Why, branch_unknown, switch_unknown, no_case, struct_to, unknown_address, unknown_value, no_width, store_to, by_zero, Note, no_note, fields_written, value_written, result_unknown, not_followed, Step}
use Rattle.definition.specs.Statements.{Stop, Returned, Steps, Unknown, NoBlock, NoBlocks, NoReturn, Halted}

-- "flag u8, u64"
unfoldable pub address_in : List ℕ → ℕ → Option ℕ
address_in s i = flagged (number_at s i 1) (number_at s (i + 1) 8)

-- ---- a step: address at 0, statement at 13, what it wrote at 17, note at 34, count of taken names at 61

abbrev pub written_if : Bool → ℕ × Val → Option (ℕ × Val)
written_if true w = Some w
written_if false w = None

unfoldable pub wrote_in : List ℕ → Option (ℕ × Val)
wrote_in s = written_if (bool_of (number_at s 17 1)) (number_at s 18 2, val_at s 20)

-- so many names from a place on
unfoldable pub names_in : List ℕ → ℕ → ℕ → List ℕ
names_in s i zero = []
names_in s i (suc n) = number_at s i 2 ∷ names_in s (i + 2) n

unfoldable pub note_in : List ℕ → Note
note_in s =
    let kind = number_at s 34 1 in
    cond (eqb kind 0) no_note
    (cond (eqb kind 1) (fields_written (number_at s 35 8) (number_at s 43 4))
    (cond (eqb kind 2) (value_written (number_at s 35 8) (val_at s 47))
    (cond (eqb kind 3) result_unknown (not_followed (names_in s 63 (number_at s 61 2))))))

unfoldable pub step_in : List ℕ → Step
step_in s = record {
  address = address_in s 0;
  block = number_at s 9 4;
  statement = number_at s 13 4;
  wrote = wrote_in s;
  note = note_in s;
}

unfoldable pub step_size : List ℕ → ℕ
step_size s = 63 + 2 * number_at s 61 2

-- the steps that stand in a body, one after the other; the number bounds how many
unfoldable pub steps_read : ℕ → List ℕ → List Step
steps_read zero s = []
steps_read (suc f) [] = []
steps_read (suc f) (b ∷ s) = step_in (b ∷ s) ∷ steps_read f (drop (step_size (b ∷ s)) (b ∷ s))

-- each has a byte at least
unfoldable pub steps_in : List ℕ → List Step
steps_in s = steps_read (length s) s

-- a step that lies inside, takes at most 16 names and names what is among the first n
pub record StepThere (n : ℕ) (s : List ℕ) : Type 0 where
  pub inside : 63 + 2 * number_at s 61 2 ≤ length s
  pub few : number_at s 61 2 ≤ 16
  pub wrote : (number_at s 17 1 ≡ 0 → ⊥) → number_at s 18 2 < n
  pub taken : (k : ℕ) → k < number_at s 61 2 → number_at s (63 + k * 2) 2 < n

-- ---- a stop: kind at 0, reason at 1, address at 2, number at 11, node at 19, name at 23, value at 25

unfoldable pub why_in : List ℕ → Why
why_in s =
    let reason = number_at s 1 1 in
    let node = number_at s 19 4 in
    cond (eqb reason 1) (branch_unknown node)
    (cond (eqb reason 2) (switch_unknown node)
    (cond (eqb reason 3) (no_case (number_at s 11 8))
    (cond (eqb reason 4) (struct_to node)
    (cond (eqb reason 5) (unknown_address node)
    (cond (eqb reason 6) (unknown_value (number_at s 11 8))
    (cond (eqb reason 7) (no_width (number_at s 23 2))
    (cond (eqb reason 8) (store_to node) by_zero)))))))

unfoldable pub stop_in : List ℕ → Stop
stop_in s =
    let kind = number_at s 0 1 in
    let number = number_at s 11 8 in
    cond (eqb kind 0) (Returned (Some (val_at s 25)))
    (cond (eqb kind 1) (Returned None)
    (cond (eqb kind 2) (Steps number)
    (cond (eqb kind 3) (Unknown (address_in s 2) (why_in s))
    (cond (eqb kind 4) (NoBlock number)
    (cond (eqb kind 5) NoBlocks
    (cond (eqb kind 6) (NoReturn (address_in s 2)) (Halted (address_in s 2) number)))))))

-- a stop that lies inside, and names what is among the first n if its reason is the one that names
pub record StopThere (n : ℕ) (s : List ℕ) : Type 0 where
  pub inside : 39 ≤ length s
  pub named : number_at s 1 1 ≡ 7 → number_at s 23 2 < n

-- ---- a variable: name at 0, value at 2

pub record VariableThere (n : ℕ) (s : List ℕ) : Type 0 where
  pub inside : 16 ≤ length s
  pub named : number_at s 0 2 < n
