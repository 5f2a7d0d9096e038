-- What the registers say: the counts of a run, how it goes, and what an evaluation came to. Assumes nothing.
use Rattle.std.specs.Prelude.{ℕ, zero, suc, Bool, true, false, List, Option, None, Some}
use Rattle.layout.specs.Format.{bool_of}
use Rattle.value.specs.declared.Val.{Val}
use Rattle.definition.specs.Act.{no_note, fields_written, value_written}
use Rattle.definition.specs.Evaluate.{Did, did}
use Rattle.workspace.specs.Parts.{registers_part}
use Rattle.workspace.specs.Registers.{word_at, value_at}
use Rattle.hosting.specs.declared.Counts.{Counts}
use Rattle.hosting.specs.declared.How.{How}
use Rattle.stream.specs.declared.Reason.{Reason}
use Rattle.stream.specs.Bodies.{reason_at}
use Rattle.hosting.specs.declared.Short.{Short}
use Rattle.hosting.specs.declared.Short.TheVariants.{Full, Why}
use Rattle.operations.specs.declared.results.Told.{Told}
use Rattle.operations.specs.declared.results.Told.TheVariants.{Wrote, Fields, Written}
use Rattle.hosting.specs.Ending.{Ending, ended, short, short_of}

-- of the workspace w
unfoldable pub counts_in : List ℕ → Counts
counts_in w = record {
  stored = word_at (registers_part w) 0;
  tally = record {
    recorded = word_at (registers_part w) 1;
    asked = word_at (registers_part w) 2;
    left = word_at (registers_part w) 3;
    entered = word_at (registers_part w) 4;
    steps = word_at (registers_part w) 5;
  };
}

-- the units that are left, and those spent on blocks and on statements
pub record Units : Type 0 where
  pub left : ℕ
  pub entered : ℕ
  pub steps : ℕ

abbrev pub units_of : Counts → Units
units_of a = record { left = a.tally.left; entered = a.tally.entered; steps = a.tally.steps }

-- the counts with other units
abbrev pub with_units : Units → Counts → Counts
with_units u a = record { stored = a.stored; tally = record { recorded = a.tally.recorded; asked = a.tally.asked; left = u.left; entered = u.entered; steps = u.steps } }

unfoldable pub how_in : List ℕ → How
how_in w = record { depth = word_at (registers_part w) 6; regions = word_at (registers_part w) 7; second = bool_of (word_at (registers_part w) 8) }

-- by a reason, or none where the workspace is full
abbrev pub short_at : Option Reason → ℕ → Short
short_at None n = Full
short_at (Some r) n = Why r n

unfoldable pub short_in : List ℕ → Short
short_in w = short_at (reason_at (word_at (registers_part w) 9)) (word_at (registers_part w) 10)

-- the value that an evaluation gave
unfoldable pub result_in : List ℕ → Val
result_in w = value_at (registers_part w) 0

-- ---- what an Assign told

abbrev pub told_at : ℕ → Told
told_at zero = Wrote
told_at (suc zero) = Fields
told_at (suc (suc k)) = Written

unfoldable pub kind_in : List ℕ → Told
kind_in w = told_at (word_at (registers_part w) 11)

abbrev pub did_write : ℕ → Val → Did
did_write x v = record { wrote = Some (x, v); note = no_note }

abbrev pub did_by : Told → ℕ → ℕ → Val → Did
did_by Wrote x n v = did_write x v
did_by Fields x n v = did (fields_written x n)
did_by Written x n v = did (value_written x v)

-- with the fields that the registers have
abbrev pub did_in : List ℕ → Told → ℕ → Val → Did
did_in w k x v = did_by k x (word_at (registers_part w) 13) v

unfoldable pub told_in : List ℕ → Did
told_in w = did_by (told_at (word_at (registers_part w) 11)) (word_at (registers_part w) 12) (word_at (registers_part w) 13) (value_at (registers_part w) 1)

-- ---- with what an evaluation, an Assign, or a store ended, by what the function gave

abbrev pub end_by : {A : Type 0} → Bool → A → Short → Ending A
end_by true a s = ended a
end_by false a s = short (short_of s)

abbrev pub end_in : Bool → List ℕ → Ending Val
end_in r w = end_by r (result_in w) (short_in w)

abbrev pub told_end : Bool → List ℕ → Ending Did
told_end r w = end_by r (told_in w) (short_in w)

abbrev pub unit_in : Bool → List ℕ → Ending (Unit {0})
unit_in r w = end_by r tt (short_in w)
