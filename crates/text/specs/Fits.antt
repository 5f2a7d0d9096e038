-- What the fields of a record hold: the record of a run of which this is true is read back as it was. n is how many names there are. Assumes nothing.
use Rattle.std.specs.Prelude.{ℕ, ◌≤◌, ◌<◌, length, Option, None, Some}
use Rattle.layout.specs.Each.{Each}
use Rattle.layout.proofs.FormatLaws.{Below}
use Rattle.value.specs.declared.Val.{Val}
use Rattle.definition.specs.Act.{Why, branch_unknown, switch_unknown, no_case, struct_to, unknown_address, unknown_value, no_width, store_to, by_zero, Note, no_note, fields_written, value_written, result_unknown, not_followed, Step}
use Rattle.definition.specs.Statements.{Stop, Returned, Steps, Unknown, NoBlock, NoBlocks, NoReturn, Halted}
use Rattle.definition.specs.Record.{Ran}
use Rattle.definition.proofs.Fields.{OptionFits, ValFits}

module _ (n : ℕ) where
  abbrev pub WroteFits : Option (ℕ × Val) → Type 0
  WroteFits None = Unit
  WroteFits (Some w) = (w.0 < n) × ValFits w.1

  -- "at most 16" arguments, so at most as many names taken
  abbrev pub NoteFits : Note → Type 0
  NoteFits no_note = Unit
  NoteFits (fields_written address count) = Below 8 address × Below 4 count
  NoteFits (value_written address v) = Below 8 address × ValFits v
  NoteFits result_unknown = Unit
  NoteFits (not_followed taken) = (length taken ≤ 16) × Each (λ x. x < n) taken

  pub record StepFits (s : Step) : Type 0 where
    pub address : OptionFits s.address
    pub block : Below 4 s.block
    pub statement : Below 4 s.statement
    pub wrote : WroteFits s.wrote
    pub note : NoteFits s.note

  abbrev pub WhyFits : Why → Type 0
  WhyFits (branch_unknown node) = Below 4 node
  WhyFits (switch_unknown node) = Below 4 node
  WhyFits (no_case value) = Below 8 value
  WhyFits (struct_to node) = Below 4 node
  WhyFits (unknown_address node) = Below 4 node
  WhyFits (unknown_value address) = Below 8 address
  WhyFits (no_width name) = name < n
  WhyFits (store_to node) = Below 4 node
  WhyFits by_zero = Unit

  abbrev pub StopFits : Stop → Type 0
  StopFits (Returned None) = Unit
  StopFits (Returned (Some v)) = ValFits v
  StopFits (Steps limit) = Below 8 limit
  StopFits (Unknown at x) = OptionFits at × WhyFits x
  StopFits (NoBlock block) = Below 8 block
  StopFits NoBlocks = Unit
  StopFits (NoReturn at) = OptionFits at
  StopFits (Halted at target) = OptionFits at × Below 8 target

  abbrev pub VariableFits : ℕ × Val → Type 0
  VariableFits p = (p.0 < n) × ValFits p.1

  pub record RanFits (r : Ran) : Type 0 where
    pub few : n ≤ 512
    pub steps : Each StepFits r.steps
    pub stop : StopFits r.stop
    pub variables : Each VariableFits r.variables
