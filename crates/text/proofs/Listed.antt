-- An accepted run: what its record gives to the functions that write lines, and that their lines are the listing. Assumes nothing.
use mathlib.Core.Path.{◌≡◌, sym, ◌∙◌}
use mathlib.Core.List.{List}
use Prim.Native.Nat.{ℕ}
use Rattle.layout.specs.Number.{number_at}
use Rattle.files.specs.FileTable.{body}
use Rattle.files.specs.Program.{texts_in, program_of}
use Rattle.index.specs.Texts.{text_count}
use Rattle.definition.specs.Record.{body_at}
use Rattle.definition.specs.Run.{number, ran, record_of, workspace_needed}
use Rattle.definition.specs.Listing.{listing_of}
use Rattle.text.specs.Read.{StopThere}
use Rattle.text.specs.Lines.{lines_of}
use Rattle.text.proofs.FitPrograms.{ran_fits, record_short}
use Rattle.text.specs.Left.{StepsLeft, VariablesLeft}
use Rattle.text.proofs.Listing.{stop_is_there, steps_left, variables_left, lines_are, listing_run}

module _ (routine world call : List ℕ) (h : number routine world call 65536 workspace_needed ≡ 0) where
  abbrev named : ℕ
  named = text_count (body routine 0)

  pub stop_ready : StopThere named (body_at (record_of routine world call) 0)
  unfolding record_of
  stop_ready = stop_is_there (ran routine world call) (record_short routine world call 65536 workspace_needed h) named (ran_fits routine world call 65536 workspace_needed h)

  pub steps_ready : StepsLeft named (body_at (record_of routine world call) 2)
  unfolding record_of
  steps_ready = steps_left (ran routine world call) (record_short routine world call 65536 workspace_needed h) named (ran_fits routine world call 65536 workspace_needed h)

  pub variables_ready : VariablesLeft named (body_at (record_of routine world call) 3)
  unfolding record_of
  variables_ready = variables_left (ran routine world call) (record_short routine world call 65536 workspace_needed h) named (ran_fits routine world call 65536 workspace_needed h)

  -- the lines made from the bytes of its record, and from the names and the head of the routine, are the listing
  pub listing_is : lines_of (texts_in (body routine 0)) (number_at (body routine 2) 0 2) (number_at (body routine 2) 2 8) (record_of routine world call) ≡ listing_of routine world call
  unfolding record_of program_of
  listing_is =
      lines_are (ran routine world call) (record_short routine world call 65536 workspace_needed h) named (ran_fits routine world call 65536 workspace_needed h) (program_of routine)
      ∙ sym (listing_run routine world call h)
