-- What a line becomes by a text that is appended to it. Assumes nothing.
use Rattle.std.specs.Prelude.{◌≡◌, List, ℕ, ◌+◌, ◌≤◌, length}
use Rattle.text.specs.Put.{Put}
use Rattle.text.specs.declared.line.Line.{Line}

-- the buffer has room for a text behind what is written
abbrev pub Room : Line → List ℕ → Type 0
Room line x = line.at + length x ≤ length line.out.now

-- the text stands behind what was written, in the same buffer
pub record Pushed (old new : Line) (x : List ℕ) : Type 0 where
  pub same_reference : new.out.ghost_name ≡ old.out.ghost_name
  pub put : Put old.out.now old.at x new.out.now new.at
