-- Demand 3 (document 01, "Two worlds"). Proved in proofs/TwoWorlds.antt. Assumes nothing.
use Rattle.std.specs.Prelude.{◌≡◌, ◌↔◌, List, ℕ}
use Rattle.layout.specs.Each.{Each}
use Rattle.definition.specs.Question.{World}
use Rattle.definition.specs.Fields.{Written, given}
use Rattle.definition.specs.World.{world_of}
use Rattle.definition.specs.Record.{questions_in}
use Rattle.definition.specs.Run.{record_of, Accepted}

-- the world gives, to a question as it is written, the fields that are written there as its answer
abbrev pub Gives : World → Written → Type 0
Gives w e = given w e.0 e.1.0 ≡ e.1.1

-- Two accepted runs of one routine file with equal calls and equally long buffers: the records are equal, in length and in every byte, exactly when the
-- second world gives, to each question written in the first record, the answer written there
abbrev pub TwoWorlds : Type 0
TwoWorlds =
    (routine call world₁ world₂ : List ℕ) (buffer workspace : ℕ)
    → Accepted routine world₁ call buffer workspace
    → Accepted routine world₂ call buffer workspace
    → ((record_of routine world₁ call ≡ record_of routine world₂ call)
    ↔ Each (Gives (world_of routine world₂)) (questions_in (record_of routine world₁ call)))
