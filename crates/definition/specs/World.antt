-- The world that a world file is, to a routine (document 01, "The files", World). Assumes nothing.
use Rattle.std.specs.Prelude.{List, ℕ}
use Rattle.files.specs.World.{symbol_address, symbol_size, image_bytes}
use Rattle.definition.specs.Question.{World, address_of, size_of, read_at, call_to}

-- "What a world gives to a question follows from its file alone"; "A name asked by is read in the routine file"; "`World::call` answers none"
unfoldable pub world_of : (routine world : List ℕ) → World
world_of routine world address_of n = symbol_address routine world n
world_of routine world size_of n = symbol_size routine world n
world_of routine world read_at q = image_bytes world q.address q.size
world_of routine world call_to q = tt
