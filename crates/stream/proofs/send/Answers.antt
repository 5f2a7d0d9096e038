use Rattle.stream.proofs.StreamLaws.{when_room}
use mathlib.Core.Path.{sym, ◌∙◌}
use borrow.Author.Rules.{rules}
use Rattle.stream.proofs.send.Goals as goal

pub returns-then-has_room : goal.returns-then-has_room
returns-then-has_room g c = (c.advance-next.ensures, when_room _ _ _ (sym c.has_room.ensures ∙ c.if-has_room.true) (search rules))
