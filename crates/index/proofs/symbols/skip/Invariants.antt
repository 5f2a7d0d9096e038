-- `skip` meets its contract. The loop's invariant: as many names are passed as turns came. Assumes nothing.
use mathlib.Core.Path.{◌≡◌}
use Rattle.index.specs.Places.{place_from, text_size}
use Rattle.index.proofs.symbols.skip.Given as goal

abbrev pub invariant-loop-step : goal.invariant-loop-step
invariant-loop-step l = l.place ≡ place_from (text_size l.names) l.at l._step
