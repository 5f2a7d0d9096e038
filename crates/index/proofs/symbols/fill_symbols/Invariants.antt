-- `fill_symbols` meets its contract. The loop's invariant: the entries made are right, and the search stands where each later name can still find its symbol.
-- Assumes nothing.
use mathlib.Core.Path.{◌≡◌}
use lib.ListN.{length}
use Rattle.index.proofs.SymbolMerge.{Merging}
use Rattle.index.proofs.symbols.fill_symbols.Given as goal

abbrev pub invariant-loop-k : goal.invariant-loop-k
invariant-loop-k l = Merging l.routine_names l.world_names l.symbols l.part l.cursor l.k-iterator.iter.rest.now l.k-iterator.count × (length l.part ≡ length l.initial.part)
