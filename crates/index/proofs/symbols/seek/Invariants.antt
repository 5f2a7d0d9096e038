-- `seek` meets its contract. The loop's invariant: the symbols before the one where it stands have names before the name sought. Assumes nothing.
use mathlib.Core.Path.{◌≡◌}
use Rattle.index.specs.Symbols.{Standing, Passed}
use Rattle.index.proofs.symbols.seek.Given as goal

abbrev pub invariant-loop-symbol : goal.invariant-loop-symbol
invariant-loop-symbol l = Standing l.world_names l.symbols l.symbol l.cursor.name l.cursor.at × Passed l.world_names l.symbols l.symbol l.name × (l.cursor.symbol ≡ l.symbol)
