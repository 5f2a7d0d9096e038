-- `seek` meets its contract. The loop's invariant: the symbols before the one where it stands have names before the name sought. Assumes nothing.
-- (Named on the function, by `using`, the laws of its ends are not found.)
use borrow.Author.Rules.{rules}
use Rattle.index.proofs.SymbolSearch.{seek_stands, seek_passes, seek_equal, seek_greater, seek_end}
use Rattle.index.proofs.symbols.seek.Goals as goal

pub loop-symbol-preserved : goal.loop-symbol-preserved
loop-symbol-preserved c = search (rules, seek_stands, seek_passes)

pub returns-in-Equal : goal.returns-in-Equal
returns-in-Equal c = search (rules, seek_equal)

pub returns-in-Greater : goal.returns-in-Greater
returns-in-Greater c = search (rules, seek_greater)

pub returns : goal.returns
returns c = seek_end c.requires.0 c.loop-symbol.invariant.0 c.loop-symbol-test.false c.loop-symbol.invariant.2 c.loop-symbol.invariant.1
