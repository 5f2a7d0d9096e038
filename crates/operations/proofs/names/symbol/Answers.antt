use Rattle.std.proofs.Common.{rules}
use Rattle.operations.proofs.Naming.{name_below, asked_room, symbol_none, symbol_unsized, symbol_loads}
use Rattle.operations.proofs.names.symbol.Goals as goal

pub undefined-requires : goal.undefined-requires
undefined-requires c = search (rules, name_below, asked_room)

pub returns-in_default : goal.returns-in_default
returns-in_default c = symbol_none c.ask.ensures c.requires.var_at c.reference.ensures.0 c.in_default.is c.undefined.ensures

pub returns-in_default-width_of : goal.returns-in_default-width_of
returns-in_default-width_of c = symbol_unsized c.ask.ensures c.in-Some.is c.ask-size.ensures c.width_of.ensures.is c.in_default-width_of.is c.unknown.ensures

pub returns : goal.returns
returns c = symbol_loads c.ask.ensures c.in-Some.is c.ask-size.ensures c.width_of.ensures.is c.in-Some-width_of.is (rw c.new.ensures at c.load_at.ensures)
