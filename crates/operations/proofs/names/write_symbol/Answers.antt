use Rattle.std.proofs.Common.{rules, ap, is_some}
use Rattle.operations.proofs.Naming.{name_below, asked_room, symbol_fails, symbol_stores, symbol_unstored}
use Rattle.operations.proofs.names.write_symbol.Goals as goal

pub set_variable-requires : goal.set_variable-requires
set_variable-requires c = search (rules, name_below, asked_room)

pub returns-in_default-width_of : goal.returns-in_default-width_of
returns-in_default-width_of c = symbol_fails c.args.v c.ask.ensures c.reference-name.ensures.0 c.in-Some.is c.ask-size.ensures c.width_of.ensures.is c.in_default-width_of.is c.ends.ensures

pub returns-in_err-store_value : goal.returns-in_err-store_value
returns-in_err-store_value c = rw c.from_residual.ensures (symbol_unstored c.args.v c.ask.ensures c.reference-name.ensures.0 c.in-Some.is c.ask-size.ensures c.width_of.ensures.is c.in-Some-width_of.is (rw c.new.ensures at c.cast-c.ensures) (is_some c.store_value.result) c.store_value.ensures (ap is_some c.in_err-store_value.was))

pub returns : goal.returns
returns c = symbol_stores c.args.v c.ask.ensures c.reference-name.ensures.0 c.in-Some.is c.ask-size.ensures c.width_of.ensures.is c.in-Some-width_of.is (rw c.new.ensures at c.cast-c.ensures) (is_some c.store_value.result) c.store_value.ensures (ap is_some c.in_ok-store_value.was) c.wrote-2.ensures
