use borrow.Author.Tests.{not-false}
use Rattle.operations.proofs.Working.{fit_word, value_stored, value_full}
use Rattle.std.proofs.Common.{rules}
use Rattle.operations.proofs.places.store_value.Goals as goal

pub store_number-requires : goal.store_number-requires
store_number-requires c = search (rules, fit_word)

pub returns-in-Ok : goal.returns-in-Ok
returns-in-Ok c = search (rules, not-false, value_stored)

pub returns-in-Err : goal.returns-in-Err
returns-in-Err c = value_full c.args.ws.now c.args.address c.args.v c.word-stored.result _ c.store_number.result (not-false _ c.if-not-v.false) c.word-stored.ensures c.store_number.ensures _ _ c.in-Err.is c.ends-in-Err.ensures
