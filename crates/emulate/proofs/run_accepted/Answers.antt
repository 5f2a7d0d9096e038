use native.Mathlib.Omega.{arith}
use Rattle.passes.proofs.Files.{all_fine}
use Rattle.emulate.proofs.Answering.{answers_21, first_ended, first_tabled, answers_on}
use Rattle.emulate.proofs.run_accepted.Goals as goal

pub returns-then-full : goal.returns-then-full
returns-then-full c = answers_21 _ _ _ _ _ (all_fine c.args.files) c.requires _ _ _ _ _ _ _ c.is_full-full.ensures c.first_pass-r.ensures c.if-full.true _ _ (omega arith) (omega arith) c.clear_both.ensures

pub run_on-requires-clause-tabled : goal.run_on-requires-clause-tabled
run_on-requires-clause-tabled c = first_tabled _ _ _ _ _ _ _ _ _ c.is_full-full.ensures c.first_pass-r.ensures c.if-full.false c.set_tables-index.ensures.0

pub run_on-requires-clause-ended : goal.run_on-requires-clause-ended
run_on-requires-clause-ended c = first_ended _ _ _ _ _ _ _ _ _ c.is_full-full.ensures c.first_pass-r.ensures c.if-full.false

pub returns : goal.returns
returns c = answers_on _ _ _ _ _ (all_fine c.args.files) c.requires _ _ _ _ _ _ _ c.is_full-full.ensures c.first_pass-r.ensures c.if-full.false _ _ _ _ (omega arith) (omega arith) c.run_on.ensures
