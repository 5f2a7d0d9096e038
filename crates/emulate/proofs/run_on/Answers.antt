-- `run_on` meets its contract. (Named on the function, by `using`, its laws are not found.) Assumes nothing.
use native.Mathlib.Omega.{arith}
use Rattle.passes.proofs.Files.{all_fine}
use Rattle.emulate.proofs.Answering.{answers_22, is_exact, short_enough, answers_whole}
use borrow.Author.Rules.{rules}
use Rattle.emulate.proofs.run_on.Goals as goal

pub returns-then-not-fits : goal.returns-then-not-fits
returns-then-not-fits c = search (rules, answers_22, all_fine c.args.files)

pub put_rest-requires-clause-exact : goal.put_rest-requires-clause-exact
put_rest-requires-clause-exact c = search (rules, is_exact, all_fine c.args.files)

pub end_of-requires : goal.end_of-requires
end_of-requires c = search (rules, short_enough, all_fine c.args.files)

pub returns : goal.returns
returns c = answers_whole _ _ _ _ _ (all_fine c.args.files) c.requires.workspace_long _ _ _ c.requires.ended _ c.measure-l.ensures _ c.fits.ensures (search rules) _ _ _ _ (omega arith) c.put_rest.ensures (c.fill.ensures.after (λ y e. e)) c.end_of.ensures
