use Rattle.emulate.proofs.Answering.{answers_input, answers_20}
use borrow.Author.Rules.{rules}
use Rattle.passes.proofs.Files.{all_fine}
use Rattle.emulate.proofs.record_length.Goals as goal

pub returns-in_err-files : goal.returns-in_err-files
returns-in_err-files c = answers_input _ _ _ _ _ _ _ c.from_residual.ensures.1 c.in_err-files.ensures

pub returns-in_err-unless : goal.returns-in_err-unless
returns-in_err-unless c =
    let files = c.in_ok-files.ensures in
    answers_20 _ _ _ _ _ _ _ c.from_residual-in_err-unless.ensures.1 (rw (files.0, files.1, files.2) at (all_fine c.in_ok-files.files)) c.in_err-unless.ensures.1 (search (rules, c.in_err-unless.ensures.0))
