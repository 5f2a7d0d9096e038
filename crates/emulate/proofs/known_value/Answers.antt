use borrow.Author.Rules.{rules}
use Rattle.emulate.proofs.Giving.{unrefused, constant_input, routine_input, constant_20, evaluated}
use Rattle.emulate.proofs.known_value.Goals as goal

pub returns-in_err-routine : goal.returns-in_err-routine
returns-in_err-routine c = constant_input _ _ _ _ _ c.from_residual.ensures.1 (routine_input _ _ _ c.in_err-routine.ensures)

pub returns-in_err-check_constant : goal.returns-in_err-check_constant
returns-in_err-check_constant c = constant_input _ _ _ _ _ c.from_residual-in_err-check_constant.ensures.1 (rw c.in_ok-routine.ensures at c.in_err-check_constant.ensures)

pub returns-in_err-unless : goal.returns-in_err-unless
returns-in_err-unless c =
    constant_20 _ _ _ _ _ c.from_residual-in_err-unless.ensures.1 (unrefused _ _ (rw c.in_ok-routine.ensures at c.in_ok-check_constant.ensures)) c.in_err-unless.ensures.1 (search (rules, c.in_err-unless.ensures.0))

pub returns : goal.returns
returns c =
    evaluated _ _ _ (unrefused _ _ (rw c.in_ok-routine.ensures at c.in_ok-check_constant.ensures)) (search (rules, c.in_ok-unless.ensures)) _ _ c.evaluate-outcome.new.ws _ (rw c.in_ok-routine.ensures at c.evaluate-outcome.ensures) c.known_only.ensures (search rules) (c.fill.ensures.after (λ y e. e))
