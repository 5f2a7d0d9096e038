use Rattle.std.proofs.Common.{rules}
use Rattle.spelling.proofs.Star.{all_spaces, star_last, other_last}
use Rattle.spelling.proofs.last_star.Goals as goal

pub returns-in_err-last : goal.returns-in_err-last
returns-in_err-last c = rw c.from_residual.ensures (all_spaces c.args.s.now (search rules))

pub returns-then-s-last-eq42 : goal.returns-then-s-last-eq42
returns-then-s-last-eq42 c = star_last c.args.s.now c.in_ok-last.last (search rules) (search rules) c.if-s-last-eq42.true

pub returns-else-s-last-eq42 : goal.returns-else-s-last-eq42
returns-else-s-last-eq42 c = other_last c.args.s.now c.in_ok-last.last (search rules) (search rules) c.if-s-last-eq42.false (search rules)
