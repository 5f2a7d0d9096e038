use mathlib.Core.Path.{◌∙◌}
use Rattle.files.specs.Refusal.{bodies_fault}
use Rattle.files.proofs.RefusalLaws.{exits, checked, or_refusal, texts_first}
use Rattle.files.proofs.check_bodies.Goals as goal

pub returns-in_err-bounds : goal.returns-in_err-bounds
unfolding bodies_fault
returns-in_err-bounds c = exits _ _ c.from_residual.ensures.1 ∙ texts_first _ _ _ _ c.in_err-bounds.ensures

pub returns-in_err-unless : goal.returns-in_err-unless
unfolding bodies_fault
returns-in_err-unless c =
    let t = c.in_ok-bounds.ensures in
    exits _ _ c.from_residual-in_err-unless.ensures.1 ∙ simp (c.in_err-unless.ensures.1, t.0, t.1, t.2, t.3, ← c.check.ensures, c.in_err-unless.ensures.0)

pub returns-in_err-check : goal.returns-in_err-check
unfolding bodies_fault
returns-in_err-check c =
    let t = c.in_ok-bounds.ensures in
    exits _ _ c.from_residual-in_err-check.ensures.1 ∙ simp (t.0, t.1, t.2, t.3, ← c.check.ensures, c.in_ok-unless.ensures, ← c.in_err-check.ensures) (or_refusal _ _)

pub returns-in_err-unless-2 : goal.returns-in_err-unless-2
unfolding bodies_fault
returns-in_err-unless-2 c =
    let t = c.in_ok-bounds.ensures in
    exits _ _ c.from_residual-in_err-unless-2.ensures.1
    ∙ simp (c.in_err-unless-2.ensures.1, t.0, t.1, t.2, t.3, ← c.check.ensures, c.in_ok-unless.ensures, ← c.in_ok-check.ensures, ← c.check-3.ensures, c.in_err-unless-2.ensures.0)

pub returns : goal.returns
unfolding bodies_fault
returns c =
    let t = c.in_ok-bounds.ensures in
    checked _ _ _ c.unless-3.ensures
    ∙ simp (t.0, t.1, t.2, t.3, ← c.check.ensures, c.in_ok-unless.ensures, ← c.in_ok-check.ensures, ← c.check-3.ensures, c.in_ok-unless-2.ensures, ← c.check-4.ensures)
