use mathlib.Core.Path.{◌∙◌, sym}
use Rattle.files.proofs.NameLaws.{no_names, no_types}
use Rattle.files.proofs.RefusalLaws.{exits_with, counted_err, named, typed}
use Rattle.files.proofs.count_texts.Goals as goal

pub returns-in_err-ok_or : goal.returns-in_err-ok_or
returns-in_err-ok_or c =
    let e = counted_err _ _ _ c.in_err-ok_or.ensures.value in
    exits_with _ _ _ _ c.from_residual.ensures.1 (simp (e.1, no_names _ (sym e.0 ∙ c.count.ensures)))

pub returns-in_err-ok_or-2 : goal.returns-in_err-ok_or-2
returns-in_err-ok_or-2 c =
    let n = named _ _ _ _ c.in_ok-ok_or.ensures.value c.count.ensures in
    let e = counted_err _ _ _ c.in_err-ok_or-2.ensures.value in
    exits_with _ _ _ _ c.from_residual-in_err-ok_or-2.ensures.1 (simp (e.1, n.0, no_types _ (sym e.0 ∙ c.count-2.ensures)))

pub returns : goal.returns
returns c =
    let n = named _ _ _ _ c.in_ok-ok_or.ensures.value c.count.ensures in
    let t = typed _ _ _ _ c.in_ok-ok_or-2.ensures.value c.count-2.ensures in
    (n.0, t.0, n.1, t.1)
