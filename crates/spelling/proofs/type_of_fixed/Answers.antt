use Rattle.std.proofs.Common.{sym, ap, ◌∙◌, Bool, not}
use Rattle.std.specs.Prelude.{Some, is_some}
use Rattle.spelling.proofs.Fixed.{flipped, fixed_type, fixed}
use Rattle.spelling.proofs.type_of_fixed.Goals as goal

pub returns-in-Some : goal.returns-in-Some
returns-in-Some c =
    let o = c.strip_prefix-behind_u.result in
    c.new.ensures
    ∙ ap (λ (s : Bool). fixed_type c.args.unsigned s (Some c.in-Some.bits)) (flipped (is_some o) c.is_none.result c.is_none.ensures)
    ∙ ap (fixed_type c.args.unsigned (not (is_some o))) (sym c.in-Some.is)
    ∙ fixed c.args.unsigned c.args.w o c.strip_prefix-behind_u.ensures.cases (sym c.is.ensures ∙ c.if-is.false) (sym c.is-else-is.ensures ∙ c.if-is-2.false)
    c.unwrap_or.result c.unwrap_or.ensures c.fixed_bits.result c.fixed_bits.ensures

pub returns-in-None : goal.returns-in-None
returns-in-None c =
    let o = c.strip_prefix-behind_u.result in
    c.new-in-None.ensures
    ∙ ap (fixed_type c.args.unsigned (not (is_some o))) (sym c.in-None.is)
    ∙ fixed c.args.unsigned c.args.w o c.strip_prefix-behind_u.ensures.cases (sym c.is.ensures ∙ c.if-is.false) (sym c.is-else-is.ensures ∙ c.if-is-2.false)
    c.unwrap_or.result c.unwrap_or.ensures c.fixed_bits.result c.fixed_bits.ensures
