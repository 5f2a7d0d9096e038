use Rattle.outcomes.proofs.SortLaws.{sort_gives, sort_plain, sort_halts}
use Rattle.outcomes.proofs.roots.sort_of.Goals as goal

pub returns-then-is : goal.returns-then-is
returns-then-is c = sort_gives _ _ _ c.is.ensures c.if-is.true

pub returns-then-not-is : goal.returns-then-not-is
returns-then-not-is c = sort_plain _ _ _ c.is.ensures c.if-is.false c.is-2.ensures c.if-not-is.true

pub returns : goal.returns
returns c = sort_halts _ _ _ c.is-2.ensures c.if-not-is.false c.reference-name.ensures c.is_name.ensures c.if-is_name.false c.is_name-2.ensures c.if-not-is_name.false c.span.ensures c.if-span-ne2.false c.is-3.ensures c.requires c.if-not-is-2.false
