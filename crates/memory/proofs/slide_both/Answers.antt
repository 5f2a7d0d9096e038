use Rattle.memory.proofs.PieceLaws.{both_up, both_down}
use Rattle.memory.proofs.slide_both.Goals as goal

pub returns-then-left : goal.returns-then-left
returns-then-left c = both_up c.args.part.now _ _ c.args.left c.args.right c.requires c.if-left.true c.slide.ensures c.slide-then-left.ensures

pub returns : goal.returns
returns c = both_down c.args.part.now _ _ c.args.left c.args.right c.requires c.if-left.false c.slide-2.ensures c.slide-3.ensures
