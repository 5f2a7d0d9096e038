use Rattle.index.proofs.RegionRead.{sum_fits, gathered_more, gathered_end}
use borrow.Author.Rules.{rules}
use Rattle.index.proofs.regions.gather.Goals as goal

pub overflow_add-result-2 : goal.overflow_add-result-2
overflow_add-result-2 c = search (rules, sum_fits)

pub returns : goal.returns
returns c = (search (rules, gathered_more), search (rules, gathered_end))
