-- At each turn of the loop the whole answer is that of the trees from there on. A call is on a smaller span.
use Rattle.std.proofs.Common.{◌≡◌, ◌-◌, ◌≤◌}
use Rattle.files.specs.Nodes.{trees}
use Rattle.files.specs.Rules.{parent_of}
use Rattle.files.proofs.trees.+count.Given as goal

abbrev pub decreases-count : goal.decreases-count
decreases-count l = l.e - l.n

abbrev pub invariant-loop-at : goal.invariant-loop-at
invariant-loop-at l = (trees l.b l.depth (parent_of l.in_struct) l.n l.e 0 ≡ trees l.b l.depth (parent_of l.in_struct) l.at l.e l.c) × ((l.n ≤ l.at) × ((l.c ≤ l.at) × (l.at ≤ l.e)))

abbrev pub decreases-loop-at : goal.decreases-loop-at
decreases-loop-at l = l.e - l.at
