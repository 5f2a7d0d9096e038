-- `fill_regions` meets its contract. The loop's invariant: the entries made are right, and the iterator goes on to the region whose entry is next. Assumes nothing.
-- (Named on the function, by `using`, the law of its end is not found: the search stops at its limit of cases.)
use Rattle.std.proofs.Common.{refl, ap, rules}
use Rattle.index.proofs.RegionIndex.{Filling, regions_none, regions_stand, region_room, region_filled, regions_filled}
use Rattle.index.proofs.regions.fill_regions.Goals as goal
use Rattle.index.proofs.regions.fill_regions.Goals.{After-into_iter-at-iterator}

start : (c : After-into_iter-at-iterator) → Filling c.args.regions.now c.args.part.now c.into_iter-at-iterator.result 0
start c =
    let from = c.step_by-at-items.ensures in
    rw c.into_iter-at-iterator.ensures.into_iter_gives (regions_none c.requires.0 (ap (λ v. v.regions.now) from.source) (ap (λ v. v.at) from.source) from.step_minus_one (search rules) c.requires.1)

pub loop-at-init-derived : goal.loop-at-init-derived
loop-at-init-derived c = let i = (goal.at.loop-at-init-derived c).After-into_iter-at-iterator in (regions_stand (start i), tt)

pub loop-at-init : goal.loop-at-init
loop-at-init c = let i = (goal.at.loop-at-init c).After-into_iter-at-iterator in (start i, refl)

pub overflow_mul-count : goal.overflow_mul-count
overflow_mul-count c = let room = region_room c.loop-at.invariant.0 c.in-Some.ensures.steps in search rules

pub put-requires-clause-inside : goal.put-requires-clause-inside
put-requires-clause-inside c = region_room c.loop-at.invariant.0 c.in-Some.ensures.steps

pub overflow_add-count : goal.overflow_add-count
overflow_add-count c = let room = region_room c.loop-at.invariant.0 c.in-Some.ensures.steps in search rules

pub loop-at-preserved : goal.loop-at-preserved
loop-at-preserved c = (region_filled c.loop-at.invariant.0 c.in-Some.ensures.steps c.put.ensures, search rules)

pub returns : goal.returns
returns c = regions_filled c.loop-at.invariant.0 c.next.new.self c.in-None.ensures.steps
