-- `nearest` meets its contract. Assumes nothing.
use mathlib.Core.Path.{ap}
use Rattle.std.proofs.Common.{rules}
use borrow.Author.Tests.{tests}
use lib.ListN.{take}
use Rattle.std.proofs.lemmas.List.Sorted.{IsPartitionPoint-from_clause}
use Rattle.index.specs.Regions.{starts_by}
use Rattle.index.proofs.RegionIndex.{entries_parted, entry_found}
use Rattle.index.proofs.regions.nearest.Goals as goal

pub returns : goal.returns
returns c =
    let entries = take c.args.count c.as_chunks.result.0.now in
    let all = c.requires.0 in
    let e = ap (take c.args.count) c.as_chunks.ensures.front in
    let point = IsPartitionPoint-from_clause (starts_by c.args.regions.now c.args.address) entries _ c.partition_point-past.ensures.partitioned (entries_parted all entries e c.args.address)
    (λ x r q k. search (rules, tests)) in
    entry_found all entries e c.args.address c.partition_point-past.result c.saturating_sub.result _ c.requires.1 c.partition_point-past.ensures.bound point.0 c.saturating_sub.ensures
    c.place_of.ensures.place
