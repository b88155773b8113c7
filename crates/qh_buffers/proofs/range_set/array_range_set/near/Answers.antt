use Rattle.std.proofs.Common.{ℕ, rules, of_calls, nat_lt, nat_le}
use Rattle.std.specs.declared.ops.Range.{Range}
use Rattle.std.proofs.lemmas.Fn.{always_returns_same}
use Rattle.std.proofs.lemmas.List.Sorted.{IsPartitionedBy-leb, IsPartitionedBy-ltb}
use Rattle.qh_buffers.proofs.RangeSearch.{starts_rise, ends_rise, near_from_points}
use Rattle.qh_buffers.proofs.range_set.array_range_set.near.Goals as goal

pub returns : goal.returns
returns c =
    let rs = c.args.ranges.now in
    let ends = c.partition_point-from.ensures.partitioned (λ (r : Range ℕ). nat_lt r.end c.args.first) (always_returns_same _ _ _ (λ a r f k. search (rules, of_calls)))
    (IsPartitionedBy-ltb (λ (r : Range ℕ). r.end) rs c.args.first (ends_rise rs 0 c.requires.apart)) in
    let starts = c.partition_point-to.ensures.partitioned (λ (r : Range ℕ). nat_le r.start c.args.last) (always_returns_same _ _ _ (λ a r f k. search (rules, of_calls)))
    (IsPartitionedBy-leb (λ (r : Range ℕ). r.start) rs c.args.last (starts_rise rs 0 c.requires.apart)) in
    near_from_points rs c.args.first c.args.last c.partition_point-from.result c.partition_point-to.result c.requires.apart c.requires.order c.partition_point-from.ensures.bound c.partition_point-to.ensures.bound ends starts
