use Rattle.std.proofs.Common.{◌≡◌, btree_map_len}
use Rattle.qh_buffers.specs.Ranges.{before, from_on}
use Rattle.qh_buffers.proofs.range_set.btree_range_set.remove_between.Given as goal

abbrev pub invariant-loop-start : goal.invariant-loop-start
invariant-loop-start l = record {
  front : before l.from l.ranges.entries ≡ before l.from l.fn.ranges.entries;
  rest : from_on l.to l.ranges.entries ≡ from_on l.to l.fn.ranges.entries;
}

abbrev pub decreases-loop-start : goal.decreases-loop-start
decreases-loop-start l = btree_map_len l.ranges
