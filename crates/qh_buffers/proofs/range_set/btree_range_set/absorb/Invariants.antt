use Rattle.std.proofs.Common.{◌≡◌, IsSome, nat_cmp, btree_map_len}
use Rattle.std.specs.BTreeMap.{get}
use Rattle.qh_buffers.specs.Ranges.{before, above, joined}
use Rattle.qh_buffers.proofs.range_set.btree_range_set.absorb.Given as goal

abbrev pub invariant-loop-next : goal.invariant-loop-next
invariant-loop-next l = record {
  there : IsSome (get nat_cmp l.ranges l.start);
  front : before l.start l.ranges.entries ≡ before l.start l.fn.ranges.entries;
  rest : joined l.start l.end (above l.start l.ranges.entries) ≡ joined l.start l.fn.end (above l.start l.fn.ranges.entries);
}

abbrev pub decreases-loop-next : goal.decreases-loop-next
decreases-loop-next l = btree_map_len l.ranges
