use Rattle.std.proofs.Common.{rules, sym, nat_le, arith}
use Rattle.std.proofs.lemmas.Bool.{leb-true, leb-false}
use Rattle.std.proofs.lemmas.List.Sorted.{IsPartitionPoint-from_clause, IsPartitionedBy-leb}
use Rattle.qh_buffers.specs.declared.send_buffer.segments.Segment.{Segment}
use Rattle.qh_buffers.specs.SendState.{segment_end}
use Rattle.qh_buffers.proofs.Segments.{behind_at}
use Rattle.qh_buffers.proofs.send_buffer.segments.place_of.Goals as goal

pub returns : goal.returns
returns c =
    let xs = c.args.segments.now.items in
    let found = IsPartitionPoint-from_clause (λ (s : Segment). nat_le (segment_end s) c.args.offset) xs c.partition_point.result c.partition_point.ensures.partitioned (IsPartitionedBy-leb segment_end xs c.args.offset c.requires) (λ a r f' k. search rules) in
    sym (behind_at xs c.args.offset c.partition_point.result (omega (arith, c.partition_point.ensures.bound))
    (λ k d low high. leb-true _ _ (found.0 k d low high)) (λ k d low high. leb-false _ _ (found.1 k d low high)))
