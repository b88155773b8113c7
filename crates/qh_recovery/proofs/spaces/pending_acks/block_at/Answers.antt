use Rattle.std.proofs.Common.{sym, ap}
use Rattle.qh_recovery.specs.PendingAcks.{ack_range}
use Rattle.qh_recovery.proofs.AckBlocks.{block_at_is}
use Rattle.qh_recovery.proofs.spaces.pending_acks.block_at.Goals as goal

pub overflow_sub-result : goal.overflow_sub-result
overflow_sub-result c =
    let at = rw c.unwrap-range.ensures at c.get.ensures in
    (block_at_is c.args.ranges.now _ c.args.index c.is_apart.ensures at).1

pub returns : goal.returns
returns c =
    let at = rw c.unwrap-range.ensures at c.get.ensures in
    sym (ap ack_range (block_at_is c.args.ranges.now _ c.args.index c.is_apart.ensures at).0)
