use Rattle.std.proofs.Common.{◌≡◌, ◌-◌, take, drop, length}
use Rattle.qh_recovery.specs.PendingAcks.{ack_ranges}
use Rattle.qh_recovery.proofs.spaces.pending_acks.fill.Given as goal

abbrev pub invariant-loop-index : goal.invariant-loop-index
invariant-loop-index l = (length l.blocks ≡ 32) × (take l.index l.blocks ≡ ack_ranges (drop (l.count - l.index) l.ranges))
