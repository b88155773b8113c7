use Rattle.std.proofs.Common.{◌≡◌, is_some, vec_capacity}
use Rattle.qh_recovery.specs.SentPackets.{packet_at}
use Rattle.qh_control.proofs.Lost.{LostSoFar}
use Rattle.qh_control.proofs.queue.move_lost.Given as goal

abbrev pub invariant-loop : goal.invariant-loop
invariant-loop g l = record {
  so_far : LostSoFar (λ number. is_some (packet_at l.core.space.sent number)) l.counter l.index l.fn.sent.items l.sent.items l.fn.waiting.items l.waiting.items;
  capacity : vec_capacity l.waiting ≡ vec_capacity l.fn.waiting;
}
