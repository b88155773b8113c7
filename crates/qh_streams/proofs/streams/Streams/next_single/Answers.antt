use Rattle.std.proofs.Common.{refl}
use Rattle.qh_streams.specs.Streams.IsHandedOver.{stop, max_stream_data}
use Rattle.qh_streams.specs.Streams.IsOf.{stop as of_stop, max_stream_data as of_limit}
use Rattle.qh_streams.proofs.StreamsKept.{recv_kept, recv_step}
use Rattle.qh_streams.proofs.StreamsWritten.{recv_id_small}
use Rattle.qh_streams.proofs.streams.Streams.next_single.Goals.{in-StopSending, in-MaxStreamData}
use Rattle.qh_streams.proofs.streams.Streams.next_single.Goals as goal

pub invariant_of-self-2 : goal.invariant_of-self-2
invariant_of-self-2 c = recv_kept c.self.invariant (recv_step c.in_ok-id.ensures.some) refl

pub returns-clause-some : goal.returns-clause-some
returns-clause-some c = λ room. rw (← c.self.view_is) (elim c.match-control.branch [
  | in-StopSending w ↦ rw w.result-is (stop _ _ (rw w.in-StopSending.is at c.in_ok-id.ensures.some) refl, of_stop _ _)
  | in-MaxStreamData w ↦ rw w.result-is (max_stream_data _ _ (rw w.in-MaxStreamData.is at c.in_ok-id.ensures.some) refl, of_limit _ _)
])

pub returns-clause-out : goal.returns-clause-out
returns-clause-out c = elim c.match-control.branch [
  | in-StopSending w ↦ rw w.result-is (recv_id_small c.self.invariant c.in_ok-id.id _ (c.in_ok-id.ensures.some).was)
  | in-MaxStreamData w ↦ rw w.result-is (recv_id_small c.self.invariant c.in_ok-id.id _ (c.in_ok-id.ensures.some).was)
]
