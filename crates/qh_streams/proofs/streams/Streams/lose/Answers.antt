use Rattle.std.proofs.Common.{refl}
use Rattle.qh_streams.specs.Streams.IsLostFrame.{stream, reset, stop, max_data, max_stream_data}
use Rattle.qh_streams.proofs.StreamsKept.{send_kept, recv_kept, send_out}
use Rattle.qh_streams.proofs.StreamsSettled.{seen, stepped, recv_stepped}
use Rattle.qh_streams.proofs.streams.Streams.lose.Goals as goal

pub invariant_of-self : goal.invariant_of-self
invariant_of-self c = send_kept c.self.invariant (stepped c.retransmit.ensures.queued) refl

pub invariant_of-self-in-ResetStream : goal.invariant_of-self-in-ResetStream
invariant_of-self-in-ResetStream c = send_kept c.self-in-ResetStream.invariant (stepped c.lose_reset.ensures.queued) refl

pub invariant_of-self-in-StopSending : goal.invariant_of-self-in-StopSending
invariant_of-self-in-StopSending c = recv_kept c.self-in-StopSending.invariant (recv_stepped c.lose_stop.ensures) refl

pub invariant_of-self-in-MaxStreamData : goal.invariant_of-self-in-MaxStreamData
invariant_of-self-in-MaxStreamData c = recv_kept c.self-in-MaxStreamData.invariant (recv_stepped c.lose_max_stream_data.ensures) refl

pub returns-in-Stream-clause-lost : goal.returns-in-Stream-clause-lost
returns-in-Stream-clause-lost c = rw (c.in-Stream.is, ← c.self.view_is) (stream c.in-Stream.id c.in-Stream.piece c.retransmit.ensures.queued refl)

pub returns-in-Stream-clause-keeps_out : goal.returns-in-Stream-clause-keeps_out
returns-in-Stream-clause-keeps_out c = rw (← c.self.view_is) (send_out (seen c.self.inside) (record (seen c.self.inside) { send = c.retransmit.new.self }) c.retransmit.ensures.spans refl)

pub returns-in-ResetStream-clause-lost : goal.returns-in-ResetStream-clause-lost
returns-in-ResetStream-clause-lost c = rw (c.in-ResetStream.is, ← c.self-in-ResetStream.view_is) (reset c.in-ResetStream.id c.in-ResetStream.reset c.lose_reset.ensures.queued refl)

pub returns-in-ResetStream-clause-keeps_out : goal.returns-in-ResetStream-clause-keeps_out
returns-in-ResetStream-clause-keeps_out c = rw (← c.self-in-ResetStream.view_is) (send_out (seen c.self-in-ResetStream.inside) (record (seen c.self-in-ResetStream.inside) { send = c.lose_reset.new.self }) c.lose_reset.ensures.spans refl)

pub returns-in-StopSending-clause-lost : goal.returns-in-StopSending-clause-lost
returns-in-StopSending-clause-lost c = rw (c.in-StopSending.is, ← c.self-in-StopSending.view_is) (stop c.in-StopSending.id c.in-StopSending.code c.lose_stop.ensures refl)

pub returns-in-MaxData-clause-lost : goal.returns-in-MaxData-clause-lost
returns-in-MaxData-clause-lost c = rw (c.in-MaxData.is, ← c.self-in-MaxData.view_is) (max_data c.in-MaxData.limit (rw c.lose_max_data.ensures refl))

pub returns-in-MaxStreamData-clause-lost : goal.returns-in-MaxStreamData-clause-lost
returns-in-MaxStreamData-clause-lost c = rw (c.in-MaxStreamData.is, ← c.self-in-MaxStreamData.view_is) (max_stream_data c.in-MaxStreamData.id c.in-MaxStreamData.limit c.lose_max_stream_data.ensures refl)
