use Rattle.std.proofs.Common.{refl}
use Rattle.qh_streams.specs.Streams.IsAckedFrame.{stop, max_data, max_stream_data}
use Rattle.qh_streams.proofs.StreamsKept.{recv_kept}
use Rattle.qh_streams.proofs.StreamsSettled.{recv_stepped}
use Rattle.qh_streams.proofs.streams.Streams.acked.Goals as goal

pub invariant_of-self : goal.invariant_of-self
invariant_of-self c = recv_kept c.self.invariant (recv_stepped c.ack_stop.ensures) refl

pub invariant_of-self-in-MaxStreamData : goal.invariant_of-self-in-MaxStreamData
invariant_of-self-in-MaxStreamData c = recv_kept c.self-in-MaxStreamData.invariant (recv_stepped c.ack_max_stream_data.ensures) refl

pub returns-in-StopSending-clause-acked : goal.returns-in-StopSending-clause-acked
returns-in-StopSending-clause-acked c = rw (c.in-StopSending.is, ← c.self.view_is) (stop c.in-StopSending.id c.in-StopSending.code c.ack_stop.ensures refl)

pub returns-in-MaxData-clause-acked : goal.returns-in-MaxData-clause-acked
returns-in-MaxData-clause-acked c = rw (c.in-MaxData.is, ← c.self-in-MaxData.view_is) (max_data c.in-MaxData.limit (rw c.ack_max_data.ensures refl))

pub returns-in-MaxStreamData-clause-acked : goal.returns-in-MaxStreamData-clause-acked
returns-in-MaxStreamData-clause-acked c = rw (c.in-MaxStreamData.is, ← c.self-in-MaxStreamData.view_is) (max_stream_data c.in-MaxStreamData.id c.in-MaxStreamData.limit c.ack_max_stream_data.ensures refl)
