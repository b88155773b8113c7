-- A frame of the peer's that speaks of streams leaves what is owed queued or out.
use Rattle.qh_loss.specs.Owed.{AreOwed, frames_out}
use Rattle.qh_loss.proofs.FramesOut.{Packets, all_out_kept}
use Rattle.qh_streams.specs.Streams.{PlainStreams, IsReceived, KeepsOut}
use Rattle.qh_streams.specs.declared.frames.StreamFrame.{StreamFrame}
use Rattle.qh_streams.proofs.StreamsTracked.{keeps_tracked}
use Rattle.qh_streams.proofs.StreamsTrackedCalls.{received_keeps}

pub received_owed : (old new : PlainStreams) (f : StreamFrame) (packets : Packets) → IsReceived old new f → KeepsOut old new → AreOwed old packets → AreOwed new packets
received_owed old new f packets received keeps owed = record {
  tracked = keeps_tracked (received_keeps old new f received) owed.tracked;
  out = all_out_kept old new (frames_out packets) keeps owed.out;
}
