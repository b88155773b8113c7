-- What a probe queues, packet after packet.
use Rattle.std.proofs.Common.{◌≡◌, ℕ, ◌+◌, true, false, [], ◌∷◌, ◌++◌, nat_cmp, sym, ap, subst}
use Rattle.std.specs.List.Sorted.{IsStrictlySortedBy}
use Rattle.std.specs.Map.{keys_of}
use Rattle.qh_recovery.specs.SentPackets.{NoneIs, IsFrom, IsLeast}
use Rattle.qh_recovery.specs.declared.sent_packets.SentPacket.{SentPacket}
use Rattle.qh_streams.specs.Streams.{PlainStreams, KeepsOut}
use Rattle.qh_streams.specs.declared.frames.SentFrame.{SentFrame}
use Rattle.qh_loss.specs.Owed.{AreOwed, frames_out}
use Rattle.qh_loss.specs.Settled.{AreQueuedAgain, IsProbeQueued, chosen, is_stream, is_kind}
use Rattle.qh_loss.specs.Settled.AreQueuedAgain.{none as none_queued}
use Rattle.qh_loss.specs.Settled.IsProbeQueued.{stream, others, ping, nothing}
use Rattle.qh_loss.specs.declared.probe.Probe.TheVariants.{Stream, Others, Ping}
use Rattle.qh_loss.proofs.FramesOut.{Packets}
use Rattle.qh_loss.proofs.PacketWalk.{IsSplit, next_packet, all_before, split_at_first}
use Rattle.qh_loss.proofs.QueuedAgain.{queued_packet, none_changed, again_owed}

-- in the packets below a number no STREAM frame is owed
pub record IsWalked (old now : PlainStreams) (packets : Packets) (at : ℕ) : Type 0 where
  pub before : Packets
  pub after : Packets
  pub split : IsSplit packets before after at
  pub queued : AreQueuedAgain old now (chosen is_stream (frames_out before)) false
  pub owed : AreOwed now packets

pub walk_begins : (s : PlainStreams) (packets : Packets) → IsStrictlySortedBy nat_cmp (keys_of packets) → AreOwed s packets → IsWalked s s packets 0
walk_begins s packets rising owed = record { before = []; after = packets; split = split_at_first packets rising; queued = none_queued s; owed = owed }

module _ (old now new : PlainStreams) (packets : Packets) (at number : ℕ) (packet : SentPacket SentFrame) (walked : IsWalked old now packets at) (least : IsLeast (IsFrom at) packets number packet) where
  pub walk_more : AreQueuedAgain now new (chosen (is_kind true) packet.frames.items) false → KeepsOut now new → IsWalked old new packets (number + 1)
  walk_more queued keeps =
      let next = next_packet packets walked.before walked.after at number packet walked.split least in
      record {
        before = walked.before ++ (number, packet) ∷ [];
        after = next.rest;
        split = next.split;
        queued = queued_packet is_stream old now new walked.before number packet false walked.queued queued;
        owed = again_owed now new (chosen (is_kind true) packet.frames.items) false packets queued keeps walked.owed;
      }

  pub stream_found : AreQueuedAgain now new (chosen (is_kind true) packet.frames.items) true → IsProbeQueued old new packets Stream
  stream_found queued =
      let next = next_packet packets walked.before walked.after at number packet walked.split least in
      stream now walked.before next.rest number packet next.whole walked.queued queued

module _ (old now : PlainStreams) (packets : Packets) (at : ℕ) (walked : IsWalked old now packets at) (none : NoneIs (IsFrom at) packets) where
  all_queued : AreQueuedAgain old now (chosen is_stream (frames_out packets)) false
  all_queued = subst (λ (l : Packets). AreQueuedAgain old now (chosen is_stream (frames_out l)) false) (sym (all_before packets walked.before walked.after at walked.split none)) walked.queued

  pub no_packet : packets ≡ [] → IsProbeQueued old now packets Ping
  no_packet empty = nothing empty (none_changed old now (chosen is_stream (frames_out packets)) false all_queued (ap (λ (l : Packets). chosen is_stream (frames_out l)) empty))

  module _ (new : PlainStreams) (number : ℕ) (packet : SentPacket SentFrame) (rising : IsStrictlySortedBy nat_cmp (keys_of packets)) (least : IsLeast (IsFrom 0) packets number packet) where
    pub others_found : AreQueuedAgain now new (chosen (is_kind false) packet.frames.items) true → IsProbeQueued old new packets Others
    others_found queued =
        let next = next_packet packets [] packets 0 number packet (split_at_first packets rising) least in
        others now number packet next.rest next.after_is all_queued queued

    pub none_found : AreQueuedAgain now new (chosen (is_kind false) packet.frames.items) false → IsProbeQueued old new packets Ping
    none_found queued =
        let next = next_packet packets [] packets 0 number packet (split_at_first packets rising) least in
        ping now number packet next.rest next.after_is all_queued queued
