-- Which calls of the end of the 1-RTT packets leave the log of its streams, and what was told of it.
use Rattle.std.proofs.Common.{◌≡◌, ℕ, Bool, true, false, List, Option, None, Some, Result, Ok, Err, refl, sym, ap, ◌∙◌}
use Rattle.std.specs.Prelude.{IfOk, IfSome, MatchBool, OnErr, OnOk}
use Rattle.qh_base.specs.declared.connection_error.ConnectionError.{ConnectionError}
use Rattle.qh_base.specs.declared.connection_error.ConnectionError.TheVariants.{TransportError as Fault}
use Rattle.qh_base.specs.declared.memory.Memory.{Memory as OutOfMemory}
use Rattle.qh_base.specs.declared.path.Transmit.{Transmit}
use Rattle.qh_base.specs.declared.time.Moment.{Moment}
use Rattle.qh_conn.specs.Incoming.{EndsBy}
use Rattle.qh_core.specs.Event.{IsDrainedTold, IsPolledEvent}
use Rattle.qh_core.specs.Inner.{IsFailedBy, is_open}
use Rattle.qh_core.specs.Made.{IsStreamCall}
use Rattle.qh_core.specs.Receiving.{GoesOnWith, IsClosedHeard, IsClosedWith, IsDatagramTaken, IsPacketHandled, counted_in}
use Rattle.qh_core.specs.Sending.{AreFramesMade, IsDatagramMade, NothingIsSent}
use Rattle.qh_core.specs.Streams.{IsWriteRefused}
use Rattle.qh_core.specs.Timers.{AreLostByAge, IsProbed, IsTimedOut}
use Rattle.qh_core.specs.declared.event.EndpointEvent.{EndpointEvent}
use Rattle.qh_core.specs.declared.event.Event.{Event}
use Rattle.qh_core.specs.declared.inner.Inner.{Inner}
use Rattle.qh_core.specs.declared.state.Close.{Close as CloseReason}
use Rattle.qh_half.specs.declared.fault.WriteFault.{WriteFault}
use Rattle.qh_loss.specs.declared.probe.Probe.{Probe}
use Rattle.qh_loss.specs.declared.probe.Probe.TheVariants.{Others, Ping, Stream}
use Rattle.qh_packet.specs.Session.{AcceptsTag, SealsTag}
use Rattle.qh_recovery.specs.declared.sent_packets.SentPacket.{SentPacket}
use Rattle.qh_space.specs.Sending.{AreElicitingPut, IsPacketMade, may_elicit, with_sent}
use Rattle.qh_space.specs.Timers.{pings_after}
use Rattle.qh_space.specs.declared.data_space.DataSpace.{DataSpace}
use Rattle.qh_spec.specs.Transcript.{Act}
use Rattle.qh_streams.specs.declared.frames.SentFrame.{SentFrame}
use Rattle.qh_streams.specs.declared.items.Item.{Item}

-- ---- the space

pinged_log : (probe : Probe) (s : DataSpace) → (pings_after probe s).log ≡ s.log
pinged_log Ping s = refl
pinged_log Stream s = refl
pinged_log Others s = refl

lost_log : (now : ℕ) (old new : DataSpace) → AreLostByAge now old new → new.log ≡ old.log
lost_log now old new (AreLostByAge.due _ _ _ _ _ lost) = ap (λ (s : DataSpace). s.log) lost.rest_is
lost_log now old new (AreLostByAge.not_yet _ is) = ap (λ (s : DataSpace). s.log) is

probed_log : (now : ℕ) (old new : DataSpace) → IsProbed now old new → new.log ≡ old.log
probed_log now old new (IsProbed.due _ _ _ due) = ap (λ (s : DataSpace). s.log) due.rest_is ∙ pinged_log due.probe _
probed_log now old new (IsProbed.not_yet _ is) = ap (λ (s : DataSpace). s.log) is

sent_log : (s : DataSpace) (packet : SentPacket SentFrame) (b : Bool) → (with_sent s packet b).log ≡ s.log
sent_log s packet true = refl
sent_log s packet false = refl

elicited_log : (may : Bool) (room : ℕ) (old mid : DataSpace) (before after : List ℕ) (frames : List SentFrame) (P : Type 0) → MatchBool may (AreElicitingPut room old mid before after frames) ((mid ≡ old) × P)
    → mid.log ≡ old.log
elicited_log true room old mid before after frames P put = ap (λ (s : DataSpace). s.log) put.rest_is
elicited_log false room old mid before after frames P none = ap (λ (s : DataSpace). s.log) none.0

packet_log : (now overhead room : ℕ) (old new : DataSpace) (before after : List ℕ) → IsPacketMade now overhead room old new before after → new.log ≡ old.log
packet_log now overhead room old new before after made =
    ap (λ (s : DataSpace). s.log) made.new_is ∙ sent_log made.mid made.packet _ ∙ elicited_log (may_elicit old) _ old made.mid made.out_mid after made.packet.frames.items _ made.eliciting

module _ {S : Type 0} where
  -- ---- the log of the streams

  abbrev pub log_of : Inner S → Option (List Item)
  log_of c = c.space.log

  refused_log : (id : ℕ) (e : WriteFault) (old new : Inner S) → IsWriteRefused id e old new → log_of new ≡ log_of old
  refused_log id e old new (IsWriteRefused.closed _ _ is) = ap log_of is
  refused_log id e old new (IsWriteRefused.wanting _ _ _ is) = ap log_of is
  refused_log id e old new (IsWriteRefused.refused _ _ is) = ap log_of is

  pub stream_log : (old new : Inner S) (acts : List Act) → IsStreamCall old new acts → log_of new ≡ log_of old
  stream_log old new _ (IsStreamCall.unchanged is) = ap log_of is
  stream_log old new _ (IsStreamCall.opened _ _ _ _ _ _ is) = ap log_of is
  stream_log old new _ (IsStreamCall.accepted _ _ is) = ap log_of is
  stream_log old new _ (IsStreamCall.wrote _ _ _ _ _ _ is) = ap log_of is
  stream_log old new _ (IsStreamCall.unwritten id e denied) = refused_log id e old new denied
  stream_log old new _ (IsStreamCall.finished _ _ is) = ap log_of is
  stream_log old new _ (IsStreamCall.reset _ _ _ is) = ap log_of is
  stream_log old new _ (IsStreamCall.prioritized _ _ _ is) = ap log_of is
  stream_log old new _ (IsStreamCall.read _ _ _ _ _ _ is) = ap log_of is
  stream_log old new _ (IsStreamCall.stopped _ _ _ is) = ap log_of is
  stream_log old new _ (IsStreamCall.took_reset _ _ _ is) = ap log_of is
  stream_log old new _ (IsStreamCall.concurrent _ _ is) = ap log_of is
  stream_log old new _ (IsStreamCall.send_window _ is) = ap log_of is
  stream_log old new _ (IsStreamCall.receive_window _ is) = ap log_of is

  pub timed_log : (now : ℕ) (old new : Inner S) → IsTimedOut now old new → log_of new ≡ log_of old
  timed_log now old new (IsTimedOut.idle _ _ is) = ap log_of is
  timed_log now old new (IsTimedOut.recovery mid _ _ lost probed _) = probed_log now mid new.space probed ∙ lost_log now old.space mid lost
  timed_log now old new (IsTimedOut.closed _ _ _ _ _ is) = ap log_of is
  timed_log now old new (IsTimedOut.draining _ _ _ is) = ap log_of is
  timed_log now old new (IsTimedOut.waits _ _ _ is) = ap log_of is
  timed_log now old new (IsTimedOut.drained _ is) = ap log_of is

  pub polled_log : (told : Option Event) (old new : Inner S) → IsPolledEvent old new told → log_of new ≡ log_of old
  polled_log _ old new (IsPolledEvent.stream _ _ is) = ap log_of is
  polled_log _ old new (IsPolledEvent.lost _ _ _ _ _ is) = ap log_of is
  polled_log _ old new (IsPolledEvent.none _ _ is) = ap log_of is

  pub drained_log : (told : Option EndpointEvent) (old new : Inner S) → IsDrainedTold old new told → log_of new ≡ log_of old
  drained_log _ old new (IsDrainedTold.drained _ _ is) = ap log_of is
  drained_log _ old new (IsDrainedTold.none _ is) = ap log_of is

  pub made_log : (now : Moment) (old new : Inner S) (before frames : List ℕ) → AreFramesMade now old new before frames → log_of new ≡ log_of old
  made_log now old new before frames (AreFramesMade.packet _ packet _) = packet_log now.0 _ _ old.space new.space before _ packet
  made_log now old new before frames (AreFramesMade.control _ packet _) = ap (λ (s : DataSpace). s.log) packet.sent.new_is
  made_log now old new before frames (AreFramesMade.close _ _ _ _ is) = ap log_of is

  maybe_closed : (up : Bool) (now : Moment) (reason : CloseReason) (error : ConnectionError) (old new : Inner S) → (up ≡ true → IsClosedWith now reason error old new) → (up ≡ false → new ≡ old) → log_of new ≡ log_of old
  maybe_closed true now reason error old new closes keeps = ap log_of (closes refl).rest_is
  maybe_closed false now reason error old new closes keeps = ap log_of (keeps refl)

  pub close_log : (now : Moment) (reason : CloseReason) (error : ConnectionError) (old new : Inner S) → (is_open old.state ≡ true → IsClosedWith now reason error old new) → (is_open old.state ≡ false → new ≡ old)
      → log_of new ≡ log_of old
  close_log now reason error old new closes keeps = maybe_closed (is_open old.state) now reason error old new closes keeps

  -- the handshake ended it
  pub ends_log : (now : Moment) (e : ConnectionError) (old new : Inner S) → EndsBy now e old new → log_of new ≡ log_of old
  ends_log now (Fault e) old new f = ap log_of f.closed.rest_is
  ends_log now e old new d = ap log_of d.rest_is

  pub heard_log : (brings_close : Bool) (old new : Inner S) → IsClosedHeard brings_close old new → log_of new ≡ log_of old
  heard_log b old new (IsClosedHeard.told_again _ _ _ _ _ is) = ap log_of is
  heard_log b old new (IsClosedHeard.closed_too _ _ _ _ _ is) = ap log_of is
  heard_log b old new (IsClosedHeard.draining _ _ is) = ap log_of is
  heard_log b old new (IsClosedHeard.drained _ is) = ap log_of is

  -- at an end that closed a datagram brings the streams nothing
  pub shut_log : (accepts : AcceptsTag) (now : Moment) (d : List ℕ) (old new : Inner S) → is_open old.state ≡ false → IsDatagramTaken accepts now d old new → log_of new ≡ log_of old
  shut_log accepts now d old new shut (IsDatagramTaken.dropped up _ _) = let z : true ≡ false = sym up ∙ shut in cc
  shut_log accepts now d old new shut (IsDatagramTaken.handled _ _ up _ _) = let z : true ≡ false = sym up ∙ shut in cc
  shut_log accepts now d old new shut (IsDatagramTaken.told_again _ _ _ _ _ is) = ap log_of is
  shut_log accepts now d old new shut (IsDatagramTaken.closed_too _ _ _ _ _ is) = ap log_of is
  shut_log accepts now d old new shut (IsDatagramTaken.draining _ _ is) = ap log_of is
  shut_log accepts now d old new shut (IsDatagramTaken.drained _ is) = ap log_of is

  -- what goes out brings them nothing
  pub transmit_log : (sealed : SealsTag) (now : Moment) (before after : List ℕ) (P : Type 0) (r : Result (Option Transmit) OutOfMemory) (old new : Inner S)
      → IfOk r (λ o. IfSome o (λ t. IsDatagramMade sealed now old new before after t)) → IfOk r (λ o. o ≡ None → P × NothingIsSent old new) → OnOk r (log_of new ≡ log_of old)
  transmit_log sealed now before after P (Ok (Some t)) old new some none = made_log now old new _ _ some.bytes.made
  transmit_log sealed now before after P (Ok None) old new some none = ap log_of (none refl).1.0
  transmit_log sealed now before after P (Err e) old new some none = tt

  -- ---- what was told

  -- that the connection is lost, and that it is drained, was told as before
  pub record KeepsTold (old new : Inner S) : Type 0 where
    pub lost : new.is_lost_told ≡ old.is_lost_told
    pub drained : new.is_drained_told ≡ old.is_drained_told

  pub told_by : (old new to : Inner S) → new ≡ to → to.is_lost_told ≡ old.is_lost_told → to.is_drained_told ≡ old.is_drained_told → KeepsTold old new
  told_by old new to is lost drained = record { lost = ap (λ (z : Inner S). z.is_lost_told) is ∙ lost; drained = ap (λ (z : Inner S). z.is_drained_told) is ∙ drained }

  pub failed_told : (old new : Inner S) → IsFailedBy old new → KeepsTold old new
  failed_told old new f = told_by old new _ f.rest_is refl refl

  pub timed_told : (now : ℕ) (old new : Inner S) → IsTimedOut now old new → KeepsTold old new
  timed_told now old new (IsTimedOut.idle _ _ is) = told_by old new _ is refl refl
  timed_told now old new (IsTimedOut.recovery _ _ _ _ _ is) = told_by old new _ is refl refl
  timed_told now old new (IsTimedOut.closed _ _ _ _ _ is) = told_by old new _ is refl refl
  timed_told now old new (IsTimedOut.draining _ _ _ is) = told_by old new _ is refl refl
  timed_told now old new (IsTimedOut.waits _ _ _ is) = told_by old new _ is refl refl
  timed_told now old new (IsTimedOut.drained _ is) = told_by old new _ is refl refl

  ends_told : (now : Moment) (end : Option ConnectionError) (old mid new : Inner S) → KeepsTold old mid → GoesOnWith now end mid new → KeepsTold old new
  ends_told now None old mid new kept is = told_by old new mid is kept.lost kept.drained
  ends_told now (Some (Fault e)) old mid new kept f = told_by old new _ f.closed.rest_is kept.lost kept.drained
  ends_told now (Some e) old mid new kept d = told_by old new _ d.rest_is kept.lost kept.drained

  handled_told : (now : Moment) (number : ℕ) (frames : List ℕ) (old new : Inner S) → IsPacketHandled now number frames old new → KeepsTold old new
  handled_told now number frames old new (IsPacketHandled.repeated _ is) = told_by old new _ is refl refl
  handled_told now number frames old new (IsPacketHandled.empty _ _ _ _ f) = told_by old new _ f.closed.rest_is refl refl
  handled_told now number frames old new (IsPacketHandled.faulty _ _ _ _ _ f) = told_by old new _ f.closed.rest_is refl refl
  handled_told now number frames old new (IsPacketHandled.unnoted _ _ _ _ _ f) = told_by old new _ f.closed.rest_is refl refl
  handled_told now number frames old new (IsPacketHandled.taken _ p) = ends_told now p.end old (record old { space = p.space; idle = _ }) new (record { lost = refl; drained = refl }) p.goes_on

  taken_told : (accepts : AcceptsTag) (now : Moment) (d : List ℕ) (old new : Inner S) → IsDatagramTaken accepts now d old new → KeepsTold old new
  taken_told accepts now d old new (IsDatagramTaken.dropped _ _ is) = told_by old new _ is refl refl
  taken_told accepts now d old new (IsDatagramTaken.handled number frames _ _ handled) = handled_told now number frames old new handled
  taken_told accepts now d old new (IsDatagramTaken.told_again _ _ _ _ _ is) = told_by old new _ is refl refl
  taken_told accepts now d old new (IsDatagramTaken.closed_too _ _ _ _ _ is) = told_by old new _ is refl refl
  taken_told accepts now d old new (IsDatagramTaken.draining _ _ is) = told_by old new _ is refl refl
  taken_told accepts now d old new (IsDatagramTaken.drained _ is) = told_by old new _ is refl refl

  -- whether a datagram is taken or memory is wanting for it
  pub datagram_told : {X E : Type 0} (accepts : AcceptsTag) (now : Moment) (d : List ℕ) (n : ℕ) (old new : Inner S) (r : Result X E) → OnOk r (IsDatagramTaken accepts now d (counted_in n old) new)
      → OnErr r (IsFailedBy (counted_in n old) new) → KeepsTold old new
  datagram_told accepts now d n old new (Ok x) taken failed = let kept = taken_told accepts now d (counted_in n old) new taken in record { lost = kept.lost; drained = kept.drained }
  datagram_told accepts now d n old new (Err e) taken failed = let kept = failed_told (counted_in n old) new failed in record { lost = kept.lost; drained = kept.drained }
