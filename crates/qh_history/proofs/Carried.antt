-- What each frame that is lost, acknowledged or handed over leaves of the streams as it was, the space leaves.
use Rattle.std.proofs.Common.{◌≡◌, ◌⊎◌, ℕ, ◌-◌, nat_lt, Bool, true, false, List, length, Option, None, refl, sym, ap, subst, ◌∙◌, inl, inr}
use Rattle.std.specs.Prelude.{MatchBool}
use Rattle.std.proofs.lemmas.Bool.{false≢true}
use Rattle.qh_base.specs.declared.connection_error.ConnectionError.{ConnectionError}
use Rattle.qh_frame.specs.declared.frame.Frame.{Frame}
use Rattle.qh_history.proofs.Speaking.{IsSilent, SpeaksOf, speaks}
use Rattle.qh_loss.specs.Owed.{frames_out}
use Rattle.qh_loss.specs.Settled.{AreQueuedAgain, IsProbeQueued}
use Rattle.qh_loss.specs.Settled.AreQueuedAgain.{none as none_again, owed as owed_again, settled as settled_again}
use Rattle.qh_loss.specs.Settled.IsProbeQueued.{stream as stream_probe, others as others_probe, ping as ping_probe, nothing as no_probe}
use Rattle.qh_loss.specs.declared.probe.Probe.{Probe}
use Rattle.qh_recovery.specs.declared.sent_packets.SentPacket.{SentPacket}
use Rattle.qh_space.specs.Receiving.{IsFrameTaken, IsLossTaken, coming_of}
use Rattle.qh_space.specs.Receiving.IsFrameTaken.{passive, streams as of_streams, ack as of_ack, challenge, close}
use Rattle.qh_space.specs.Sending.{AreElicitingPut, IsPacketMade, may_elicit, with_sent}
use Rattle.qh_space.specs.Timers.{IsProbeDue}
use Rattle.qh_space.specs.declared.data_space.DataSpace.{DataSpace}
use Rattle.qh_streams.specs.Streams.{PlainStreams, AreAcked, AreLost, AreWritten, IsAckedFrame, IsHandedOver, IsLostFrame, IsReceived}
use Rattle.qh_streams.specs.Streams.AreAcked.{none as none_acked, more as more_acked}
use Rattle.qh_streams.specs.Streams.AreLost.{none as none_lost, more as more_lost}
use Rattle.qh_streams.specs.Streams.AreWritten.{none as none_written, more as more_written}
use Rattle.qh_streams.specs.declared.frames.SentFrame.{SentFrame}
use Rattle.qh_streams.specs.declared.frames.StreamFrame.{StreamFrame}
use Rattle.qh_transcript.proofs.ReceivingLists.{none_some, some_is}

pub sent_streams : (s : DataSpace) (packet : SentPacket SentFrame) (is_eliciting : Bool) → (with_sent s packet is_eliciting).streams ≡ s.streams
sent_streams s packet true = refl
sent_streams s packet false = refl

of_stream : (now : ℕ) (old new : DataSpace) (f : Frame) (closed : Option ConnectionError) (c : StreamFrame) → SpeaksOf f c → IsFrameTaken now old new f closed → IsReceived old.streams new.streams c
of_stream now old new f closed c of (passive _ idle e) = absurd (false≢true (sym of.active ∙ idle))
of_stream now old new f closed c of (of_streams _ d is r rest) = subst (λ (c : StreamFrame). IsReceived old.streams new.streams c) (some_is d c (sym is ∙ of.is)) r
of_stream now old new f closed c of (of_ack a r) = none_some _ None c refl of.is
of_stream now old new f closed c of (challenge bytes e) = none_some _ None c refl of.is
of_stream now old new f closed c of (close _ error is e) = absurd (of.stays error is)

-- ---- frames that are lost

module _ (P : PlainStreams → Type 0) (lost : (old new : PlainStreams) (f : SentFrame) → IsLostFrame old new f → P old → P new) where
  all_lost : (old new : PlainStreams) (fs : List SentFrame) → AreLost old new fs → P old → P new
  all_lost old new fs (none_lost _) p = p
  all_lost old new fs (more_lost _ mid _ front f before last) p = lost mid new f last (all_lost old mid front before p)

  queued : (old new : PlainStreams) (fs : List SentFrame) (any : Bool) → AreQueuedAgain old new fs any → P old → P new
  queued old new fs any (none_again _) p = p
  queued old new fs any (owed_again _ mid _ front was f before last is) p = lost mid new f last (queued old mid front was before p)
  queued old new fs any (settled_again _ mid _ front was f before last is) p = lost mid new f last (queued old mid front was before p)

  probed : (old new : PlainStreams) (packets : List (ℕ × SentPacket SentFrame)) (probe : Probe) → IsProbeQueued old new packets probe → P old → P new
  probed old new packets probe (stream_probe mid before after number packet is first second) p = queued mid new _ _ second (queued old mid _ _ first p)
  probed old new packets probe (others_probe mid number packet after is first second) p = queued mid new _ _ second (queued old mid _ _ first p)
  probed old new packets probe (ping_probe mid number packet after is first second) p = queued mid new _ _ second (queued old mid _ _ first p)
  probed old new packets probe (no_probe is same) p = subst P (sym same) p

  pub by_loss : (largest now : ℕ) (old new : DataSpace) → IsLossTaken largest now old new → P old.streams → P new.streams
  by_loss largest now old new l p = all_lost old.streams new.streams (frames_out l.lost.taken) l.lost.frames p

  pub by_probe : (old new : DataSpace) → IsProbeDue old new → P old.streams → P new.streams
  by_probe old new due p = probed old.streams new.streams old.sent due.probe due.queued p

  -- ---- frames that come, where acknowledged frames leave it too

  module _ (acked : (old new : PlainStreams) (f : SentFrame) → IsAckedFrame old new f → P old → P new) where
    all_acked : (old new : PlainStreams) (fs : List SentFrame) → AreAcked old new fs → P old → P new
    all_acked old new fs (none_acked _) p = p
    all_acked old new fs (more_acked _ mid _ front f before last) p = acked mid new f last (all_acked old mid front before p)

    silent : (now : ℕ) (old new : DataSpace) (f : Frame) (closed : Option ConnectionError) → coming_of f ≡ None → IsFrameTaken now old new f closed → P old.streams → P new.streams
    silent now old new f closed none (passive _ _ e) p = subst P (sym (ap (λ (s : DataSpace). s.streams) e)) p
    silent now old new f closed none (of_streams _ c is r rest) p = none_some _ (coming_of f) c none is
    silent now old new f closed none (of_ack a r) p = by_loss _ now r.mid new r.lost (all_acked old.streams r.mid.streams (frames_out r.taken.taken) r.taken.frames p)
    silent now old new f closed none (challenge bytes e) p = subst P (sym (ap (λ (s : DataSpace). s.streams) e)) p
    silent now old new f closed none (close _ error is e) p = subst P (sym (ap (λ (s : DataSpace). s.streams) e)) p

    -- where the frame speaks of a stream it is as that frame leaves it, and else as before
    pub by_frame : (now : ℕ) (old new : DataSpace) (f : Frame) (closed : Option ConnectionError) → ((c : StreamFrame) → SpeaksOf f c → IsReceived old.streams new.streams c → P new.streams)
        → (IsSilent f → P old.streams) → IsFrameTaken now old new f closed → P new.streams
    by_frame now old new f closed received before taken = elim (speaks f) [
      | inl (c, of) ↦ received c of (of_stream now old new f closed c of taken)
      | inr none ↦ silent now old new f closed none.none taken (before none)
    ]

  -- ---- packets that are made, where frames that are handed over leave it too

  module _ (handed : (old new : PlainStreams) (room : ℕ) (f : SentFrame) → IsHandedOver old new room f → P old → P new) where
    all_written : (room : ℕ) (old new : PlainStreams) (fs : List SentFrame) (bytes : List ℕ) → AreWritten room old new fs bytes → P old → P new
    all_written room old new fs bytes (none_written _ _) p = p
    all_written room old new fs bytes (more_written _ _ mid _ f rest more first fits back behind) p = all_written _ mid new rest more behind (handed old mid room f first p)

    maybe_put : (may : Bool) (room : ℕ) (old new : DataSpace) (before after : List ℕ) (frames : List SentFrame) → MatchBool may (AreElicitingPut room old new before after frames) ((new ≡ old) × (after ≡ before))
        → P old.streams → P new.streams
    maybe_put true room old new before after frames put p = let w = put.streams in all_written _ old.streams new.streams w.frames w.bytes w.written p
    maybe_put false room old new before after frames none p = subst P (sym (ap (λ (s : DataSpace). s.streams) none.0)) p

    pub by_packet : (now overhead room : ℕ) (old new : DataSpace) (before after : List ℕ) → IsPacketMade now overhead room old new before after → P old.streams → P new.streams
    by_packet now overhead room old new before after made p =
        let same : new.streams ≡ made.mid.streams = ap (λ (s : DataSpace). s.streams) made.new_is ∙ sent_streams made.mid made.packet (nat_lt (length made.out_mid) (length after)) in
        subst P (sym same) (maybe_put (may_elicit old) (room - (length made.out_mid - length before)) old made.mid made.out_mid after made.packet.frames.items made.eliciting p)
