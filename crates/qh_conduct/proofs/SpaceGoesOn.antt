-- What a step of the space leaves of what was announced.
use Rattle.std.proofs.Common.{◌≡◌, ℕ, ◌+◌, ◌-◌, nat_lt, Bool, true, false, List, length, Option, Some, None, refl, sym, ap, subst, ◌∙◌}
use Rattle.std.specs.Prelude.{MatchBool}
use Rattle.qh_base.specs.declared.connection_error.ConnectionError.{ConnectionError}
use Rattle.qh_conduct.proofs.StreamsGoOn.{GoOn, acked_goes, go_on, handed_goes, lost_goes, same_go}
use Rattle.qh_conduct.proofs.StreamsReceive.{received_go}
use Rattle.qh_core.specs.Receiving.{AreFramesTaken}
use Rattle.qh_core.specs.Receiving.AreFramesTaken.{none as none_taken, more as more_taken, closed as closed_by, refused as refused_at}
use Rattle.qh_core.specs.Timers.{AreLostByAge, IsProbed}
use Rattle.qh_core.specs.Timers.AreLostByAge.{due as age_due, not_yet as age_not_yet}
use Rattle.qh_core.specs.Timers.IsProbed.{due as probe_due, not_yet as probe_not_yet}
use Rattle.qh_frame.specs.declared.frame.Frame.{Frame}
use Rattle.qh_history.proofs.Carried.{by_frame, by_loss, by_packet, by_probe}
use Rattle.qh_loss.specs.declared.probe.Probe.{Probe}
use Rattle.qh_loss.specs.declared.probe.Probe.TheVariants as probe
use Rattle.qh_recovery.specs.declared.sent_packets.SentPacket.{SentPacket}
use Rattle.qh_space.specs.Receiving.{IsFrameTaken, IsLossTaken, frame_refusal}
use Rattle.qh_space.specs.Receiving.IsFrameTaken.{passive, streams as of_streams, ack as of_ack, challenge, close}
use Rattle.qh_space.specs.Sending.{AreElicitingPut, IsPacketMade, IsSentBare, may_elicit, with_sent}
use Rattle.qh_space.specs.Timers.{pings_after}
use Rattle.qh_space.specs.declared.data_space.DataSpace.{DataSpace}
use Rattle.qh_streams.specs.Streams.{PlainStreams, IsHandedOver, IsLostFrame}
use Rattle.qh_streams.specs.declared.frames.SentFrame.{SentFrame}

-- the streams go on so, the next number stays, and so do the numbers that are to be acknowledged, and which DATAGRAM frames are taken
pub record SpaceGoes (old new : DataSpace) : Type 0 where
  pub streams : GoOn old.streams new.streams
  pub next : new.next_number ≡ old.next_number
  pub acks : new.acks ≡ old.acks
  pub receives : new.datagram_receive ≡ old.datagram_receive

pub space_same : (s : DataSpace) → SpaceGoes s s
space_same s = record { streams = same_go s.streams; next = refl; acks = refl; receives = refl }

pub space_on : (first old new : DataSpace) → SpaceGoes first old → SpaceGoes old new → SpaceGoes first new
space_on first old new before after = record {
  streams = go_on first.streams old.streams new.streams after.streams before.streams;
  next = after.next ∙ before.next;
  acks = after.acks ∙ before.acks;
  receives = after.receives ∙ before.receives;
}

lost_on : (first old new : PlainStreams) (f : SentFrame) → IsLostFrame old new f → GoOn first old → GoOn first new
lost_on first old new f lost p = go_on first old new (lost_goes old new f lost) p

handed_on : (first old new : PlainStreams) (room : ℕ) (f : SentFrame) → IsHandedOver old new room f → GoOn first old → GoOn first new
handed_on first old new room f handed p = go_on first old new (handed_goes old new room f handed) p

-- ---- frames that come

frame_streams : (now : ℕ) (old new : DataSpace) (f : Frame) (end : Option ConnectionError) → frame_refusal old f ≡ None → IsFrameTaken now old new f end → GoOn old.streams new.streams
frame_streams now old new f end free taken = by_frame (λ s. GoOn old.streams s) (lost_on old.streams) (λ was s g a p. go_on old.streams was s (acked_goes was s g a) p) now old new f end
    (λ c of r. received_go old.streams new.streams c (sym (of.refusal old) ∙ free) r) (λ none. same_go old.streams) taken

-- all but the streams
record IsRestSame (old new : DataSpace) : Type 0 where
  next : new.next_number ≡ old.next_number
  acks : new.acks ≡ old.acks
  receives : new.datagram_receive ≡ old.datagram_receive

-- the space is this one now, which has the same
rest_of : (old new s : DataSpace) → new ≡ s → IsRestSame old s → IsRestSame old new
rest_of old new s e same = subst (λ (z : DataSpace). IsRestSame old z) (sym e) same

rest_on : (first old new : DataSpace) → IsRestSame first old → IsRestSame old new → IsRestSame first new
rest_on first old new before after = record { next = after.next ∙ before.next; acks = after.acks ∙ before.acks; receives = after.receives ∙ before.receives }

lost_next : (largest now : ℕ) (old new : DataSpace) → IsLossTaken largest now old new → IsRestSame old new
lost_next largest now old new l = rest_of old new _ l.rest_is (record { next = refl; acks = refl; receives = refl })

frame_rest : (now : ℕ) (old new : DataSpace) (f : Frame) (end : Option ConnectionError) → IsFrameTaken now old new f end → IsRestSame old new
frame_rest now old new f end (passive _ idle e) = rest_of old new _ e (record { next = refl; acks = refl; receives = refl })
frame_rest now old new f end (of_streams _ c is r e) = rest_of old new _ e (record { next = refl; acks = refl; receives = refl })
frame_rest now old new f end (of_ack a r) =
    rest_on old r.mid new (rest_of old r.mid _ r.mid_is (record { next = refl; acks = refl; receives = refl })) (lost_next _ now r.mid new r.lost)
frame_rest now old new f end (challenge bytes e) = rest_of old new _ e (record { next = refl; acks = refl; receives = refl })
frame_rest now old new f end (close _ error is e) = rest_of old new _ e (record { next = refl; acks = refl; receives = refl })

frame_goes : (now : ℕ) (old new : DataSpace) (f : Frame) (end : Option ConnectionError) → frame_refusal old f ≡ None → IsFrameTaken now old new f end → SpaceGoes old new
frame_goes now old new f end free taken = let rest = frame_rest now old new f end taken in record { streams = frame_streams now old new f end free taken; next = rest.next; acks = rest.acks; receives = rest.receives }

pub frames_go : (now : ℕ) (bytes : List ℕ) (old new : DataSpace) (taken : List Frame) (end : Option ConnectionError) → AreFramesTaken now bytes old new taken end → SpaceGoes old new
frames_go now bytes old new taken end (none_taken _) = space_same old
frames_go now bytes old new taken end (more_taken _ rest f _ mid _ later _ b free step t) = space_on old mid new (frame_goes now old mid f None free step) (frames_go now rest mid new later end t)
frames_go now bytes old new taken end (closed_by _ rest f _ _ e b free step) = frame_goes now old new f (Some e) free step
frames_go now bytes old new taken end (refused_at _ rest f _ e b n r) = space_same old

-- ---- what is due

lost_go : (largest now : ℕ) (old new : DataSpace) → IsLossTaken largest now old new → SpaceGoes old new
lost_go largest now old new l =
    let rest = lost_next largest now old new l in
    record { streams = by_loss (λ s. GoOn old.streams s) (lost_on old.streams) largest now old new l (same_go old.streams); next = rest.next; acks = rest.acks; receives = rest.receives }

pub aged_go : (now : ℕ) (old new : DataSpace) → AreLostByAge now old new → SpaceGoes old new
aged_go now old new (age_due moment largest is by_now acked lost) = lost_go largest now old new lost
aged_go now old new (age_not_yet later e) = subst (λ (s : DataSpace). SpaceGoes old s) (sym e) (space_same old)

pings_rest : (p : Probe) (s : DataSpace) → IsRestSame s (pings_after p s)
pings_rest probe.Stream s = record { next = refl; acks = refl; receives = refl }
pings_rest probe.Others s = record { next = refl; acks = refl; receives = refl }
pings_rest probe.Ping s = record { next = refl; acks = refl; receives = refl }

pub probed_go : (now : ℕ) (old new : DataSpace) → IsProbed now old new → SpaceGoes old new
probed_go now old new (probe_due moment is by_now due) =
    let rest = pings_rest due.probe (record old { streams = new.streams; is_probe_due = true }) in
    record {
      streams = by_probe (λ s. GoOn old.streams s) (lost_on old.streams) old new due (same_go old.streams);
      next = ap (λ (s : DataSpace). s.next_number) due.rest_is ∙ rest.next;
      acks = ap (λ (s : DataSpace). s.acks) due.rest_is ∙ rest.acks;
      receives = ap (λ (s : DataSpace). s.datagram_receive) due.rest_is ∙ rest.receives;
    }
probed_go now old new (probe_not_yet later e) = subst (λ (s : DataSpace). SpaceGoes old s) (sym e) (space_same old)

-- ---- what is handed out

pub made_go : (now around room : ℕ) (old new : DataSpace) (before after : List ℕ) → IsPacketMade now around room old new before after → GoOn old.streams new.streams
made_go now around room old new before after made =
    by_packet (λ s. GoOn old.streams s) (lost_on old.streams) (handed_on old.streams) now around room old new before after made (same_go old.streams)

sent_next : (s : DataSpace) (packet : SentPacket SentFrame) (is_eliciting : Bool) → (with_sent s packet is_eliciting).next_number ≡ s.next_number + 1
sent_next s packet true = refl
sent_next s packet false = refl

sent_receives : (s : DataSpace) (packet : SentPacket SentFrame) (is_eliciting : Bool) → (with_sent s packet is_eliciting).datagram_receive ≡ s.datagram_receive
sent_receives s packet true = refl
sent_receives s packet false = refl

put_receives : (may : Bool) (room : ℕ) (old new : DataSpace) (before after : List ℕ) (frames : List SentFrame) → MatchBool may (AreElicitingPut room old new before after frames) ((new ≡ old) × (after ≡ before))
    → new.datagram_receive ≡ old.datagram_receive
put_receives true room old new before after frames put = ap (λ (s : DataSpace). s.datagram_receive) put.rest_is
put_receives false room old new before after frames none = ap (λ (s : DataSpace). s.datagram_receive) none.0

pub made_receives : (now around room : ℕ) (old new : DataSpace) (before after : List ℕ) → IsPacketMade now around room old new before after → new.datagram_receive ≡ old.datagram_receive
made_receives now around room old new before after made =
    ap (λ (s : DataSpace). s.datagram_receive) made.new_is ∙ sent_receives made.mid made.packet (nat_lt (length made.out_mid) (length after))
    ∙ put_receives (may_elicit old) (room - (length made.out_mid - length before)) old made.mid made.out_mid after made.packet.frames.items made.eliciting

put_next : (may : Bool) (room : ℕ) (old new : DataSpace) (before after : List ℕ) (frames : List SentFrame) → MatchBool may (AreElicitingPut room old new before after frames) ((new ≡ old) × (after ≡ before))
    → new.next_number ≡ old.next_number
put_next true room old new before after frames put = ap (λ (s : DataSpace). s.next_number) put.rest_is
put_next false room old new before after frames none = ap (λ (s : DataSpace). s.next_number) none.0

pub made_rest : (now around room : ℕ) (old new : DataSpace) (before after : List ℕ) → IsPacketMade now around room old new before after
    → (new.next_number ≡ old.next_number + 1) × (new.acks.ranges ≡ old.acks.ranges)
made_rest now around room old new before after made = (
  ap (λ (s : DataSpace). s.next_number) made.new_is ∙ sent_next made.mid made.packet (nat_lt (length made.out_mid) (length after))
      ∙ ap (λ (n : ℕ). n + 1) (put_next (may_elicit old) (room - (length made.out_mid - length before)) old made.mid made.out_mid after made.packet.frames.items made.eliciting),
  ap (λ (s : DataSpace). s.acks.ranges) made.new_is,
)

-- a packet of which nothing is kept leaves the streams as they are
pub bare_streams : (now size : ℕ) (old new : DataSpace) → IsSentBare now size old new → new.streams ≡ old.streams
bare_streams now size old new bare = ap (λ (s : DataSpace). s.streams) bare.new_is

pub bare_go : (now size : ℕ) (old new : DataSpace) → IsSentBare now size old new → GoOn old.streams new.streams
bare_go now size old new bare = subst (λ (s : PlainStreams). GoOn old.streams s) (sym (bare_streams now size old new bare)) (same_go old.streams)

pub bare_receives : (now size : ℕ) (old new : DataSpace) → IsSentBare now size old new → new.datagram_receive ≡ old.datagram_receive
bare_receives now size old new bare = ap (λ (s : DataSpace). s.datagram_receive) bare.new_is

pub bare_rest : (now size : ℕ) (old new : DataSpace) → IsSentBare now size old new → (new.next_number ≡ old.next_number + 1) × (new.acks.ranges ≡ old.acks.ranges)
bare_rest now size old new bare = (ap (λ (s : DataSpace). s.next_number) bare.new_is, ap (λ (s : DataSpace). s.acks.ranges) bare.new_is)
