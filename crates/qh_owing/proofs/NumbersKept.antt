-- What a space remembers of the packet numbers that it accepted: no more where it accepts no packet.
use Rattle.std.proofs.Common.{◌≡◌, ℕ, ◌-◌, nat_lt, Bool, true, false, List, length, Option, Some, None, refl, ap, ◌∙◌}
use Rattle.std.specs.Prelude.{MatchBool}
use Rattle.qh_base.specs.declared.connection_error.ConnectionError.{ConnectionError}
use Rattle.qh_core.specs.Receiving.{AreFramesTaken}
use Rattle.qh_core.specs.Receiving.AreFramesTaken.{none as none_taken, more as more_taken, closed as closed_by, refused as refused_at}
use Rattle.qh_core.specs.Timers.{AreLostByAge, IsProbed}
use Rattle.qh_core.specs.Timers.AreLostByAge.{due as due_lost, not_yet as none_lost}
use Rattle.qh_core.specs.Timers.IsProbed.{due as due_probe, not_yet as no_probe}
use Rattle.qh_frame.specs.declared.frame.Frame.{Frame}
use Rattle.qh_loss.specs.declared.probe.Probe.{Probe}
use Rattle.qh_loss.specs.declared.probe.Probe.TheVariants as probe
use Rattle.qh_recovery.specs.declared.sent_packets.SentPacket.{SentPacket}
use Rattle.qh_space.specs.Receiving.{IsFrameTaken}
use Rattle.qh_space.specs.Receiving.IsFrameTaken.{passive, streams as of_streams, ack as of_ack, challenge, close}
use Rattle.qh_space.specs.Sending.{AreElicitingPut, IsPacketMade, may_elicit, with_sent}
use Rattle.qh_space.specs.Timers.{pings_after}
use Rattle.qh_space.specs.declared.data_space.DataSpace.{DataSpace}
use Rattle.qh_streams.specs.declared.frames.SentFrame.{SentFrame}

-- the space remembers what it did
abbrev pub HasSameNumbers : (old new : DataSpace) → Type 0
HasSameNumbers old new = new.dedup ≡ old.dedup

-- ---- frames that are taken

frame_same : (now : ℕ) (old new : DataSpace) (f : Frame) (end : Option ConnectionError) → IsFrameTaken now old new f end → HasSameNumbers old new
frame_same now old new f end (passive _ is e) = ap (λ (s : DataSpace). s.dedup) e
frame_same now old new f end (of_streams _ c is r e) = ap (λ (s : DataSpace). s.dedup) e
frame_same now old new f end (of_ack a r) = ap (λ (s : DataSpace). s.dedup) r.lost.rest_is ∙ ap (λ (s : DataSpace). s.dedup) r.mid_is
frame_same now old new f end (challenge bytes e) = ap (λ (s : DataSpace). s.dedup) e
frame_same now old new f end (close _ error is e) = ap (λ (s : DataSpace). s.dedup) e

pub frames_same : (now : ℕ) (bytes : List ℕ) (old new : DataSpace) (taken : List Frame) (end : Option ConnectionError) → AreFramesTaken now bytes old new taken end → HasSameNumbers old new
frames_same now bytes old new taken end (none_taken _) = refl
frames_same now bytes old new taken end (more_taken _ rest f _ mid _ later _ begins free one behind) = frames_same now rest mid new later end behind ∙ frame_same now old mid f None one
frames_same now bytes old new taken end (closed_by _ rest f _ _ e begins free one) = frame_same now old new f (Some e) one
frames_same now bytes old new taken end (refused_at _ rest f _ e begins named fault) = refl

-- ---- a packet that is made

sent_same : (s : DataSpace) (packet : SentPacket SentFrame) (is_eliciting : Bool) → HasSameNumbers s (with_sent s packet is_eliciting)
sent_same s packet true = refl
sent_same s packet false = refl

put_same : (may : Bool) (room : ℕ) (old new : DataSpace) (before after : List ℕ) (fs : List SentFrame) → MatchBool may (AreElicitingPut room old new before after fs) ((new ≡ old) × (after ≡ before)) → HasSameNumbers old new
put_same true room old new before after fs put = ap (λ (s : DataSpace). s.dedup) put.rest_is
put_same false room old new before after fs none = ap (λ (s : DataSpace). s.dedup) none.0

pub made_same : (now overhead room : ℕ) (old new : DataSpace) (before after : List ℕ) → IsPacketMade now overhead room old new before after → HasSameNumbers old new
made_same now overhead room old new before after m =
    ap (λ (s : DataSpace). s.dedup) m.new_is ∙ sent_same m.mid m.packet (nat_lt (length m.out_mid) (length after))
    ∙ put_same (may_elicit old) (room - (length m.out_mid - length before)) old m.mid m.out_mid after m.packet.frames.items m.eliciting

-- ---- moments

pings_same : (p : Probe) (s : DataSpace) → HasSameNumbers s (pings_after p s)
pings_same probe.Stream s = refl
pings_same probe.Others s = refl
pings_same probe.Ping s = refl

pub aged_same : (now : ℕ) (old new : DataSpace) → AreLostByAge now old new → HasSameNumbers old new
aged_same now old new (due_lost moment largest is before acked lost) = ap (λ (s : DataSpace). s.dedup) lost.rest_is
aged_same now old new (none_lost later e) = ap (λ (s : DataSpace). s.dedup) e

pub probed_same : (now : ℕ) (old new : DataSpace) → IsProbed now old new → HasSameNumbers old new
probed_same now old new (due_probe moment is before due) = ap (λ (s : DataSpace). s.dedup) due.rest_is ∙ pings_same due.probe _
probed_same now old new (no_probe later e) = ap (λ (s : DataSpace). s.dedup) e
