-- Which end the streams are of, and the peer's first limits, stay whatever frames come and whatever packets are made.
use Rattle.std.proofs.Common.{◌≡◌, ℕ, Bool, true, false, ◌&&◌, not, List, ◌++◌, Option, refl, ap, ◌∙◌, inl, inr}
use Rattle.std.proofs.lemmas.Bool.{cases_Bool}
use Rattle.qh_base.specs.declared.connection_error.ConnectionError.{ConnectionError}
use Rattle.qh_frame.specs.declared.frame.Frame.{Frame}
use Rattle.qh_halves.specs.Counts.{is_own, is_bi}
use Rattle.qh_halves.specs.declared.counts.StreamCounts.{StreamCounts}
use Rattle.qh_history.specs.Standing.{SameEnd}
use Rattle.qh_history.proofs.Carried.{by_loss, by_probe, by_frame, by_packet}
use Rattle.qh_space.specs.Receiving.{IsFrameTaken, IsLossTaken}
use Rattle.qh_space.specs.Sending.{IsPacketMade}
use Rattle.qh_space.specs.Timers.{IsProbeDue}
use Rattle.qh_space.specs.declared.data_space.DataSpace.{DataSpace}
use Rattle.qh_spec.specs.declared.sides.Side.{Side}
use Rattle.qh_streams.specs.Streams.{PlainStreams, with_counts, counted_closed, finished_events, is_live, was_opened, HasArrived, IsReceived, IsHandedOver, IsLostFrame, IsAckedFrame}
use Rattle.qh_streams.specs.Streams.IsReceived.{stream as stream_received, reset as reset_received, stop as stop_received, stopped_before, max_data as max_data_received, max_stream_data as max_stream_data_received, max_streams as max_streams_received}
use Rattle.qh_streams.specs.Streams.IsHandedOver.{stream as stream_handed, reset as reset_handed, stop as stop_handed, max_stream_data as max_stream_data_handed, max_data as max_data_handed, max_streams as max_streams_handed}
use Rattle.qh_streams.specs.Streams.IsLostFrame.{stream as stream_lost, reset as reset_lost, stop as stop_lost, max_stream_data as max_stream_data_lost, max_data as max_data_lost, max_streams as max_streams_lost}
use Rattle.qh_streams.specs.Streams.IsAckedFrame.{stream as stream_acked, reset as reset_acked, stop as stop_acked, max_stream_data as max_stream_data_acked, max_data as max_data_acked, max_streams as max_streams_acked}
use Rattle.qh_streams.specs.declared.frames.PeerLimits.{PeerLimits}
use Rattle.qh_streams.specs.declared.frames.SentFrame.{SentFrame}
use Rattle.qh_streams.specs.declared.frames.StreamFrame.{StreamFrame}

abbrev end_of : PlainStreams → Side × PeerLimits
end_of s = (s.side, s.peer)

counts_end : (new s : PlainStreams) (two_way : Bool) (c : StreamCounts) → new ≡ with_counts s two_way c → end_of new ≡ end_of s
counts_end new s true c e = ap end_of e
counts_end new s false c e = ap end_of e

closed_end : (new s : PlainStreams) (id : ℕ) (was_live : Bool) → new ≡ counted_closed s id was_live → end_of new ≡ end_of s
closed_end new s id was_live e = elim (cases_Bool (not (is_own s.side id) && (was_live && not (is_live s id)))) [
  | inl gone ↦ counts_end new s (is_bi id) _ (rw gone at e)
  | inr there ↦ ap end_of (rw there at e)
]

-- ---- frames that are lost, acknowledged or handed over

lost_end : (old new : PlainStreams) (f : SentFrame) → IsLostFrame old new f → end_of new ≡ end_of old
lost_end old new f (stream_lost id piece step rest) = ap end_of rest
lost_end old new f (reset_lost id reset step rest) = ap end_of rest
lost_end old new f (stop_lost id code step rest) = ap end_of rest
lost_end old new f (max_data_lost limit rest) = ap end_of rest
lost_end old new f (max_stream_data_lost id limit step rest) = ap end_of rest
lost_end old new f (max_streams_lost dir n rest) = counts_end new old _ _ rest

acked_end : (old new : PlainStreams) (f : SentFrame) → IsAckedFrame old new f → end_of new ≡ end_of old
acked_end old new f (stream_acked id piece finished step rest) = closed_end new (record old { send = new.send; events = old.events ++ finished_events finished id }) id.0 (is_live old id.0) rest
acked_end old new f (reset_acked id reset gone step rest) = closed_end new (record old { send = new.send }) id.0 (is_live old id.0) rest
acked_end old new f (stop_acked id code step rest) = ap end_of rest
acked_end old new f (max_data_acked limit rest) = ap end_of rest
acked_end old new f (max_stream_data_acked id limit step rest) = ap end_of rest
acked_end old new f (max_streams_acked dir n rest) = counts_end new old _ _ rest

handed_end : (old new : PlainStreams) (room : ℕ) (f : SentFrame) → IsHandedOver old new room f → end_of new ≡ end_of old
handed_end old new room f (stream_handed id piece next rest) = ap end_of rest
handed_end old new room f (reset_handed id reset next rest) = ap end_of rest
handed_end old new room f (stop_handed id code step rest) = ap end_of rest
handed_end old new room f (max_stream_data_handed id limit step rest) = ap end_of rest
handed_end old new room f (max_data_handed limit is due rest) = ap end_of rest
handed_end old new room f (max_streams_handed dir n is due rest) = counts_end new old _ _ rest

-- ---- frames that come

arrived_end : (old new : PlainStreams) (id : ℕ) → HasArrived old new id → end_of new ≡ end_of old
arrived_end old new id a = elim (cases_Bool (was_opened old id)) [
  | inl known ↦ ap end_of (a.known known)
  | inr fresh ↦ counts_end new _ _ _ (a.rest_is fresh)
]

came_end : {x : Side × PeerLimits} (mid new s : PlainStreams) (id : ℕ) → new ≡ counted_closed s id (is_live mid id) → end_of s ≡ end_of mid → end_of mid ≡ x → end_of new ≡ x
came_end mid new s id e same p = closed_end new s id (is_live mid id) e ∙ same ∙ p

received_end : (old new : PlainStreams) (f : StreamFrame) → IsReceived old new f → end_of new ≡ end_of old
received_end old new f (stream_received id offset payload fin r) = came_end r.mid new (record r.mid { recv = new.recv; events = _ }) id.0 r.rest_is refl (arrived_end old r.mid id.0 r.arrived)
received_end old new f (reset_received id code size r) = came_end r.mid new (record r.mid { recv = new.recv; events = _ }) id.0 r.rest_is refl (arrived_end old r.mid id.0 r.arrived)
received_end old new f (stop_received mid id code came step e) = ap end_of e ∙ arrived_end old mid id.0 came
received_end old new f (stopped_before id code came was) = arrived_end old new id.0 came
received_end old new f (max_data_received limit e) = ap end_of e
received_end old new f (max_stream_data_received mid id limit came step unblocked e) = ap end_of e ∙ arrived_end old mid id.0 came
received_end old new f (max_streams_received dir n e) = counts_end new _ _ _ e

-- ---- the space

both : (old new : DataSpace) → end_of new.streams ≡ end_of old.streams → SameEnd old new
both old new e = (ap (λ (x : Side × PeerLimits). x.0) e, ap (λ (x : Side × PeerLimits). x.1) e)

pub frame : (now : ℕ) (old new : DataSpace) (frame : Frame) (closed : Option ConnectionError) → IsFrameTaken now old new frame closed → SameEnd old new
frame now old new f closed taken = both old new
    (by_frame (λ s. end_of s ≡ end_of old.streams) (λ was s g l p. lost_end was s g l ∙ p) (λ was s g a p. acked_end was s g a ∙ p) now old new f closed
    (λ c of r. received_end old.streams new.streams c r) (λ none. refl) taken)

pub lost : (largest_acked now : ℕ) (old new : DataSpace) → IsLossTaken largest_acked now old new → SameEnd old new
lost largest now old new l = both old new (by_loss (λ s. end_of s ≡ end_of old.streams) (λ was s g l p. lost_end was s g l ∙ p) largest now old new l refl)

pub probe : (old new : DataSpace) → IsProbeDue old new → SameEnd old new
probe old new due = both old new (by_probe (λ s. end_of s ≡ end_of old.streams) (λ was s g l p. lost_end was s g l ∙ p) old new due refl)

pub made : (now overhead room : ℕ) (old new : DataSpace) (before after : List ℕ) → IsPacketMade now overhead room old new before after → SameEnd old new
made now overhead room old new before after m = both old new
    (by_packet (λ s. end_of s ≡ end_of old.streams) (λ was s g l p. lost_end was s g l ∙ p) (λ was s r g h p. handed_end was s r g h ∙ p) now overhead room old new before after m refl)
