-- How many streams this end opened and accepted stays, whatever frames come and whatever packets are made.
use Rattle.std.proofs.Common.{◌≡◌, ℕ, Bool, true, false, ◌&&◌, not, List, [], ◌∷◌, ◌++◌, Option, Some, None, refl, ap, ◌∙◌, inl, inr}
use Rattle.std.proofs.lemmas.Bool.{cases_Bool}
use Rattle.qh_base.specs.declared.connection_error.ConnectionError.{ConnectionError}
use Rattle.qh_core.proofs.Polled.{told_apart}
use Rattle.qh_core.specs.Inner.{HaveSameCounts}
use Rattle.qh_core.specs.Receiving.{AreFramesTaken, IsAccepted}
use Rattle.qh_core.specs.Receiving.AreFramesTaken.{none, more, closed, refused}
use Rattle.qh_core.specs.Timers.{AreLostByAge, IsProbed}
use Rattle.qh_core.specs.Timers.AreLostByAge.{due as age_due, not_yet as age_not_yet}
use Rattle.qh_core.specs.Timers.IsProbed.{due as probe_due, not_yet as probe_not_yet}
use Rattle.qh_frame.specs.declared.frame.Frame.{Frame}
use Rattle.qh_halves.specs.Counts.{is_own, is_bi}
use Rattle.qh_halves.specs.declared.counts.StreamCounts.{StreamCounts}
use Rattle.qh_history.proofs.Carried.{by_loss, by_probe, by_frame, by_packet}
use Rattle.qh_space.specs.Receiving.{IsFrameTaken}
use Rattle.qh_space.specs.Sending.{IsPacketMade}
use Rattle.qh_space.specs.declared.data_space.DataSpace.{DataSpace}
use Rattle.qh_spec.specs.declared.sides.Dir.TheVariants.{Bi, Uni}
use Rattle.qh_streams.specs.Streams.{PlainStreams, counts_of, with_counts, counted_closed, dir_of, finished_events, is_live, was_opened, HasArrived, IsReceived, IsHandedOver, IsLostFrame, IsAckedFrame, IsPolled}
use Rattle.qh_streams.specs.Streams.IsReceived.{stream as stream_received, reset as reset_received, stop as stop_received, stopped_before, max_data as max_data_received, max_stream_data as max_stream_data_received, max_streams as max_streams_received}
use Rattle.qh_streams.specs.Streams.IsHandedOver.{stream as stream_handed, reset as reset_handed, stop as stop_handed, max_stream_data as max_stream_data_handed, max_data as max_data_handed, max_streams as max_streams_handed}
use Rattle.qh_streams.specs.Streams.IsLostFrame.{stream as stream_lost, reset as reset_lost, stop as stop_lost, max_stream_data as max_stream_data_lost, max_data as max_data_lost, max_streams as max_streams_lost}
use Rattle.qh_streams.specs.Streams.IsAckedFrame.{stream as stream_acked, reset as reset_acked, stop as stop_acked, max_stream_data as max_stream_data_acked, max_data as max_data_acked, max_streams as max_streams_acked}
use Rattle.qh_streams.specs.declared.frames.SentFrame.{SentFrame}
use Rattle.qh_streams.specs.declared.frames.StreamEvent.{StreamEvent}
use Rattle.qh_streams.specs.declared.frames.StreamEvent.TheVariants.{Opened}
use Rattle.qh_streams.specs.declared.frames.StreamFrame.{StreamFrame}

-- how many of one direction this end opened, and how many it accepted
abbrev own_of : StreamCounts → ℕ × ℕ
own_of c = (c.opened, c.accepted)

abbrev own : PlainStreams → (ℕ × ℕ) × (ℕ × ℕ)
own s = (own_of s.bi, own_of s.uni)

counts_own : (new s : PlainStreams) (two_way : Bool) (c : StreamCounts) → new ≡ with_counts s two_way c → own_of c ≡ own_of (counts_of s two_way) → own new ≡ own s
counts_own new s true c e same = ap own e ∙ ap (λ (x : ℕ × ℕ). (x, own_of s.uni)) same
counts_own new s false c e same = ap own e ∙ ap (λ (x : ℕ × ℕ). (own_of s.bi, x)) same

closed_own : (new s : PlainStreams) (id : ℕ) (was_live : Bool) → new ≡ counted_closed s id was_live → own new ≡ own s
closed_own new s id was_live e = elim (cases_Bool (not (is_own s.side id) && (was_live && not (is_live s id)))) [
  | inl gone ↦ counts_own new s (is_bi id) _ (rw gone at e) refl
  | inr there ↦ ap own (rw there at e)
]

-- ---- frames that are lost, acknowledged or handed over

lost_own : (old new : PlainStreams) (f : SentFrame) → IsLostFrame old new f → own new ≡ own old
lost_own old new f (stream_lost id piece step rest) = ap own rest
lost_own old new f (reset_lost id reset step rest) = ap own rest
lost_own old new f (stop_lost id code step rest) = ap own rest
lost_own old new f (max_data_lost limit rest) = ap own rest
lost_own old new f (max_stream_data_lost id limit step rest) = ap own rest
lost_own old new f (max_streams_lost dir n rest) = counts_own new old _ _ rest refl

acked_own : (old new : PlainStreams) (f : SentFrame) → IsAckedFrame old new f → own new ≡ own old
acked_own old new f (stream_acked id piece finished step rest) = closed_own new (record old { send = new.send; events = old.events ++ finished_events finished id }) id.0 (is_live old id.0) rest
acked_own old new f (reset_acked id reset gone step rest) = closed_own new (record old { send = new.send }) id.0 (is_live old id.0) rest
acked_own old new f (stop_acked id code step rest) = ap own rest
acked_own old new f (max_data_acked limit rest) = ap own rest
acked_own old new f (max_stream_data_acked id limit step rest) = ap own rest
acked_own old new f (max_streams_acked dir n rest) = counts_own new old _ _ rest refl

handed_own : (old new : PlainStreams) (room : ℕ) (f : SentFrame) → IsHandedOver old new room f → own new ≡ own old
handed_own old new room f (stream_handed id piece next rest) = ap own rest
handed_own old new room f (reset_handed id reset next rest) = ap own rest
handed_own old new room f (stop_handed id code step rest) = ap own rest
handed_own old new room f (max_stream_data_handed id limit step rest) = ap own rest
handed_own old new room f (max_data_handed limit is due rest) = ap own rest
handed_own old new room f (max_streams_handed dir n is due rest) = counts_own new old _ _ rest refl

-- ---- frames that come

same_own : (old new : PlainStreams) (two_way : Bool) (events : List StreamEvent) → own_of (counts_of old two_way) ≡ own_of (counts_of (record old { send = new.send; recv = new.recv; events = events }) two_way)
same_own old new true events = refl
same_own old new false events = refl

arrived_own : (old new : PlainStreams) (id : ℕ) → HasArrived old new id → own new ≡ own old
arrived_own old new id a = elim (cases_Bool (was_opened old id)) [
  | inl known ↦ ap own (a.known known)
  | inr fresh ↦ counts_own new _ _ _ (a.rest_is fresh) (same_own old new (is_bi id) (old.events ++ Opened (dir_of id) ∷ []))
]

came_own : (old mid new : PlainStreams) (id : ℕ) (events : List StreamEvent) → new ≡ counted_closed (record mid { recv = new.recv; events = events }) id (is_live mid id) → HasArrived old mid id → own new ≡ own old
came_own old mid new id events e arrived = closed_own new (record mid { recv = new.recv; events = events }) id (is_live mid id) e ∙ arrived_own old mid id arrived

received_own : (old new : PlainStreams) (f : StreamFrame) → IsReceived old new f → own new ≡ own old
received_own old new f (stream_received id offset payload fin r) = came_own old r.mid new id.0 _ r.rest_is r.arrived
received_own old new f (reset_received id code size r) = came_own old r.mid new id.0 _ r.rest_is r.arrived
received_own old new f (stop_received mid id code came step e) = ap own e ∙ arrived_own old mid id.0 came
received_own old new f (stopped_before id code came was) = arrived_own old new id.0 came
received_own old new f (max_data_received limit e) = ap own e
received_own old new f (max_stream_data_received mid id limit came step unblocked e) = ap own e ∙ arrived_own old mid id.0 came
received_own old new f (max_streams_received Bi n e) = ap own e
received_own old new f (max_streams_received Uni n e) = ap own e

-- ---- the space

lost_keeps : (first : PlainStreams) (old new : PlainStreams) (f : SentFrame) → IsLostFrame old new f → own old ≡ own first → own new ≡ own first
lost_keeps first old new f lost p = lost_own old new f lost ∙ p

handed_keeps : (first : PlainStreams) (old new : PlainStreams) (room : ℕ) (f : SentFrame) → IsHandedOver old new room f → own old ≡ own first → own new ≡ own first
handed_keeps first old new room f handed p = handed_own old new room f handed ∙ p

frame_own : (now : ℕ) (old new : DataSpace) (f : Frame) (end : Option ConnectionError) → IsFrameTaken now old new f end → own new.streams ≡ own old.streams
frame_own now old new f end taken = by_frame (λ s. own s ≡ own old.streams) (lost_keeps old.streams) (λ was s g a p. acked_own was s g a ∙ p) now old new f end
    (λ c of r. received_own old.streams new.streams c r) (λ none. refl) taken

frames_own : (now : ℕ) (bytes : List ℕ) (old new : DataSpace) (taken : List Frame) (end : Option ConnectionError) → AreFramesTaken now bytes old new taken end → own new.streams ≡ own old.streams
frames_own now bytes old new taken end (none _) = refl
frames_own now bytes old new taken end (more _ rest f _ mid _ later _ b free step t) = frames_own now rest mid new later end t ∙ frame_own now old mid f None step
frames_own now bytes old new taken end (closed _ rest f _ _ e b free step) = frame_own now old new f (Some e) step
frames_own now bytes old new taken end (refused _ rest f _ e b n r) = refl

-- as a record
pub same_counts : (old new : PlainStreams) → own new ≡ own old → HaveSameCounts old new
same_counts old new e = record {
  bi_opened = ap (λ (x : (ℕ × ℕ) × (ℕ × ℕ)). x.0.0) e;
  bi_accepted = ap (λ (x : (ℕ × ℕ) × (ℕ × ℕ)). x.0.1) e;
  uni_opened = ap (λ (x : (ℕ × ℕ) × (ℕ × ℕ)). x.1.0) e;
  uni_accepted = ap (λ (x : (ℕ × ℕ) × (ℕ × ℕ)). x.1.1) e;
}

-- the frames of a packet that is accepted
pub packet_counts : (now number : ℕ) (is_eliciting : Bool) (bytes : List ℕ) (old mid new : DataSpace) (taken : List Frame) (end : Option ConnectionError)
    → IsAccepted number is_eliciting old mid → AreFramesTaken now bytes mid new taken end → HaveSameCounts old.streams new.streams
packet_counts now number is_eliciting bytes old mid new taken end accepted are = same_counts old.streams new.streams
    (frames_own now bytes mid new taken end are ∙ ap (λ (s : DataSpace). own s.streams) accepted.rest_is)

pub made_counts : (now overhead room : ℕ) (old new : DataSpace) (before after : List ℕ) → IsPacketMade now overhead room old new before after → HaveSameCounts old.streams new.streams
made_counts now overhead room old new before after made = same_counts old.streams new.streams
    (by_packet (λ s. own s ≡ own old.streams) (lost_keeps old.streams) (handed_keeps old.streams) now overhead room old new before after made refl)

aged_own : (now : ℕ) (old new : DataSpace) → AreLostByAge now old new → own new.streams ≡ own old.streams
aged_own now old new (age_due moment largest is by_now acked lost) = by_loss (λ s. own s ≡ own old.streams) (lost_keeps old.streams) largest now old new lost refl
aged_own now old new (age_not_yet later e) = ap (λ (s : DataSpace). own s.streams) e

probed_own : (now : ℕ) (old new : DataSpace) → IsProbed now old new → own new.streams ≡ own old.streams
probed_own now old new (probe_due moment is by_now due) = by_probe (λ s. own s ≡ own old.streams) (lost_keeps old.streams) old new due refl
probed_own now old new (probe_not_yet later e) = ap (λ (s : DataSpace). own s.streams) e

pub recovered_counts : (now : ℕ) (old mid new : DataSpace) → AreLostByAge now old mid → IsProbed now mid new → HaveSameCounts old.streams new.streams
recovered_counts now old mid new aged probed = same_counts old.streams new.streams (probed_own now mid new probed ∙ aged_own now old mid aged)

pub polled_counts : (old new : PlainStreams) (e : Option StreamEvent) → IsPolled old new e → HaveSameCounts old new
polled_counts old new e polled = same_counts old new (ap own (told_apart old new e polled))
