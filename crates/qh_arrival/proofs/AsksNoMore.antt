-- No step of the streams but the application's `reset` and `stop` makes a half that is reset or stopped.
use Rattle.std.proofs.Common.{◌≡◌, ◌⊎◌, ℕ, ◌==◌, Bool, true, false, List, [], ◌∷◌, ◌++◌, Option, Some, None, if◌then◌else◌, refl, sym, ap, subst, ◌∙◌, inl, inr}
use Rattle.std.proofs.lemmas.Bool.{cases_Bool}
use Rattle.std.specs.Prelude.{IfErr, IfOk, Result, Ok, Err}
use Rattle.qh_arrival.proofs.AsksHalves.{AreCodesOld, HasCode, acked_code, begins_code, finish_code, gives_code, gives_limit_code, gives_reset_code, gives_stop_code, has_reset, has_stop, ingested_code, limit_acked_code, limit_code, limit_lost_code, lost_code, new_codes, new_recv_code, new_send_code, priority_code, reads_code, recv_code, reset_acked_code, reset_by_code, reset_has, reset_lost_code, reset_sets, same_codes, send_code, set_codes, step_codes, stop_acked_code, stop_has, stop_lost_code, stop_sets, stopped_code, takes_code, takes_reset_code}
use Rattle.qh_arrival.specs.Asked.{AreAsked, IsResetAt, IsStoppedAt}
use Rattle.qh_base.specs.declared.connection_error.ConnectionError.{ConnectionError}
use Rattle.qh_buffers.specs.declared.assembler.Chunk.{Chunk}
use Rattle.qh_core.specs.Made.{IsStreamCall}
use Rattle.qh_core.specs.Made.IsStreamCall.{unchanged, opened, accepted, wrote, unwritten, finished as finished_call, reset as reset_call, prioritized, read, stopped, took_reset, concurrent, send_window, receive_window}
use Rattle.qh_core.specs.Receiving.{AreFramesTaken}
use Rattle.qh_core.specs.Receiving.AreFramesTaken.{none as none_taken, more as more_taken, closed as closed_by, refused as refused_at}
use Rattle.qh_core.specs.Streams.{IsRead, IsReadFault, IsWriteRefused}
use Rattle.qh_core.specs.Streams.IsWriteRefused.{closed as closed_to_writes, wanting, refused as refused_write}
use Rattle.qh_core.specs.Timers.{AreLostByAge, IsProbed}
use Rattle.qh_core.specs.Timers.AreLostByAge.{due as age_due, not_yet as age_not_yet}
use Rattle.qh_core.specs.Timers.IsProbed.{due as probe_due, not_yet as probe_not_yet}
use Rattle.qh_core.specs.declared.fault.TakeFault.{TakeFault}
use Rattle.qh_core.specs.declared.fault.TakeFault.TheVariants.{Readable, Read}
use Rattle.qh_core.specs.declared.inner.Inner.{Inner}
use Rattle.qh_frame.specs.declared.frame.Frame.{Frame}
use Rattle.qh_half.specs.Recv.{PlainRecv}
use Rattle.qh_half.specs.Send.{PlainSend}
use Rattle.qh_half.specs.declared.fault.ReadFault.{ReadFault}
use Rattle.qh_half.specs.declared.fault.WriteFault.{WriteFault}
use Rattle.qh_half.specs.declared.fault.WriteFault.TheVariants.{Blocked, Stopped as StoppedBy, ClosedStream, Memory}
use Rattle.qh_halves.specs.Counts.{has_recv, has_send}
use Rattle.qh_halves.specs.RecvHalves.{PlainRecvHalves, recv_at, recv_half_in}
use Rattle.qh_halves.specs.SendHalves.{PlainSendHalves, half_in, send_at, write_limit}
use Rattle.qh_halves.specs.declared.counts.StreamCounts.{StreamCounts}
use Rattle.qh_history.proofs.Carried.{by_frame, by_loss, by_packet, by_probe}
use Rattle.qh_space.specs.Receiving.{IsFrameTaken}
use Rattle.qh_space.specs.Sending.{IsPacketMade}
use Rattle.qh_space.specs.declared.data_space.DataSpace.{DataSpace}
use Rattle.qh_spec.proofs.Members.{in_last, in_left}
use Rattle.qh_spec.specs.Transcript.{Act, Reset, Stopped}
use Rattle.qh_streams.proofs.StreamsSettled.{DiffersByCounts, closed_alone, counts_alone}
use Rattle.qh_streams.proofs.StreamsTracked.{recv_goes, recv_or_absent, settled_goes, step_goes, step_or_absent}
use Rattle.qh_streams.specs.Streams.{PlainStreams, AreOpened, HasArrived, IsAckedFrame, IsHandedOver, IsLostFrame, IsPolled, IsReceived, arrives_with, counted_closed, first_limit, is_live, is_two_way, new_recv_half, new_send_half, was_opened, with_blocked, with_counts}
use Rattle.qh_streams.specs.Streams.IsAckedFrame.{stream as stream_acked, reset as reset_acked, stop as stop_acked, max_stream_data as max_stream_data_acked, max_data as max_data_acked, max_streams as max_streams_acked}
use Rattle.qh_streams.specs.Streams.IsHandedOver.{stream as stream_handed, reset as reset_handed, stop as stop_handed, max_stream_data as max_stream_data_handed, max_data as max_data_handed, max_streams as max_streams_handed}
use Rattle.qh_streams.specs.Streams.IsLostFrame.{stream as stream_lost, reset as reset_lost, stop as stop_lost, max_stream_data as max_stream_data_lost, max_data as max_data_lost, max_streams as max_streams_lost}
use Rattle.qh_streams.specs.Streams.IsPolled.{writable, queued, none as nothing}
use Rattle.qh_streams.specs.Streams.IsReceived.{stream as stream_received, reset as reset_received, stop as stop_received, stopped_before, max_data as max_data_received, max_stream_data as max_stream_data_received, max_streams as max_streams_received}
use Rattle.qh_streams.specs.declared.frames.SentFrame.{SentFrame}
use Rattle.qh_streams.specs.declared.frames.StreamEvent.{StreamEvent}
use Rattle.qh_streams.specs.declared.frames.StreamFrame.{StreamFrame}

-- what is reset or stopped was so before
pub record AsksNoMore (old new : PlainStreams) : Type 0 where
  pub resets : (stream code : ℕ) → IsResetAt new stream code → IsResetAt old stream code
  pub stops : (stream code : ℕ) → IsStoppedAt new stream code → IsStoppedAt old stream code

pub asks_same : (s : PlainStreams) → AsksNoMore s s
asks_same s = record { resets = λ stream code is. is; stops = λ stream code is. is }

pub asks_on : (first old new : PlainStreams) → AsksNoMore first old → AsksNoMore old new → AsksNoMore first new
asks_on first old new before after = record { resets = λ stream code is. before.resets stream code (after.resets stream code is); stops = λ stream code is. before.stops stream code (after.stops stream code is) }

-- ---- the two kinds of halves

abbrev SendsOld : (old new : PlainSendHalves) → Type 0
SendsOld old new = AreCodesOld send_code (send_at old) (send_at new)

abbrev RecvsOld : (old new : PlainRecvHalves) → Type 0
RecvsOld old new = AreCodesOld recv_code (recv_at old) (recv_at new)

both_ask : (old new : PlainStreams) → SendsOld old.send new.send → RecvsOld old.recv new.recv → AsksNoMore old new
both_ask old new send recv = record {
  resets = λ stream code is. has_reset old stream code (send stream code (reset_has new stream code is));
  stops = λ stream code is. has_stop old stream code (recv stream code (stop_has new stream code is));
}

same_sends : (old new : PlainSendHalves) → new.halves ≡ old.halves → SendsOld old new
same_sends old new same = same_codes send_code (send_at old) (send_at new) (λ k. ap (λ (l : List (ℕ × PlainSend)). half_in l k) same)

same_recvs : (old new : PlainRecvHalves) → new.halves ≡ old.halves → RecvsOld old new
same_recvs old new same = same_codes recv_code (recv_at old) (recv_at new) (λ k. ap (λ (l : List (ℕ × PlainRecv)). recv_half_in l k) same)

-- neither changes, or one of them does
still_ask : (old new : PlainStreams) → new.send.halves ≡ old.send.halves → new.recv.halves ≡ old.recv.halves → AsksNoMore old new
still_ask old new send recv = both_ask old new (same_sends old.send new.send send) (same_recvs old.recv new.recv recv)

sends_ask : (old new : PlainStreams) → new ≡ record old { send = new.send } → SendsOld old.send new.send → AsksNoMore old new
sends_ask old new rest send = both_ask old new send (same_recvs old.recv new.recv (ap (λ (s : PlainStreams). s.recv.halves) rest))

recvs_ask : (old new : PlainStreams) → new ≡ record old { recv = new.recv } → RecvsOld old.recv new.recv → AsksNoMore old new
recvs_ask old new rest recv = both_ask old new (same_sends old.send new.send (ap (λ (s : PlainStreams). s.send.halves) rest)) recv

-- the streams are these, but for the counts
counts_ask : (old s new : PlainStreams) → DiffersByCounts s new → s.send.halves ≡ old.send.halves → s.recv.halves ≡ old.recv.halves → AsksNoMore old new
counts_ask old s new counts send recv = still_ask old new (ap (λ (h : PlainSendHalves). h.halves) counts.send_is ∙ send) (ap (λ (h : PlainRecvHalves). h.halves) counts.recv_is ∙ recv)

with_counts_ask : (old s new : PlainStreams) (two_way : Bool) (c : StreamCounts) → new ≡ with_counts s two_way c → s.send.halves ≡ old.send.halves → s.recv.halves ≡ old.recv.halves → AsksNoMore old new
with_counts_ask old s new two_way c e send recv = subst (λ (x : PlainStreams). AsksNoMore old x) (sym e) (counts_ask old s (with_counts s two_way c) (counts_alone s two_way c) send recv)

closed_ask : (old s new : PlainStreams) (id : ℕ) (was_live : Bool) → new ≡ counted_closed s id was_live → AsksNoMore old s → AsksNoMore old new
closed_ask old s new id was_live e before =
    asks_on old s new before (subst (λ (x : PlainStreams). AsksNoMore s x) (sym e) (counts_ask s s (counted_closed s id was_live) (closed_alone s id was_live) refl refl))

-- ---- frames that are lost, acknowledged or handed over

lost_asks : (old new : PlainStreams) (f : SentFrame) → IsLostFrame old new f → AsksNoMore old new
lost_asks old new _ (stream_lost id piece step rest) = sends_ask old new rest (step_codes send_code (step_or_absent step) (lost_code piece))
lost_asks old new _ (reset_lost id reset step rest) = sends_ask old new rest (step_codes send_code (step_or_absent step) reset_lost_code)
lost_asks old new _ (stop_lost id code step rest) = recvs_ask old new rest (step_codes recv_code (recv_or_absent step) stop_lost_code)
lost_asks old new _ (max_data_lost limit rest) = still_ask old new (ap (λ (s : PlainStreams). s.send.halves) rest) (ap (λ (s : PlainStreams). s.recv.halves) rest)
lost_asks old new _ (max_stream_data_lost id limit step rest) = recvs_ask old new rest (step_codes recv_code (recv_or_absent step) (limit_lost_code limit))
lost_asks old new _ (max_streams_lost dir count rest) = with_counts_ask old old new (is_two_way dir) _ rest refl refl

acked_asks : (old new : PlainStreams) (f : SentFrame) → IsAckedFrame old new f → AsksNoMore old new
acked_asks old new _ (stream_acked id piece finished step rest) =
    let mid : PlainStreams = record old { send = new.send; events = _ } in
    closed_ask old mid new id.0 (is_live old id.0) rest (both_ask old mid (step_codes send_code (settled_goes step) (acked_code piece)) (same_recvs old.recv old.recv refl))
acked_asks old new _ (reset_acked id reset gone step rest) =
    let mid : PlainStreams = record old { send = new.send } in
    closed_ask old mid new id.0 (is_live old id.0) rest (both_ask old mid (step_codes send_code (settled_goes step) reset_acked_code) (same_recvs old.recv old.recv refl))
acked_asks old new _ (stop_acked id code step rest) = recvs_ask old new rest (step_codes recv_code (recv_or_absent step) stop_acked_code)
acked_asks old new _ (max_data_acked limit rest) = still_ask old new (ap (λ (s : PlainStreams). s.send.halves) rest) (ap (λ (s : PlainStreams). s.recv.halves) rest)
acked_asks old new _ (max_stream_data_acked id limit step rest) = recvs_ask old new rest (step_codes recv_code (recv_or_absent step) (limit_acked_code limit))
acked_asks old new _ (max_streams_acked dir count rest) = with_counts_ask old old new (is_two_way dir) _ rest refl refl

pub handed_asks : (old new : PlainStreams) (room : ℕ) (f : SentFrame) → IsHandedOver old new room f → AsksNoMore old new
handed_asks old new room _ (stream_handed id piece next rest) = sends_ask old new rest (step_codes send_code (step_goes next.step) (gives_code _ piece))
handed_asks old new room _ (reset_handed id reset next rest) = sends_ask old new rest (step_codes send_code (step_goes next.step) (gives_reset_code reset))
handed_asks old new room _ (stop_handed id code step rest) = recvs_ask old new rest (step_codes recv_code (recv_goes step) (gives_stop_code old.recv.stream_window code))
handed_asks old new room _ (max_stream_data_handed id limit step rest) = recvs_ask old new rest (step_codes recv_code (recv_goes step) (gives_limit_code old.recv.stream_window limit))
handed_asks old new room _ (max_data_handed limit is due rest) = still_ask old new (ap (λ (s : PlainStreams). s.send.halves) rest) (ap (λ (s : PlainStreams). s.recv.halves) rest)
handed_asks old new room _ (max_streams_handed dir count is due rest) = with_counts_ask old old new (is_two_way dir) _ rest refl refl

-- ---- streams that are new

opened_asks : (old new : PlainStreams) (are_new : ℕ → Bool) → AreOpened old new are_new → AsksNoMore old new
opened_asks old new are_new o = both_ask old new
    (new_codes send_code (send_at old.send) (send_at new.send) (new_send_half old) are_new o.send_is (λ k h is. new_send_code (has_send old.side k) (first_limit old k) h is))
    (new_codes recv_code (recv_at old.recv) (recv_at new.recv) (new_recv_half old) are_new o.recv_is (λ k r is. new_recv_code (has_recv old.side k) _ r is))

arrived_asks : (old new : PlainStreams) (id : ℕ) → HasArrived old new id → AsksNoMore old new
arrived_asks old new id a = elim (cases_Bool (was_opened old id)) [
  | inl known ↦ subst (λ (s : PlainStreams). AsksNoMore old s) (sym (a.known known)) (asks_same old)
  | inr fresh ↦ opened_asks old new (arrives_with old id) (a.halves fresh)
]

-- ---- frames that come

received_asks : (old new : PlainStreams) (f : StreamFrame) → IsReceived old new f → AsksNoMore old new
received_asks old new _ (stream_received id offset payload fin r) =
    let mid = r.mid in
    let s : PlainStreams = record mid { recv = new.recv; events = _ } in
    let c : Chunk = record { offset = offset; bytes = payload } in
    asks_on old mid new (arrived_asks old mid id.0 r.arrived) (closed_ask mid s new id.0 (is_live mid id.0) r.rest_is (both_ask mid s (same_sends mid.send mid.send refl) (elim r.taken [
      | inl taken ↦ step_codes recv_code (recv_goes taken.step) (ingested_code c fin taken.fresh)
      | inr absent ↦ same_recvs mid.recv new.recv (ap (λ (r : PlainRecvHalves). r.halves) absent.same)
    ])))
received_asks old new _ (reset_received id code size r) =
    let mid = r.mid in
    let s : PlainStreams = record mid { recv = new.recv; events = _ } in
    asks_on old mid new (arrived_asks old mid id.0 r.arrived) (closed_ask mid s new id.0 (is_live mid id.0) r.rest_is (both_ask mid s (same_sends mid.send mid.send refl) (elim r.taken [
      | inl taken ↦ step_codes recv_code (recv_goes taken.step) (reset_by_code code size taken.fresh)
      | inr absent ↦ same_recvs mid.recv new.recv (ap (λ (r : PlainRecvHalves). r.halves) absent.same)
    ])))
received_asks old new _ (stop_received mid id code came step e) =
    asks_on old mid new (arrived_asks old mid id.0 came)
    (both_ask mid new (step_codes send_code (step_goes step) (stopped_code code)) (same_recvs mid.recv new.recv (ap (λ (s : PlainStreams). s.recv.halves) e)))
received_asks old new _ (stopped_before id code came was) = arrived_asks old new id.0 came
received_asks old new _ (max_data_received limit e) = still_ask old new (ap (λ (s : PlainStreams). s.send.halves) e) (ap (λ (s : PlainStreams). s.recv.halves) e)
received_asks old new _ (max_stream_data_received mid id limit came step unblocked e) =
    asks_on old mid new (arrived_asks old mid id.0 came)
    (both_ask mid new (step_codes send_code (step_or_absent step) (limit_code limit)) (same_recvs mid.recv new.recv (ap (λ (s : PlainStreams). s.recv.halves) e)))
received_asks old new _ (max_streams_received dir count e) = with_counts_ask old (record old { events = _ }) new (is_two_way dir) _ e refl refl

-- ---- what is told

pub polled_asks : (old new : PlainStreams) (e : Option StreamEvent) → IsPolled old new e → AsksNoMore old new
polled_asks old new _ (writable id front rest open_now blocked_is shut on e) = still_ask old new (ap (λ (s : PlainStreams). s.send.halves) e) (ap (λ (s : PlainStreams). s.recv.halves) e)
polled_asks old new _ (queued event events left events_are e) = still_ask old new (ap (λ (s : PlainStreams). s.send.halves) e) (ap (λ (s : PlainStreams). s.recv.halves) e)
polled_asks old new _ (nothing left empty e) = still_ask old new (ap (λ (s : PlainStreams). s.send.halves) e) (ap (λ (s : PlainStreams). s.recv.halves) e)

-- ---- packets that come, what is due, and packets that are made

lost_on : (first old new : PlainStreams) (f : SentFrame) → IsLostFrame old new f → AsksNoMore first old → AsksNoMore first new
lost_on first old new f lost p = asks_on first old new p (lost_asks old new f lost)

acked_on : (first old new : PlainStreams) (f : SentFrame) → IsAckedFrame old new f → AsksNoMore first old → AsksNoMore first new
acked_on first old new f acked p = asks_on first old new p (acked_asks old new f acked)

handed_on : (first old new : PlainStreams) (room : ℕ) (f : SentFrame) → IsHandedOver old new room f → AsksNoMore first old → AsksNoMore first new
handed_on first old new room f handed p = asks_on first old new p (handed_asks old new room f handed)

frame_asks : (now : ℕ) (old new : DataSpace) (f : Frame) (end : Option ConnectionError) → IsFrameTaken now old new f end → AsksNoMore old.streams new.streams
frame_asks now old new f end taken = by_frame (λ s. AsksNoMore old.streams s) (lost_on old.streams) (acked_on old.streams) now old new f end
    (λ c of r. received_asks old.streams new.streams c r) (λ none. asks_same old.streams) taken

pub frames_ask : (now : ℕ) (bytes : List ℕ) (old new : DataSpace) (taken : List Frame) (end : Option ConnectionError) → AreFramesTaken now bytes old new taken end → AsksNoMore old.streams new.streams
frames_ask now bytes old new taken end (none_taken _) = asks_same old.streams
frames_ask now bytes old new taken end (more_taken _ rest f _ mid _ later _ b free step t) =
    asks_on old.streams mid.streams new.streams (frame_asks now old mid f None step) (frames_ask now rest mid new later end t)
frames_ask now bytes old new taken end (closed_by _ rest f _ _ e b free step) = frame_asks now old new f (Some e) step
frames_ask now bytes old new taken end (refused_at _ rest f _ e b n r) = asks_same old.streams

pub aged_asks : (now : ℕ) (old new : DataSpace) → AreLostByAge now old new → AsksNoMore old.streams new.streams
aged_asks now old new (age_due moment largest is by_now acked lost) = by_loss (λ s. AsksNoMore old.streams s) (lost_on old.streams) largest now old new lost (asks_same old.streams)
aged_asks now old new (age_not_yet later e) = subst (λ (s : DataSpace). AsksNoMore old.streams s.streams) (sym e) (asks_same old.streams)

pub probed_asks : (now : ℕ) (old new : DataSpace) → IsProbed now old new → AsksNoMore old.streams new.streams
probed_asks now old new (probe_due moment is by_now due) = by_probe (λ s. AsksNoMore old.streams s) (lost_on old.streams) old new due (asks_same old.streams)
probed_asks now old new (probe_not_yet later e) = subst (λ (s : DataSpace). AsksNoMore old.streams s.streams) (sym e) (asks_same old.streams)

pub made_asks : (now around room : ℕ) (old new : DataSpace) (before after : List ℕ) → IsPacketMade now around room old new before after → AsksNoMore old.streams new.streams
made_asks now around room old new before after made =
    by_packet (λ s. AsksNoMore old.streams s) (lost_on old.streams) (handed_on old.streams) now around room old new before after made (asks_same old.streams)

-- ---- calls

maybe_blocked : (s : PlainStreams) (b : Bool) (blocked : List ℕ) → AsksNoMore s (if b then record s { blocked = blocked } else s)
maybe_blocked s true blocked = still_ask s (record s { blocked = blocked }) refl refl
maybe_blocked s false blocked = asks_same s

blocked_asks : (s : PlainStreams) (id : ℕ) (fault : WriteFault) → AsksNoMore s (with_blocked s id fault)
blocked_asks s id Blocked = maybe_blocked s (write_limit s.send == 0) _
blocked_asks s id (StoppedBy code) = asks_same s
blocked_asks s id ClosedStream = asks_same s
blocked_asks s id Memory = asks_same s

read_asks : (max_length : ℕ) (ordered : Bool) (id : ℕ) (answer : Result (Option Chunk) ReadFault) (old new : PlainStreams) → IsRead max_length ordered id answer old new → AsksNoMore old new
read_asks max_length ordered id answer old new r =
    let s : PlainStreams = record r.mid { recv = new.recv } in
    asks_on old r.mid new (recvs_ask old r.mid r.mid_is (step_codes recv_code (recv_goes r.begun) (begins_code _)))
    (closed_ask r.mid s new id (is_live r.mid id) r.new_is (recvs_ask r.mid s refl (step_codes recv_code (recv_goes r.reads) (reads_code max_length answer))))

answered_asks : (max_length : ℕ) (ordered : Bool) (id : ℕ) (answer : Result (Option Chunk) TakeFault) (old new : PlainStreams)
    → IfOk answer (λ o. IsRead max_length ordered id (Ok o) old new) → IfErr answer (λ e. IsReadFault max_length ordered id e old new) → AsksNoMore old new
answered_asks max_length ordered id (Ok o) old new ok err = read_asks max_length ordered id (Ok o) old new ok
answered_asks max_length ordered id (Err (Read why)) old new ok err = read_asks max_length ordered id (Err why) old new err
answered_asks max_length ordered id (Err (Readable why)) old new ok err = subst (λ (s : PlainStreams). AsksNoMore old s) (sym err.1) (asks_same old)

-- what asks no more was asked
asked_on : (old new : PlainStreams) (t acts : List Act) → AsksNoMore old new → AreAsked old t → AreAsked new (t ++ acts)
asked_on old new t acts no_more p = record {
  resets = λ stream code is. in_left (Reset stream code) t acts (p.resets stream code (no_more.resets stream code is));
  stops = λ stream code is. in_left (Stopped stream code) t acts (p.stops stream code (no_more.stops stream code is));
}

-- a reset, and a stop, with their acts
reset_asked : (old new : PlainStreams) (t : List Act) (id given : ℕ) → ((k code : ℕ) → HasCode send_code (send_at new.send) k code → HasCode send_code (send_at old.send) k code ⊎ ((k ≡ id) × (code ≡ given)))
    → RecvsOld old.recv new.recv → AreAsked old t → AreAsked new (t ++ Reset id given ∷ [])
reset_asked old new t id given sets recv p = record {
  resets = λ stream code is. elim (sets stream code (reset_has new stream code is)) [
    | inl was ↦ in_left (Reset stream code) t (Reset id given ∷ []) (p.resets stream code (has_reset old stream code was))
    | inr here ↦ rw (here.0, here.1) (in_last (Reset id given) t)
  ];
  stops = λ stream code is. in_left (Stopped stream code) t (Reset id given ∷ []) (p.stops stream code (has_stop old stream code (recv stream code (stop_has new stream code is))));
}

stopped_asked : (old new : PlainStreams) (t : List Act) (id given : ℕ) → ((k code : ℕ) → HasCode recv_code (recv_at new.recv) k code → HasCode recv_code (recv_at old.recv) k code ⊎ ((k ≡ id) × (code ≡ given)))
    → SendsOld old.send new.send → AreAsked old t → AreAsked new (t ++ Stopped id given ∷ [])
stopped_asked old new t id given sets send p = record {
  resets = λ stream code is. in_left (Reset stream code) t (Stopped id given ∷ []) (p.resets stream code (has_reset old stream code (send stream code (reset_has new stream code is))));
  stops = λ stream code is. elim (sets stream code (stop_has new stream code is)) [
    | inl was ↦ in_left (Stopped stream code) t (Stopped id given ∷ []) (p.stops stream code (has_stop old stream code was))
    | inr here ↦ rw (here.0, here.1) (in_last (Stopped id given) t)
  ];
}

module _ {S : Type 0} where
  refused_asks : (id : ℕ) (fault : WriteFault) (old new : Inner S) → IsWriteRefused id fault old new → AsksNoMore old.space.streams new.space.streams
  refused_asks id fault old new (closed_to_writes down is e) = subst (λ (c : Inner S). AsksNoMore old.space.streams c.space.streams) (sym e) (asks_same old.space.streams)
  refused_asks id fault old new (wanting up may is e) = subst (λ (c : Inner S). AsksNoMore old.space.streams c.space.streams) (sym e) (asks_same old.space.streams)
  refused_asks id fault old new (refused_write up is e) = subst (λ (c : Inner S). AsksNoMore old.space.streams c.space.streams) (sym e) (blocked_asks old.space.streams id fault)

  streams_of : (old new : Inner S) (s : PlainStreams) → new ≡ record old { space = record old.space { streams = s } } → new.space.streams ≡ s
  streams_of old new s e = ap (λ (c : Inner S). c.space.streams) e

  -- and a call that asks it says so
  pub called_asked : (old new : Inner S) (acts t : List Act) → IsStreamCall old new acts → AreAsked old.space.streams t → AreAsked new.space.streams (t ++ acts)
  called_asked old new acts t (unchanged e) p = asked_on old.space.streams new.space.streams t acts (subst (λ (c : Inner S). AsksNoMore old.space.streams c.space.streams) (sym e) (asks_same old.space.streams)) p
  called_asked old new acts t (opened dir id up id_is below o rest) p = asked_on old.space.streams new.space.streams t acts (opened_asks old.space.streams new.space.streams (λ k. k == id) o.halves) p
  called_asked old new acts t (accepted dir below rest) p =
      asked_on old.space.streams new.space.streams t acts (with_counts_ask old.space.streams old.space.streams new.space.streams (is_two_way dir) _ (streams_of old new _ rest) refl refl) p
  called_asked old new acts t (wrote id count bytes up free step rest) p =
      asked_on old.space.streams new.space.streams t acts (sends_ask old.space.streams new.space.streams (streams_of old new _ rest) (step_codes send_code (step_goes step) (takes_code bytes))) p
  called_asked old new acts t (unwritten id fault denied) p = asked_on old.space.streams new.space.streams t acts (refused_asks id fault old new denied) p
  called_asked old new acts t (finished_call id step rest) p =
      asked_on old.space.streams new.space.streams t acts (sends_ask old.space.streams new.space.streams (streams_of old new _ rest) (step_codes send_code (step_goes step) finish_code)) p
  called_asked old new acts t (reset_call id code step rest) p =
      reset_asked old.space.streams new.space.streams t id code (set_codes send_code (step_goes step) (reset_sets code))
      (same_recvs old.space.streams.recv new.space.streams.recv (ap (λ (s : PlainStreams). s.recv.halves) (streams_of old new _ rest))) p
  called_asked old new acts t (prioritized id priority step rest) p =
      asked_on old.space.streams new.space.streams t acts (sends_ask old.space.streams new.space.streams (streams_of old new _ rest) (step_codes send_code (step_goes step) (priority_code priority))) p
  called_asked old new acts t (read max_length ordered id answer ok err rest) p =
      asked_on old.space.streams new.space.streams t acts (answered_asks max_length ordered id answer old.space.streams new.space.streams ok err) p
  called_asked old new acts t (stopped id code step rest) p =
      stopped_asked old.space.streams new.space.streams t id code (set_codes recv_code (recv_goes step) (stop_sets code))
      (same_sends old.space.streams.send new.space.streams.send (ap (λ (s : PlainStreams). s.send.halves) (streams_of old new _ rest) ∙ ap (λ (h : PlainSendHalves). h.halves) (closed_alone _ id _).send_is)) p
  called_asked old new acts t (took_reset id code step rest) p =
      let mid : PlainStreams = record old.space.streams { recv = new.space.streams.recv } in
      asked_on old.space.streams new.space.streams t acts (closed_ask old.space.streams mid new.space.streams id (is_live old.space.streams id) (streams_of old new _ rest)
      (recvs_ask old.space.streams mid refl (step_codes recv_code (recv_goes step) (takes_reset_code code)))) p
  called_asked old new acts t (concurrent dir count rest) p =
      asked_on old.space.streams new.space.streams t acts (with_counts_ask old.space.streams old.space.streams new.space.streams (is_two_way dir) _ (streams_of old new _ rest) refl refl) p
  called_asked old new acts t (send_window bytes rest) p =
      asked_on old.space.streams new.space.streams t acts (still_ask old.space.streams new.space.streams (ap (λ (s : PlainStreams). s.send.halves) (streams_of old new _ rest)) (ap (λ (s : PlainStreams). s.recv.halves) (streams_of old new _ rest))) p
  called_asked old new acts t (receive_window bytes rest) p =
      asked_on old.space.streams new.space.streams t acts (still_ask old.space.streams new.space.streams (ap (λ (s : PlainStreams). s.send.halves) (streams_of old new _ rest)) (ap (λ (s : PlainStreams). s.recv.halves) (streams_of old new _ rest))) p
