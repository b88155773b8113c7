-- Calls and frames that come: nothing new counts as sent by them.
use Rattle.std.proofs.Common.{◌≡◌, ◌⊎◌, ℕ, ℤ, ◌+◌, ◌-◌, ◌<◌, ◌≤◌, ◌==◌, ◌^◌, min, nat_lt, Bool, true, false, ◌&&◌, not, List, [], ◌∷◌, ◌++◌, Option, Some, None, Result, if◌then◌else◌, refl, sym, ap, ◌∙◌, arith, inl, inr}
use Rattle.std.proofs.lemmas.Bool.{false≢true, le-ltb, cases_Bool}
use Rattle.qh_spec.specs.declared.sides.Dir.{Dir}
use Rattle.qh_base.specs.declared.stream_id.StreamId.{StreamId}
use Rattle.qh_buffers.specs.SendBuffer.{mark_at}
use Rattle.qh_buffers.specs.declared.assembler.Chunk.{Chunk}
use Rattle.qh_buffers.specs.declared.send_buffer.Mark.{Mark}
use Rattle.qh_buffers.specs.declared.send_buffer.Mark.TheVariants.{Sent, Queued, Acked}
use Rattle.qh_half.specs.declared.fault.ReadFault.{ReadFault}
use Rattle.qh_streams.specs.declared.frames.SentFrame.{SentFrame}
use Rattle.qh_streams.specs.declared.frames.StreamFrame.{StreamFrame}
use Rattle.qh_half.specs.declared.recv.StopFrame.{StopFrame}
use Rattle.qh_half.specs.declared.recv.RecvState.{RecvState}
use Rattle.qh_half.specs.declared.recv.RecvState.TheVariants.{Recv, ResetRecvd}
use Rattle.qh_half.specs.declared.send.SendState.{SendState}
use Rattle.qh_half.specs.declared.send.SendState.TheVariants.{Ready, DataSent, ResetSent}
use Rattle.qh_halves.specs.declared.limit.AnnouncedLimit.{AnnouncedLimit}
use Rattle.qh_halves.specs.Counts.{is_bi, index_of, has_send, has_recv, with_max_opened}
use Rattle.qh_half.specs.Send.{PlainSend, new_send, is_reset, is_ready, finish_fault, stopped_or_closed}
use Rattle.qh_halves.specs.SendHalves.{PlainSendHalves, send_at, IsStep, IsAbsent, Takes, Finishes, IsResetWith, HasPriority, IsStoppedWith, HasLimit}
use Rattle.qh_half.specs.Recv.{PlainRecv, new_recv, new_stop, IsIngested, IsResetBy, IsReadAnswer}
use Rattle.qh_half.specs.Recv.IsReadAnswer.{bytes as bytes_read, nothing as nothing_read, end as end_read, reset as reset_read, blocked as blocked_read, memory as memory_read}
use Rattle.qh_halves.specs.RecvHalves.{PlainRecvHalves, recv_at, IsRecvStep, IsRecvAbsent, IsPieceTaken, IsResetTaken, Reads, Begins, Stops, TakesReset}
use Rattle.qh_streams.specs.Streams.{PlainStreams, counts_of, with_counts, is_two_way, is_live, counted_closed, was_opened, first_limit, new_send_half, new_recv_half, AreOpened, IsOpened, HasArrived, IsReceived, IsPieceReceived, IsResetReceived, readable_events, available_events, with_opened, arrives_with}
use Rattle.qh_streams.specs.Streams.IsReceived.{stream as stream_received, reset as reset_received, stop as stop_received, stopped_before, max_data as max_data_received, max_stream_data as max_stream_data_received, max_streams as max_streams_received}
use Rattle.qh_streams.specs.Tracked.{SameCounts, IsFresh, IsSendingStep, IsReceivingStep, AreTracked}
use Rattle.qh_streams.specs.Tracked.IsSendingStep.{takes, finishes, resets, priority as priority_set, stopped, limit as limit_raised}
use Rattle.qh_streams.specs.Tracked.IsReceivingStep.{reads, begins, stops, takes_reset, ingested, reset as reset_taken}
use Rattle.qh_streams.proofs.StreamsSettled.{counts_alone, closed_alone}
use Rattle.qh_streams.proofs.StreamsTracked.{OfHalf, byte, end, reset, OfReceiver, stop, stream_limit, Owed, sender, receiver, data_limit, count, is_end_sent, is_reset_sent, is_sent_mark, is_stop_sent, end_sent, reset_sent, sent_mark, stop_sent, half_sent, receiver_sent, SentBy, IsSentAt, IsSent, Keeps, Goes, step_goes, step_or_absent, recv_goes, recv_or_absent}
use Rattle.qh_streams.proofs.StreamsTrackedSteps.{by_sender, by_receiver, closed_counts, counts_set, same_limit}

-- ---- a step of one half

-- a byte, an end or a reset of a half that counts as sent afterwards did so before
record SendsNothing (h next : PlainSend) : Type 0 where
  bytes : (n : ℕ) → is_reset next.state ≡ false → mark_at next.buffer n ≡ Some Sent → (is_reset h.state ≡ false) × (mark_at h.buffer n ≡ Some Sent)
  ends : next.state ≡ DataSent Sent → h.state ≡ DataSent Sent
  resets : (code : ℕ) → next.state ≡ ResetSent code Sent → h.state ≡ ResetSent code Sent

-- a stop or a limit of a half that counts as sent afterwards did so before
record AnnouncesNothing (r next : PlainRecv) : Type 0 where
  stops : (code : ℕ) → next.stop_frame ≡ Some (record { code = code; mark = Sent }) → r.stop_frame ≡ Some (record { code = code; mark = Sent })
  limits : next.limit_mark ≡ Sent → (r.limit_mark ≡ Sent) × (next.sent_max_stream_data ≡ r.sent_max_stream_data)

sends_nothing : (h next : PlainSend) (o : OfHalf) → SendsNothing h next → half_sent next o → half_sent h o
sends_nothing h next (byte n) p w = p.bytes n w.0 w.1
sends_nothing h next end p w = ap is_end_sent (p.ends (end_sent next.state w))
sends_nothing h next reset p w = reset_sent next.state (is_reset_sent h.state ≡ true) w (λ code e. ap is_reset_sent (p.resets code e))

announces_nothing : (r next : PlainRecv) (o : OfReceiver) → AnnouncesNothing r next → receiver_sent next o → receiver_sent r o
announces_nothing r next stop p w = stop_sent next.stop_frame (is_stop_sent r.stop_frame ≡ true) w (λ code e. ap is_stop_sent (p.stops code e))
announces_nothing r next (stream_limit limit) p w = let was = p.limits w.0 in (was.0, sym was.1 ∙ w.1)

send_keeps : {P : PlainSend → PlainSend → Type 0} {id : ℕ} (old new : PlainStreams) → Goes P (send_at old.send) (send_at new.send) id
    → ((h next : PlainSend) → P h next → SendsNothing h next) → new.recv ≡ old.recv → SameCounts old new → Keeps old new
send_keeps {id = id} old new goes nothing recv_is counts =
    by_sender old new (IsSent old) goes recv_is counts (λ h g o is p w. record { half = h; is = is; sent = sends_nothing h g o (nothing h g p) w }) (λ o apart w. w)

recv_keeps : {P : PlainRecv → PlainRecv → Type 0} {id : ℕ} (old new : PlainStreams) → Goes P (recv_at old.recv) (recv_at new.recv) id
    → ((r next : PlainRecv) → P r next → AnnouncesNothing r next) → new.recv.announced ≡ old.recv.announced → new.send ≡ old.send → SameCounts old new → Keeps old new
recv_keeps {id = id} old new goes nothing limit_is send_is counts =
    by_receiver old new (IsSent old) goes send_is limit_is counts (λ h g o is p w. record { half = h; is = is; sent = announces_nothing h g o (nothing h g p) w }) (λ o apart w. w)

pub others_keep : (old new : PlainStreams) → new.send.halves ≡ old.send.halves → new.recv.halves ≡ old.recv.halves → new.recv.announced ≡ old.recv.announced → SameCounts old new → Keeps old new
others_keep old new send_is recv_is limit_is counts (sender k o) w = record { half = w.half; is = rw send_is at w.is; sent = w.sent }
others_keep old new send_is recv_is limit_is counts (receiver k o) w = record { half = w.half; is = rw recv_is at w.is; sent = w.sent }
others_keep old new send_is recv_is limit_is counts (data_limit limit) w = rw limit_is at w
others_keep old new send_is recv_is limit_is counts (count dir n) w = rw (counts dir) at w

-- ---- what sends nothing

-- the bytes' marks and the state are the same
same_sent : (h next : PlainSend) → next.state ≡ h.state → ((n : ℕ) → mark_at next.buffer n ≡ mark_at h.buffer n) → SendsNothing h next
same_sent h next state_is marks = record {
  bytes = λ n live mark. (sym (ap is_reset state_is) ∙ live, sym (marks n) ∙ mark);
  ends = λ e. sym state_is ∙ e;
  resets = λ code e. sym state_is ∙ e;
}

takes_nothing : (bytes : List ℕ) (h next : PlainSend) → Takes bytes h next → SendsNothing h next
takes_nothing bytes h next e = rw e (same_sent h _ refl (λ n. refl))

priority_nothing : (priority : ℤ) (h next : PlainSend) → HasPriority priority h next → SendsNothing h next
priority_nothing priority h next e = rw e (same_sent h _ refl (λ n. refl))

stopped_nothing : (code : ℕ) (h next : PlainSend) → IsStoppedWith code h next → SendsNothing h next
stopped_nothing code h next e = rw e.1 (same_sent h _ refl (λ n. refl))

limit_nothing : (limit : ℕ) (h next : PlainSend) → HasLimit limit h next → SendsNothing h next
limit_nothing limit h next e = rw e (same_sent h _ refl (λ n. refl))

not_closed : (stop : Option ℕ) (s : SendState) → stopped_or_closed stop s ≡ None → is_reset s ≡ false
not_closed (Some code) s e = absurd (cc)
not_closed None Ready e = refl
not_closed None (DataSent mark) e = refl
not_closed None (ResetSent code mark) e = absurd (cc)

end_queued_is_none : (X : Type 0) → DataSent Queued ≡ DataSent Sent → X
end_queued_is_none X e = absurd (false≢true (ap is_end_sent e))

reset_queued_is_none : (code known : ℕ) (X : Type 0) → ResetSent code Queued ≡ ResetSent known Sent → X
reset_queued_is_none code known X e = absurd (false≢true (ap is_reset_sent e))

end_is_no_reset : (m : Mark) (code : ℕ) (X : Type 0) → DataSent m ≡ ResetSent code Sent → X
end_is_no_reset m code X e = absurd (false≢true (ap is_reset_sent e))

reset_is_no_end : (m : Mark) (code : ℕ) (X : Type 0) → ResetSent code m ≡ DataSent Sent → X
reset_is_no_end m code X e = absurd (false≢true (ap is_end_sent e))

finish_nothing : (h next : PlainSend) → Finishes h next → SendsNothing h next
finish_nothing h next p = rw p.1 (record {
  bytes = λ n live mark. (not_closed h.stop_reason h.state p.0, mark);
  ends = λ e. end_queued_is_none _ e;
  resets = λ code e. end_is_no_reset Queued code _ e;
})

reset_nothing : (code : ℕ) (h next : PlainSend) → IsResetWith code h next → SendsNothing h next
reset_nothing code h next p = rw p.1 (record {
  bytes = λ n live mark. absurd (false≢true (sym live));
  ends = λ e. reset_is_no_end Queued code _ e;
  resets = λ known e. reset_queued_is_none code known _ e;
})

-- ---- what announces nothing

same_announced : (r next : PlainRecv) → next.stop_frame ≡ r.stop_frame → next.limit_mark ≡ r.limit_mark → next.sent_max_stream_data ≡ r.sent_max_stream_data → AnnouncesNothing r next
same_announced r next stop_is mark_is limit_is = record {
  stops = λ code e. sym stop_is ∙ e;
  limits = λ e. (sym mark_is ∙ e, limit_is);
}

ingest_nothing : (c : Chunk) (fin : Bool) (fresh : ℕ) (r next : PlainRecv) → IsIngested r next c fin fresh → AnnouncesNothing r next
ingest_nothing c fin fresh r next p = let e = p.rest_is in same_announced r next (ap (λ (r : PlainRecv). r.stop_frame) e) (ap (λ (r : PlainRecv). r.limit_mark) e) (ap (λ (r : PlainRecv). r.sent_max_stream_data) e)

reset_by_nothing : (code size fresh : ℕ) (r next : PlainRecv) → IsResetBy r next code size fresh → AnnouncesNothing r next
reset_by_nothing code size fresh r next p = let e = p.rest_is in same_announced r next (ap (λ (r : PlainRecv). r.stop_frame) e) (ap (λ (r : PlainRecv). r.limit_mark) e) (ap (λ (r : PlainRecv). r.sent_max_stream_data) e)

begin_nothing : (ordered : Bool) (r next : PlainRecv) → Begins ordered r next → AnnouncesNothing r next
begin_nothing ordered r next e = rw e (same_announced r _ refl refl refl)

take_reset_nothing : (code : Option ℕ) (r next : PlainRecv) → TakesReset code r next → AnnouncesNothing r next
take_reset_nothing code r next p = rw p.2 (same_announced r _ refl refl refl)

new_stop_waits : (s : RecvState) (code known : ℕ) (X : Type 0) → new_stop s code ≡ Some (record { code = known; mark = Sent }) → X
new_stop_waits (Recv None) code known X e = absurd (false≢true (ap is_stop_sent e))
new_stop_waits (Recv (Some size)) code known X e = absurd (false≢true (ap is_stop_sent e))
new_stop_waits (ResetRecvd size error) code known X e = absurd (false≢true (ap is_stop_sent e))

stop_nothing : (code : ℕ) (r next : PlainRecv) → Stops code r next → AnnouncesNothing r next
stop_nothing code r next p =
    let e = p.rest_is in
    let stop_is : next.stop_frame ≡ new_stop r.state code = ap (λ (r : PlainRecv). r.stop_frame) e in
    let mark_is : next.limit_mark ≡ r.limit_mark = ap (λ (r : PlainRecv). r.limit_mark) e in
    let limit_is : next.sent_max_stream_data ≡ r.sent_max_stream_data = ap (λ (r : PlainRecv). r.sent_max_stream_data) e in
    record {
      stops = λ known e. new_stop_waits r.state code known _ (sym stop_is ∙ e);
      limits = λ e. (sym mark_is ∙ e, limit_is);
    }

read_nothing : (max_length : ℕ) (result : Result (Option Chunk) ReadFault) (r next : PlainRecv) → Reads max_length result r next → AnnouncesNothing r next
read_nothing max_length result r next (bytes_read c some p) = let e = p.rest_is in same_announced r next (ap (λ (r : PlainRecv). r.stop_frame) e) (ap (λ (r : PlainRecv). r.limit_mark) e) (ap (λ (r : PlainRecv). r.sent_max_stream_data) e)
read_nothing max_length result r next (nothing_read none e c empty) = rw e (same_announced r r refl refl refl)
read_nothing max_length result r next (end_read some waits ended e) = rw e (same_announced r _ refl refl refl)
read_nothing max_length result r next (reset_read code some was e) = rw e (same_announced r _ refl refl refl)
read_nothing max_length result r next (blocked_read some waits ended was e) = rw e (same_announced r r refl refl refl)
read_nothing max_length result r next (memory_read wants e) = rw e (same_announced r r refl refl refl)

-- ---- any of these steps

pub sending_keeps : (old new : PlainStreams) (id : ℕ) → IsSendingStep old.send new.send id → new.recv ≡ old.recv → SameCounts old new → Keeps old new
sending_keeps old new id (takes taken bytes step) = send_keeps old new (step_goes step) (takes_nothing bytes)
sending_keeps old new id (finishes step) = send_keeps old new (step_goes step) finish_nothing
sending_keeps old new id (resets code step) = send_keeps old new (step_goes step) (reset_nothing code)
sending_keeps old new id (priority_set p step) = send_keeps old new (step_goes step) (priority_nothing p)
sending_keeps old new id (stopped code step) = send_keeps old new (step_goes step) (stopped_nothing code)
sending_keeps old new id (limit_raised max step) = send_keeps old new (step_goes step) (limit_nothing max)

one_step : {P : PlainRecv → PlainRecv → Type 0} {id n : ℕ} (old new : PlainStreams) → IsRecvStep P old.recv new.recv id n → ((r next : PlainRecv) → P r next → AnnouncesNothing r next)
    → new.send ≡ old.send → SameCounts old new → Keeps old new
one_step old new step nothing = recv_keeps old new (recv_goes step) nothing (ap (λ (r : PlainRecvHalves). r.announced) step.rest_is)

pub receiving_keeps : (old new : PlainStreams) (id : ℕ) → IsReceivingStep old.recv new.recv id → new.send ≡ old.send → SameCounts old new → Keeps old new
receiving_keeps old new id (reads max_length answer step) = one_step old new step (read_nothing max_length answer)
receiving_keeps old new id (begins ordered step) = one_step old new step (begin_nothing ordered)
receiving_keeps old new id (stops code step) = one_step old new step (stop_nothing code)
receiving_keeps old new id (takes_reset code step) = one_step old new step (take_reset_nothing code)
receiving_keeps old new id (ingested piece fin taken) = one_step old new taken.step (ingest_nothing piece fin taken.fresh)
receiving_keeps old new id (reset_taken code size taken) = one_step old new taken.step (reset_by_nothing code size taken.fresh)

-- ---- streams that are new

some_is : {H : Type 0} (a b : H) → Some a ≡ Some b → a ≡ b
some_is a b e = cc

new_send_none : (limit : ℕ) (o : OfHalf) → half_sent (new_send limit) o → ⊥
new_send_none limit (byte n) w = let none = rw (le-ltb n 0 (omega arith)) at w.1 in cc
new_send_none limit end w = false≢true w
new_send_none limit reset w = false≢true w

new_recv_none : (limit : ℕ) (o : OfReceiver) → receiver_sent (new_recv limit) o → ⊥
new_recv_none limit stop w = false≢true w
new_recv_none limit (stream_limit l) w = let e = w.0 in cc

fresh_sender : (b : Bool) (limit : ℕ) (g : PlainSend) (o : OfHalf) → (if b then Some (new_send limit) else None) ≡ Some g → half_sent g o → ⊥
fresh_sender true limit g o e w = new_send_none limit o (rw (← some_is _ g e) at w)
fresh_sender false limit g o e w = cc

fresh_receiver : (b : Bool) (limit : ℕ) (g : PlainRecv) (o : OfReceiver) → (if b then Some (new_recv limit) else None) ≡ Some g → receiver_sent g o → ⊥
fresh_receiver true limit g o e w = new_recv_none limit o (rw (← some_is _ g e) at w)
fresh_receiver false limit g o e w = cc

are_opened_keep : (old new : PlainStreams) (are_new : ℕ → Bool) → AreOpened old new are_new → SameCounts old new → Keeps old new
are_opened_keep old new are_new p counts (sender k o) w = elim (cases_Bool (are_new k)) [
  | inl among ↦ absurd (fresh_sender (has_send old.side k) (first_limit old k) w.half o (sym (rw among at (p.send_is k)) ∙ w.is) w.sent)
  | inr apart ↦ record { half = w.half; is = sym (rw apart at (p.send_is k)) ∙ w.is; sent = w.sent }
]
are_opened_keep old new are_new p counts (receiver k o) w = elim (cases_Bool (are_new k)) [
  | inl among ↦ absurd (fresh_receiver (has_recv old.side k) (min old.recv.stream_window (2 ^ 62 - 1)) w.half o (sym (rw among at (p.recv_is k)) ∙ w.is) w.sent)
  | inr apart ↦ record { half = w.half; is = sym (rw apart at (p.recv_is k)) ∙ w.is; sent = w.sent }
]
are_opened_keep old new are_new p counts (data_limit limit) w = let e : new.recv.announced ≡ old.recv.announced = ap (λ (r : PlainRecvHalves). r.announced) p.recv_rest in rw e at w
are_opened_keep old new are_new p counts (count dir n) w = rw (counts dir) at w

pub opened_keeps : (old new : PlainStreams) (id : ℕ) → IsOpened old new id → Keeps old new
opened_keeps old new id p = are_opened_keep old new _ p.halves (λ dir. ap (λ (s : PlainStreams). (counts_of s (is_two_way dir)).announced) p.rest_is ∙ counts_set (record old { send = new.send; recv = new.recv }) (is_bi id) _ refl dir)

pub arrived_keeps : (old new : PlainStreams) (id : ℕ) → HasArrived old new id → Keeps old new
arrived_keeps old new id p = elim (cases_Bool (was_opened old id)) [
  | inl known ↦ rw (p.known known) (λ o w. w)
  | inr fresh ↦ are_opened_keep old new _ (p.halves fresh)
      (λ dir. ap (λ (s : PlainStreams). (counts_of s (is_two_way dir)).announced) (p.rest_is fresh) ∙ counts_set (record old { send = new.send; recv = new.recv; events = _ }) (is_bi id) _ refl dir)
]

-- ---- frames that come

closed_like : (mid new : PlainStreams) (s : PlainStreams) (id : ℕ) (live : Bool) → new ≡ counted_closed s id live → s.send ≡ mid.send → SameCounts mid s → (new.send ≡ mid.send) × SameCounts mid new
closed_like mid new s id live e send_is counts = (
  ap (λ (s : PlainStreams). s.send) e ∙ (closed_alone s id live).send_is ∙ send_is,
  λ dir. ap (λ (s : PlainStreams). (counts_of s (is_two_way dir)).announced) e ∙ closed_counts s id live dir ∙ counts dir,
)

none_keeps : (mid new : PlainStreams) (id : ℕ) → IsRecvAbsent mid.recv new.recv id → new.send ≡ mid.send → SameCounts mid new → Keeps mid new
none_keeps mid new id none send_is counts =
    others_keep mid new (ap (λ (s : PlainSendHalves). s.halves) send_is) (ap (λ (r : PlainRecvHalves). r.halves) none.same) (ap (λ (r : PlainRecvHalves). r.announced) none.same) counts

piece_keeps : (mid new : PlainStreams) (id : ℕ) (piece : Chunk) (fin : Bool) → IsPieceTaken mid.recv new.recv id piece fin ⊎ IsRecvAbsent mid.recv new.recv id → new.send ≡ mid.send → SameCounts mid new → Keeps mid new
piece_keeps mid new id piece fin (inl taken) = receiving_keeps mid new id (ingested piece fin taken)
piece_keeps mid new id piece fin (inr none) = none_keeps mid new id none

reset_keeps : (mid new : PlainStreams) (id code size : ℕ) → IsResetTaken mid.recv new.recv id code size ⊎ IsRecvAbsent mid.recv new.recv id → new.send ≡ mid.send → SameCounts mid new → Keeps mid new
reset_keeps mid new id code size (inl taken) = receiving_keeps mid new id (reset_taken code size taken)
reset_keeps mid new id code size (inr none) = none_keeps mid new id none

pub received_keeps : (old new : PlainStreams) (f : StreamFrame) → IsReceived old new f → Keeps old new
received_keeps old new f (stream_received id offset payload fin p) o w =
    let like = closed_like p.mid new _ id.0 _ p.rest_is refl (λ dir. refl) in
    arrived_keeps old p.mid id.0 p.arrived o (piece_keeps p.mid new id.0 _ fin p.taken like.0 like.1 o w)
received_keeps old new f (reset_received id code size p) o w =
    let like = closed_like p.mid new _ id.0 _ p.rest_is refl (λ dir. refl) in
    arrived_keeps old p.mid id.0 p.arrived o (reset_keeps p.mid new id.0 code size p.taken like.0 like.1 o w)
received_keeps old new f (stop_received mid id code arrived step e) o w =
    arrived_keeps old mid id.0 arrived o (send_keeps mid new (step_goes step) (stopped_nothing code) (ap (λ (s : PlainStreams). s.recv) e) (λ dir. ap (λ (s : PlainStreams). (counts_of s (is_two_way dir)).announced) e) o w)
received_keeps old new f (stopped_before id code arrived was) o w = arrived_keeps old new id.0 arrived o w
received_keeps old new f (max_data_received limit e) o w =
    others_keep old new (ap (λ (s : PlainStreams). s.send.halves) e) (ap (λ (s : PlainStreams). s.recv.halves) e) (ap (λ (s : PlainStreams). s.recv.announced) e) (λ dir. ap (λ (s : PlainStreams). (counts_of s (is_two_way dir)).announced) e) o w
received_keeps old new f (max_stream_data_received mid id limit arrived step unblocked e) o w =
    arrived_keeps old mid id.0 arrived o (send_keeps mid new (step_or_absent step) (limit_nothing limit) (ap (λ (s : PlainStreams). s.recv) e) (λ dir. ap (λ (s : PlainStreams). (counts_of s (is_two_way dir)).announced) e) o w)
received_keeps old new f (max_streams_received dir n e) o w =
    let s : PlainStreams = record old { events = old.events ++ available_events (counts_of old (is_two_way dir)) n dir } in
    let alone = counts_alone s (is_two_way dir) (with_max_opened n (counts_of old (is_two_way dir))) in
    others_keep old new (ap (λ (s : PlainStreams). s.send.halves) e ∙ ap (λ (s : PlainSendHalves). s.halves) alone.send_is) (ap (λ (s : PlainStreams). s.recv.halves) e ∙ ap (λ (r : PlainRecvHalves). r.halves) alone.recv_is)
    (ap (λ (s : PlainStreams). s.recv.announced) e ∙ ap (λ (r : PlainRecvHalves). r.announced) alone.recv_is)
    (λ d. ap (λ (s : PlainStreams). (counts_of s (is_two_way d)).announced) e ∙ counts_set s (is_two_way dir) _ refl d) o w

-- ---- at first

pub fresh_tracked : (s : PlainStreams) → IsFresh s → AreTracked s []
fresh_tracked s fresh =
    let no_send = fresh.no_send in
    let no_recv = fresh.no_recv in
    record {
      bytes = λ id n h is live mark. let none = rw no_send at is in cc;
      ends = λ id h is e. let none = rw no_send at is in cc;
      resets = λ id code h is e. let none = rw no_send at is in cc;
      stops = λ id code r is e. let none = rw no_recv at is in cc;
      stream_limits = λ id r is e. let none = rw no_recv at is in cc;
      data_limit = λ e. fresh.limit e;
      counts = λ dir e. fresh.counts dir e;
    }
