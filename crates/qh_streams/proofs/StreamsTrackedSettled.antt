-- Frames that are lost or acknowledged: what counts as sent afterwards did so before, and isn't in the frame.
use Rattle.std.proofs.Common.{◌≡◌, ◌⊎◌, ℕ, ◌<◌, ◌≤◌, ◌==◌, nat_lt, Bool, true, false, ◌&&◌, not, List, [], ◌∷◌, ◌++◌, Option, Some, None, if◌then◌else◌, refl, sym, ap, ◌∙◌, arith, inl, inr}
use Rattle.std.specs.Option.{option_map}
use Rattle.std.proofs.lemmas.Bool.{false≢true, eqb-true, eq-eqb, cases_Bool}
use Rattle.qh_spec.specs.declared.sides.Dir.{Dir}
use Rattle.qh_buffers.specs.SendBuffer.{lost_mark, mark_at, is_between, requeued}
use Rattle.qh_buffers.specs.declared.send_buffer.Mark.{Mark}
use Rattle.qh_buffers.specs.declared.send_buffer.Mark.TheVariants.{Sent, Queued, Acked}
use Rattle.qh_buffers.proofs.Pieces.{between_true}
use Rattle.qh_base.specs.declared.stream_id.StreamId.{StreamId}
use Rattle.qh_streams.specs.declared.frames.SentFrame.{SentFrame}
use Rattle.qh_streams.specs.declared.frames.SentFrame.TheVariants as sent
use Rattle.qh_half.specs.declared.recv.StopFrame.{StopFrame}
use Rattle.qh_half.specs.declared.send.SendState.{SendState}
use Rattle.qh_half.specs.declared.send.SendState.TheVariants.{Ready, DataSent, ResetSent}
use Rattle.qh_half.specs.declared.send.Outgoing.{Outgoing}
use Rattle.qh_half.specs.declared.send.ResetFrame.{ResetFrame}
use Rattle.qh_halves.specs.declared.limit.AnnouncedLimit.{AnnouncedLimit}
use Rattle.qh_halves.specs.Limit.{acked_at, lost_at}
use Rattle.qh_half.specs.Send.{PlainSend, is_reset, with_end_acked, with_end_lost, with_reset_mark, with_reset_lost}
use Rattle.qh_halves.specs.SendHalves.{PlainSendHalves, send_at, IsAcked, IsLost, IsResetAcked, IsResetLost}
use Rattle.qh_half.specs.Recv.{PlainRecv, acked_stop, lost_stop}
use Rattle.qh_halves.specs.RecvHalves.{PlainRecvHalves, recv_at, IsRecvStep, IsRecvAbsent, IsStopLost, IsStopAcked, IsLimitLost, IsLimitAcked}
use Rattle.qh_streams.specs.Streams.{PlainStreams, counts_of, is_two_way, is_live, counted_closed, finished_events, IsLostFrame, IsAckedFrame}
use Rattle.qh_streams.specs.Streams.IsLostFrame.{stream as stream_lost, reset as reset_lost, stop as stop_lost, max_stream_data as max_stream_data_lost, max_data as max_data_lost, max_streams as max_streams_lost}
use Rattle.qh_streams.specs.Streams.IsAckedFrame.{stream as stream_acked, reset as reset_acked, stop as stop_acked, max_stream_data as max_stream_data_acked, max_data as max_data_acked, max_streams as max_streams_acked}
use Rattle.qh_streams.proofs.StreamsSettled.{closed_alone}
use Rattle.qh_streams.proofs.StreamsTracked.{OfHalf, byte, end, reset, OfReceiver, stop, stream_limit, Owed, sender, receiver, data_limit, count, HasOfHalf, HasOfReceiver, Has, is_end_sent, is_reset_sent, is_sent_mark, is_stop_sent, half_sent, receiver_sent, SentBy, IsSentAt, IsSent, Drops, has_none, step_or_absent, settled_goes, recv_or_absent}
use Rattle.qh_streams.proofs.StreamsTrackedSteps.{same_limit, by_sender, by_receiver, by_limit, by_count, closed_counts}

-- ---- a piece

-- a byte, the end or a reset that counts as sent did so before, and isn't in the piece
record IsPieceGone (h next : PlainSend) (from to : ℕ) (fin : Bool) : Type 0 where
  bytes : (n : ℕ) → is_reset next.state ≡ false → mark_at next.buffer n ≡ Some Sent → (is_reset h.state ≡ false) × (mark_at h.buffer n ≡ Some Sent) × (is_between from to n ≡ false)
  ends : is_end_sent next.state ≡ true → (is_end_sent h.state ≡ true) × (fin ≡ false)
  resets : is_reset_sent next.state ≡ true → is_reset_sent h.state ≡ true

requeued_gone : (b : Bool) (m : Option Mark) → (if b then requeued m else m) ≡ Some Sent → (m ≡ Some Sent) × (b ≡ false)
requeued_gone false m e = (e, refl)
requeued_gone true None e = absurd (cc)
requeued_gone true (Some Sent) e = absurd (cc)
requeued_gone true (Some Queued) e = absurd (cc)
requeued_gone true (Some Acked) e = absurd (cc)

acked_gone : (b : Bool) (m : Option Mark) → (if b then Some Acked else m) ≡ Some Sent → (m ≡ Some Sent) × (b ≡ false)
acked_gone false m e = (e, refl)
acked_gone true m e = absurd (cc)

-- the state that an end leaves which is lost or acknowledged
record IsEndGone (s t : SendState) (fin : Bool) : Type 0 where
  reset_is : is_reset t ≡ is_reset s
  ends : is_end_sent t ≡ true → (is_end_sent s ≡ true) × (fin ≡ false)
  resets : is_reset_sent t ≡ is_reset_sent s

end_lost : (fin : Bool) (s : SendState) → IsEndGone s (if fin then with_end_lost s else s) fin
end_lost false s = record { reset_is = refl; ends = λ e. (e, refl); resets = refl }
end_lost true Ready = record { reset_is = refl; ends = λ e. absurd (false≢true e); resets = refl }
end_lost true (DataSent Sent) = record { reset_is = refl; ends = λ e. absurd (false≢true e); resets = refl }
end_lost true (DataSent Queued) = record { reset_is = refl; ends = λ e. absurd (false≢true e); resets = refl }
end_lost true (DataSent Acked) = record { reset_is = refl; ends = λ e. absurd (false≢true e); resets = refl }
end_lost true (ResetSent code mark) = record { reset_is = refl; ends = λ e. absurd (false≢true e); resets = refl }

end_acked : (fin : Bool) (s : SendState) → IsEndGone s (if fin then with_end_acked s else s) fin
end_acked false s = record { reset_is = refl; ends = λ e. (e, refl); resets = refl }
end_acked true Ready = record { reset_is = refl; ends = λ e. absurd (false≢true e); resets = refl }
end_acked true (DataSent mark) = record { reset_is = refl; ends = λ e. absurd (false≢true e); resets = refl }
end_acked true (ResetSent code mark) = record { reset_is = refl; ends = λ e. absurd (false≢true e); resets = refl }

piece_gone : (h next : PlainSend) (from to : ℕ) (fin : Bool) (t : SendState) → next.state ≡ t → IsEndGone h.state t fin
    → (is_reset h.state ≡ false → (n : ℕ) → mark_at next.buffer n ≡ Some Sent → (mark_at h.buffer n ≡ Some Sent) × (is_between from to n ≡ false)) → IsPieceGone h next from to fin
piece_gone h next from to fin t state_is ended marks = record {
  bytes = λ n live mark. let was = sym ended.reset_is ∙ sym (ap is_reset state_is) ∙ live in let m = marks was n mark in (was, m.0, m.1);
  ends = λ e. ended.ends (sym (ap is_end_sent state_is) ∙ e);
  resets = λ e. sym ended.resets ∙ sym (ap is_reset_sent state_is) ∙ e;
}

piece_lost : (piece : Outgoing) (h next : PlainSend) → IsLost piece h next → IsPieceGone h next piece.offsets.start piece.offsets.end piece.fin
piece_lost piece h next p = piece_gone h next piece.offsets.start piece.offsets.end piece.fin _ p.state_is (end_lost piece.fin h.state)
    (λ live n mark. requeued_gone (is_between piece.offsets.start piece.offsets.end n) (mark_at h.buffer n) (sym ((p.bytes_are live).marks n) ∙ mark))

piece_acked : (piece : Outgoing) (h next : PlainSend) → IsAcked piece h next → IsPieceGone h next piece.offsets.start piece.offsets.end piece.fin
piece_acked piece h next p = piece_gone h next piece.offsets.start piece.offsets.end piece.fin _ p.state_is (end_acked piece.fin h.state)
    (λ live n mark. acked_gone (is_between piece.offsets.start piece.offsets.end n) (mark_at h.buffer n) (sym ((p.bytes_are live).marks n) ∙ mark))

gone_half : (id : StreamId) (piece : Outgoing) (h next : PlainSend) (o : OfHalf) → IsPieceGone h next piece.offsets.start piece.offsets.end piece.fin → half_sent next o
    → half_sent h o × (HasOfHalf id.0 o (sent.Stream id piece) → ⊥)
gone_half id piece h next (byte n) p w =
    let was = p.bytes n w.0 w.1 in
    ((was.0, was.1), λ has. false≢true (sym was.2 ∙ between_true piece.offsets.start piece.offsets.end n has.1 has.2))
gone_half id piece h next end p w = let was = p.ends w in (was.0, λ has. false≢true (sym was.1 ∙ has.1))
gone_half id piece h next reset p w = (p.resets w, λ has. has)

-- ---- a reset

reset_lost_state : (s : SendState) → (is_reset (with_reset_lost s) ≡ is_reset s) × (is_end_sent (with_reset_lost s) ≡ is_end_sent s) × (is_reset_sent (with_reset_lost s) ≡ true → ⊥)
reset_lost_state Ready = (refl, refl, false≢true)
reset_lost_state (DataSent mark) = (refl, refl, false≢true)
reset_lost_state (ResetSent code Sent) = (refl, refl, false≢true)
reset_lost_state (ResetSent code Queued) = (refl, refl, false≢true)
reset_lost_state (ResetSent code Acked) = (refl, refl, false≢true)

reset_acked_state : (s : SendState) → (is_reset (with_reset_mark Acked s) ≡ is_reset s) × (is_end_sent (with_reset_mark Acked s) ≡ is_end_sent s) × (is_reset_sent (with_reset_mark Acked s) ≡ true → ⊥)
reset_acked_state Ready = (refl, refl, false≢true)
reset_acked_state (DataSent mark) = (refl, refl, false≢true)
reset_acked_state (ResetSent code mark) = (refl, refl, false≢true)

reset_gone : (id : StreamId) (frame : ResetFrame) (h next : PlainSend) (t : SendState) (o : OfHalf) → next ≡ record h { state = t }
    → (is_reset t ≡ is_reset h.state) × (is_end_sent t ≡ is_end_sent h.state) × (is_reset_sent t ≡ true → ⊥) → half_sent next o
    → half_sent h o × (HasOfHalf id.0 o (sent.ResetStream id frame) → ⊥)
reset_gone id frame h next t (byte n) is p w = let was = rw is at w in ((sym p.0 ∙ was.0, was.1), λ has. has)
reset_gone id frame h next t end is p w = let was = rw is at w in (sym p.1 ∙ was, λ has. has)
reset_gone id frame h next t reset is p w = let was = rw is at w in absurd (p.2 was)

-- ---- STOP_SENDING and MAX_STREAM_DATA

lost_is_gone : (m : Mark) → lost_mark m ≡ Sent → ⊥
lost_is_gone Sent e = cc
lost_is_gone Queued e = cc
lost_is_gone Acked e = cc

stop_lost_gone : (f : Option StopFrame) → is_stop_sent (option_map lost_stop f) ≡ true → ⊥
stop_lost_gone None e = false≢true e
stop_lost_gone (Some f) e = lost_sent f.mark e where
  lost_sent : (m : Mark) → is_sent_mark (lost_mark m) ≡ true → ⊥
  lost_sent Sent e = false≢true e
  lost_sent Queued e = false≢true e
  lost_sent Acked e = false≢true e

stop_acked_gone : (f : Option StopFrame) → is_stop_sent (option_map acked_stop f) ≡ true → ⊥
stop_acked_gone None e = false≢true e
stop_acked_gone (Some f) e = false≢true e

stop_gone : (id : StreamId) (code : ℕ) (r next : PlainRecv) (f : Option StopFrame) (o : OfReceiver) → next ≡ record r { stop_frame = f } → (is_stop_sent f ≡ true → ⊥) → receiver_sent next o
    → receiver_sent r o × (HasOfReceiver id.0 o (sent.StopSending id code) → ⊥)
stop_gone id code r next f stop is gone w = let was = rw is at w in absurd (gone was)
stop_gone id code r next f (stream_limit limit) is gone w = (rw is at w, λ has. has)

-- a limit whose frame is gone isn't the last one, if that still counts as sent
value_gone : (value last : ℕ) (m gone : Mark) → (gone ≡ Sent → ⊥) → (if value == last then gone else m) ≡ Sent → (m ≡ Sent) × (value ≡ last → ⊥)
value_gone value last m gone is_gone e = elim (cases_Bool (value == last)) [
  | inl same ↦ absurd (is_gone (rw same at e))
  | inr apart ↦ (rw apart at e, λ same. false≢true (sym apart ∙ eq-eqb value last same))
]

limit_gone : (id : StreamId) (limit : ℕ) (r next : PlainRecv) (gone : Mark) (o : OfReceiver) → next ≡ record r { limit_mark = (if limit == r.sent_max_stream_data then gone else r.limit_mark) }
    → (gone ≡ Sent → ⊥) → receiver_sent next o → receiver_sent r o × (HasOfReceiver id.0 o (sent.MaxStreamData id limit) → ⊥)
limit_gone id limit r next gone stop is none w = (rw is at w, λ has. has)
limit_gone id limit r next gone (stream_limit l) is none w =
    let was = rw is at w in
    let p = value_gone limit r.sent_max_stream_data r.limit_mark gone none was.0 in
    ((p.0, was.1), λ has. p.1 (has.1 ∙ sym was.1))

-- ---- limits of the connection, and counts

announced_gone : (value l : ℕ) (a : AnnouncedLimit) (gone : Mark) → (gone ≡ Sent → ⊥) → IsSentAt (record a { mark = (if value == a.value then gone else a.mark) }) l → IsSentAt a l × (value ≡ l → ⊥)
announced_gone value l a gone none w = let p = value_gone value a.value a.mark gone none w.0 in ((p.0, w.1), λ has. p.1 (has ∙ sym w.1))

-- ---- whole frames

abbrev DropsOf : PlainStreams → SentFrame → Owed → Type 0
DropsOf old f o = IsSent old o × (Has o f → ⊥)

abbrev half_too : {H T : Type 0} (S : H → T → Type 0) (at : ℕ → Option H) (id : ℕ) (X : Type 0) (h : H) (o : T) → at id ≡ Some h → S h o × X → SentBy S at id o × X
half_too S at id X h o is w = (record { half = h; is = is; sent = w.0 }, w.1)

acked_is_gone : Acked ≡ Sent → ⊥
acked_is_gone e = cc

pub lost_drops : (old new : PlainStreams) (f : SentFrame) → IsLostFrame old new f → Drops old new f
lost_drops old new f (stream_lost id piece step rest) =
    by_sender old new (DropsOf old f) (step_or_absent step) (ap (λ (s : PlainStreams). s.recv) rest) (λ dir. ap (λ (s : PlainStreams). (counts_of s (is_two_way dir)).announced) rest)
    (λ h g o is p w. half_too half_sent (send_at old.send) id.0 _ h o is (gone_half id piece h g o (piece_lost piece h g p) w))
    (λ o apart w. (w, has_none f o apart))
lost_drops old new f (reset_lost id frame step rest) =
    by_sender old new (DropsOf old f) (step_or_absent step) (ap (λ (s : PlainStreams). s.recv) rest) (λ dir. ap (λ (s : PlainStreams). (counts_of s (is_two_way dir)).announced) rest)
    (λ h g o is p w. half_too half_sent (send_at old.send) id.0 _ h o is (reset_gone id frame h g _ o p (reset_lost_state h.state) w))
    (λ o apart w. (w, has_none f o apart))
lost_drops old new f (stop_lost id code step rest) =
    by_receiver old new (DropsOf old f) (recv_or_absent step) (ap (λ (s : PlainStreams). s.send) rest) (same_limit step) (λ dir. ap (λ (s : PlainStreams). (counts_of s (is_two_way dir)).announced) rest)
    (λ h g o is p w. half_too receiver_sent (recv_at old.recv) id.0 _ h o is (stop_gone id code h g _ o p (stop_lost_gone h.stop_frame) w))
    (λ o apart w. (w, has_none f o apart))
lost_drops old new f (max_stream_data_lost id limit step rest) =
    by_receiver old new (DropsOf old f) (recv_or_absent step) (ap (λ (s : PlainStreams). s.send) rest) (same_limit step) (λ dir. ap (λ (s : PlainStreams). (counts_of s (is_two_way dir)).announced) rest)
    (λ h g o is p w. half_too receiver_sent (recv_at old.recv) id.0 _ h o is (limit_gone id limit h g _ o p (lost_is_gone h.limit_mark) w))
    (λ o apart w. (w, has_none f o apart))
lost_drops old new f (max_data_lost limit rest) = rw rest (by_limit old (DropsOf old f) _ (λ l w. announced_gone limit l old.recv.announced _ (lost_is_gone old.recv.announced.mark) w) (λ o apart w. (w, has_none f o apart)))
lost_drops old new f (max_streams_lost dir n rest) =
    let a = (counts_of old (is_two_way dir)).announced in
    rw rest (by_count old (DropsOf old f) dir _ (λ l w. let p = announced_gone n l a _ (lost_is_gone a.mark) w in (p.0, λ has. p.1 has.1)) (λ o apart w. (w, has_none f o apart)))

pub acked_drops : (old new : PlainStreams) (f : SentFrame) → IsAckedFrame old new f → Drops old new f
acked_drops old new f (stream_acked id piece finished step rest) =
    let mid : PlainStreams = record old { send = new.send; events = old.events ++ finished_events finished id } in
    by_sender old new (DropsOf old f) (settled_goes step) (ap (λ (s : PlainStreams). s.recv) rest ∙ (closed_alone mid id.0 (is_live old id.0)).recv_is)
    (λ dir. ap (λ (s : PlainStreams). (counts_of s (is_two_way dir)).announced) rest ∙ closed_counts mid id.0 (is_live old id.0) dir)
    (λ h g o is p w. half_too half_sent (send_at old.send) id.0 _ h o is (gone_half id piece h g o (piece_acked piece h g p) w))
    (λ o apart w. (w, has_none f o apart))
acked_drops old new f (reset_acked id frame gone step rest) =
    let mid : PlainStreams = record old { send = new.send } in
    by_sender old new (DropsOf old f) (settled_goes step) (ap (λ (s : PlainStreams). s.recv) rest ∙ (closed_alone mid id.0 (is_live old id.0)).recv_is)
    (λ dir. ap (λ (s : PlainStreams). (counts_of s (is_two_way dir)).announced) rest ∙ closed_counts mid id.0 (is_live old id.0) dir)
    (λ h g o is p w. half_too half_sent (send_at old.send) id.0 _ h o is (reset_gone id frame h g _ o p (reset_acked_state h.state) w))
    (λ o apart w. (w, has_none f o apart))
acked_drops old new f (stop_acked id code step rest) =
    by_receiver old new (DropsOf old f) (recv_or_absent step) (ap (λ (s : PlainStreams). s.send) rest) (same_limit step) (λ dir. ap (λ (s : PlainStreams). (counts_of s (is_two_way dir)).announced) rest)
    (λ h g o is p w. half_too receiver_sent (recv_at old.recv) id.0 _ h o is (stop_gone id code h g _ o p (stop_acked_gone h.stop_frame) w))
    (λ o apart w. (w, has_none f o apart))
acked_drops old new f (max_stream_data_acked id limit step rest) =
    by_receiver old new (DropsOf old f) (recv_or_absent step) (ap (λ (s : PlainStreams). s.send) rest) (same_limit step) (λ dir. ap (λ (s : PlainStreams). (counts_of s (is_two_way dir)).announced) rest)
    (λ h g o is p w. half_too receiver_sent (recv_at old.recv) id.0 _ h o is (limit_gone id limit h g _ o p acked_is_gone w))
    (λ o apart w. (w, has_none f o apart))
acked_drops old new f (max_data_acked limit rest) = rw rest (by_limit old (DropsOf old f) _ (λ l w. announced_gone limit l old.recv.announced _ acked_is_gone w) (λ o apart w. (w, has_none f o apart)))
acked_drops old new f (max_streams_acked dir n rest) =
    let a = (counts_of old (is_two_way dir)).announced in
    rw rest (by_count old (DropsOf old f) dir _ (λ l w. let p = announced_gone n l a _ acked_is_gone w in (p.0, λ has. p.1 has.1)) (λ o apart w. (w, has_none f o apart)))
