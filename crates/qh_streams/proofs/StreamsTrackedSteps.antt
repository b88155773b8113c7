-- Frames that are handed over, lost or acknowledged: which of what counted as sent before does so after.
use Rattle.std.proofs.Common.{◌≡◌, ◌⊎◌, ℕ, ◌<◌, ◌≤◌, ◌==◌, nat_lt, Bool, true, false, ◌&&◌, not, List, [], ◌∷◌, ◌++◌, Option, Some, None, if◌then◌else◌, refl, sym, ap, ◌∙◌, arith, inl, inr}
use Rattle.std.specs.Option.{option_map}
use Rattle.std.proofs.lemmas.Bool.{false≢true, eqb-true, eq-eqb, cases_lt, cases_Bool}
use Rattle.qh_spec.specs.declared.sides.Dir.{Dir}
use Rattle.qh_spec.specs.declared.sides.Dir.TheVariants.{Bi, Uni}
use Rattle.qh_buffers.specs.SendBuffer.{lost_mark, mark_at, is_between, requeued}
use Rattle.qh_buffers.specs.declared.send_buffer.Mark.{Mark}
use Rattle.qh_buffers.specs.declared.send_buffer.Mark.TheVariants.{Sent, Queued, Acked}
use Rattle.qh_buffers.proofs.Pieces.{between_true, between_low, between_high}
use Rattle.qh_base.specs.declared.stream_id.StreamId.{StreamId}
use Rattle.qh_streams.specs.declared.frames.SentFrame.{SentFrame}
use Rattle.qh_streams.specs.declared.frames.SentFrame.TheVariants as sent
use Rattle.qh_half.specs.declared.recv.StopFrame.{StopFrame}
use Rattle.qh_half.specs.declared.send.SendState.{SendState}
use Rattle.qh_half.specs.declared.send.SendState.TheVariants.{Ready, DataSent, ResetSent}
use Rattle.qh_half.specs.declared.send.Outgoing.{Outgoing}
use Rattle.qh_half.specs.declared.send.ResetFrame.{ResetFrame}
use Rattle.qh_halves.specs.declared.counts.StreamCounts.{StreamCounts}
use Rattle.qh_halves.specs.declared.limit.AnnouncedLimit.{AnnouncedLimit}
use Rattle.qh_halves.specs.declared.recv_halves.StreamControl.TheVariants.{StopSending, MaxStreamData}
use Rattle.qh_halves.specs.Limit.{acked_at, lost_at}
use Rattle.qh_halves.specs.Counts.{is_own, is_bi}
use Rattle.qh_half.specs.Send.{PlainSend, is_reset, with_end_sent, with_end_acked, with_end_lost, with_reset_mark, with_reset_lost, IsPieceOut, IsEndOut}
use Rattle.qh_halves.specs.SendHalves.{PlainSendHalves, send_at, GivesPiece, GivesReset, IsAcked, IsLost, IsResetAcked, IsResetLost}
use Rattle.qh_half.specs.Recv.{PlainRecv, acked_stop, lost_stop}
use Rattle.qh_halves.specs.RecvHalves.{PlainRecvHalves, recv_at, IsRecvStep, IsRecvAbsent, GivesControl, IsStopLost, IsStopAcked, IsLimitLost, IsLimitAcked}
use Rattle.qh_streams.specs.Streams.{PlainStreams, counts_of, with_counts, is_two_way, is_live, counted_closed, finished_events, IsHandedOver, IsLostFrame, IsAckedFrame}
use Rattle.qh_streams.specs.Streams.IsHandedOver.{stream as stream_handed, reset as reset_handed, stop as stop_handed, max_stream_data as max_stream_data_handed, max_data as max_data_handed, max_streams as max_streams_handed}
use Rattle.qh_streams.specs.Streams.IsLostFrame.{stream as stream_lost, reset as reset_lost, stop as stop_lost, max_stream_data as max_stream_data_lost, max_data as max_data_lost, max_streams as max_streams_lost}
use Rattle.qh_streams.specs.Streams.IsAckedFrame.{stream as stream_acked, reset as reset_acked, stop as stop_acked, max_stream_data as max_stream_data_acked, max_data as max_data_acked, max_streams as max_streams_acked}
use Rattle.qh_streams.specs.Tracked.{SameCounts}
use Rattle.qh_streams.proofs.StreamsSettled.{counts_alone, closed_alone}
use Rattle.qh_streams.proofs.StreamsTracked.{OfHalf, byte, end, reset, OfReceiver, stop, stream_limit, Owed, sender, receiver, data_limit, count, HasOfHalf, HasOfReceiver, Has, is_end_sent, is_reset_sent, is_sent_mark, is_stop_sent, half_sent, receiver_sent, SentBy, IsSentAt, IsSent, Keeps, Adds, Drops, at_sender, at_receiver, at_limit, at_count, has_none, Goes, step_goes, step_or_absent, settled_goes, recv_goes, recv_or_absent, at_half}

-- ---- if a step changes one part of all that is kept

-- the limit of the connection stays
pub same_limit : {P : PlainRecv → PlainRecv → Type 0} {old new : PlainRecvHalves} {id n : ℕ} → IsRecvStep P old new id n ⊎ IsRecvAbsent old new id → new.announced ≡ old.announced
same_limit (inl step) = ap (λ (r : PlainRecvHalves). r.announced) step.rest_is
same_limit (inr a) = ap (λ (r : PlainRecvHalves). r.announced) a.same

pub by_sender : {P : PlainSend → PlainSend → Type 0} {id : ℕ} (old new : PlainStreams) (R : Owed → Type 0) → Goes P (send_at old.send) (send_at new.send) id
    → new.recv ≡ old.recv → SameCounts old new
    → ((h next : PlainSend) (o : OfHalf) → send_at old.send id ≡ Some h → P h next → half_sent next o → R (sender id o))
    → ((o : Owed) → at_sender id o ≡ false → IsSent old o → R o) → (o : Owed) → IsSent new o → R o
by_sender old new R goes recv_is counts here away (sender k o) w = at_half (λ k o. R (sender k o)) goes here (λ k o apart was. away (sender k o) apart was) k o w
by_sender old new R goes recv_is counts here away (receiver k o) w = away (receiver k o) refl (rw recv_is at w)
by_sender old new R goes recv_is counts here away (data_limit limit) w = away (data_limit limit) refl (rw recv_is at w)
by_sender old new R goes recv_is counts here away (count dir n) w = away (count dir n) refl (rw (counts dir) at w)

pub by_receiver : {P : PlainRecv → PlainRecv → Type 0} {id : ℕ} (old new : PlainStreams) (R : Owed → Type 0) → Goes P (recv_at old.recv) (recv_at new.recv) id
    → new.send ≡ old.send → new.recv.announced ≡ old.recv.announced → SameCounts old new
    → ((h next : PlainRecv) (o : OfReceiver) → recv_at old.recv id ≡ Some h → P h next → receiver_sent next o → R (receiver id o))
    → ((o : Owed) → at_receiver id o ≡ false → IsSent old o → R o) → (o : Owed) → IsSent new o → R o
by_receiver old new R goes send_is limit_is counts here away (sender k o) w = away (sender k o) refl (rw send_is at w)
by_receiver old new R goes send_is limit_is counts here away (receiver k o) w = at_half (λ k o. R (receiver k o)) goes here (λ k o apart was. away (receiver k o) apart was) k o w
by_receiver old new R goes send_is limit_is counts here away (data_limit limit) w = away (data_limit limit) refl (rw limit_is at w)
by_receiver old new R goes send_is limit_is counts here away (count dir n) w = away (count dir n) refl (rw (counts dir) at w)

pub by_limit : (old : PlainStreams) (R : Owed → Type 0) (a : AnnouncedLimit) → ((limit : ℕ) → IsSentAt a limit → R (data_limit limit))
    → ((o : Owed) → at_limit o ≡ false → IsSent old o → R o) → (o : Owed) → IsSent (record old { recv = record old.recv { announced = a } }) o → R o
by_limit old R a here away (sender k o) w = away (sender k o) refl w
by_limit old R a here away (receiver k o) w = away (receiver k o) refl w
by_limit old R a here away (data_limit limit) w = here limit w
by_limit old R a here away (count dir n) w = away (count dir n) refl w

abbrev pub with_announced : PlainStreams → Dir → AnnouncedLimit → PlainStreams
with_announced s d a = with_counts s (is_two_way d) (record (counts_of s (is_two_way d)) { announced = a })

pub by_count : (old : PlainStreams) (R : Owed → Type 0) (d : Dir) (a : AnnouncedLimit) → ((n : ℕ) → IsSentAt a n → R (count d n))
    → ((o : Owed) → at_count d o ≡ false → IsSent old o → R o) → (o : Owed) → IsSent (with_announced old d a) o → R o
by_count old R Bi a here away (sender k o) w = away (sender k o) refl w
by_count old R Bi a here away (receiver k o) w = away (receiver k o) refl w
by_count old R Bi a here away (data_limit limit) w = away (data_limit limit) refl w
by_count old R Bi a here away (count Bi n) w = here n w
by_count old R Bi a here away (count Uni n) w = away (count Uni n) refl w
by_count old R Uni a here away (sender k o) w = away (sender k o) refl w
by_count old R Uni a here away (receiver k o) w = away (receiver k o) refl w
by_count old R Uni a here away (data_limit limit) w = away (data_limit limit) refl w
by_count old R Uni a here away (count Bi n) w = away (count Bi n) refl w
by_count old R Uni a here away (count Uni n) w = here n w

pub counts_set : (s : PlainStreams) (two_way : Bool) (c : StreamCounts) → c.announced ≡ (counts_of s two_way).announced → SameCounts s (with_counts s two_way c)
counts_set s true c e Bi = e
counts_set s true c e Uni = refl
counts_set s false c e Bi = refl
counts_set s false c e Uni = e

pub closed_counts : (s : PlainStreams) (id : ℕ) (was_live : Bool) → SameCounts s (counted_closed s id was_live)
closed_counts s id was_live dir = elim (cases_Bool (not (is_own s.side id) && (was_live && not (is_live s id)))) [
  | inl e ↦ rw e (counts_set s (is_bi id) _ refl dir)
  | inr e ↦ rw e refl
]

-- ---- frames that are handed over

state_sent : (fin : Bool) (s : SendState) → (is_reset (if fin then with_end_sent s else s) ≡ is_reset s) × (is_reset_sent (if fin then with_end_sent s else s) ≡ is_reset_sent s)
state_sent false s = (refl, refl)
state_sent true Ready = (refl, refl)
state_sent true (DataSent Sent) = (refl, refl)
state_sent true (DataSent Queued) = (refl, refl)
state_sent true (DataSent Acked) = (refl, refl)
state_sent true (ResetSent code mark) = (refl, refl)

piece_out : (room : ℕ) (id : StreamId) (piece : Outgoing) (h next : PlainSend) (o : OfHalf) → IsPieceOut h next room piece.offsets.start piece.offsets.end piece.fin → half_sent next o
    → half_sent h o ⊎ HasOfHalf id.0 o (sent.Stream id piece)
piece_out room id piece h next (byte n) p w = elim (cases_lt n piece.offsets.start) [
  | inl low ↦ inl (p.not_reset, rw (between_low piece.offsets.start piece.offsets.end n low) at (sym (p.bytes_are.marks n)) ∙ w.1)
  | inr from ↦ elim (cases_lt n piece.offsets.end) [
    | inl within ↦ inr (refl, from, within)
    | inr past ↦ inl (p.not_reset, rw (between_high piece.offsets.start piece.offsets.end n past) at (sym (p.bytes_are.marks n)) ∙ w.1)
  ]
]
piece_out room id piece h next end p w = elim (cases_Bool piece.fin) [
  | inl fin ↦ inr (refl, fin)
  | inr none ↦ inl (ap is_end_sent (sym (rw none at p.state_is)) ∙ w)
]
piece_out room id piece h next reset p w = inl (sym (state_sent piece.fin h.state).1 ∙ ap is_reset_sent (sym p.state_is) ∙ w)

end_out : (id : StreamId) (piece : Outgoing) (h next : PlainSend) (o : OfHalf) → IsEndOut h next piece.offsets.start piece.offsets.end piece.fin → half_sent next o
    → half_sent h o ⊎ HasOfHalf id.0 o (sent.Stream id piece)
end_out id piece h next (byte n) p w = let was = rw p.new_is at w in inl (sym (state_sent true h.state).0 ∙ was.0, was.1)
end_out id piece h next end p w = inr (refl, p.fin_is)
end_out id piece h next reset p w = let was = rw p.new_is at w in inl (sym (state_sent true h.state).1 ∙ was)

gives_piece : (room : ℕ) (id : StreamId) (piece : Outgoing) (h next : PlainSend) (o : OfHalf) → GivesPiece room piece h next → half_sent next o
    → half_sent h o ⊎ HasOfHalf id.0 o (sent.Stream id piece)
gives_piece room id piece h next o (inl p) w = piece_out room id piece h next o p w
gives_piece room id piece h next o (inr p) w = end_out id piece h next o p w

state_reset : (m : Mark) (s : SendState) → (is_reset (with_reset_mark m s) ≡ is_reset s) × (is_end_sent (with_reset_mark m s) ≡ is_end_sent s)
state_reset m Ready = (refl, refl)
state_reset m (DataSent mark) = (refl, refl)
state_reset m (ResetSent code mark) = (refl, refl)

gives_reset : (id : StreamId) (frame : ResetFrame) (h next : PlainSend) (o : OfHalf) → GivesReset frame h next → half_sent next o
    → half_sent h o ⊎ HasOfHalf id.0 o (sent.ResetStream id frame)
gives_reset id frame h next (byte n) p w = let was = rw p.2 at w in inl (sym (state_reset Sent h.state).0 ∙ was.0, was.1)
gives_reset id frame h next end p w = let was = rw p.2 at w in inl (sym (state_reset Sent h.state).1 ∙ was)
gives_reset id frame h next reset p w = inr refl

gives_stop : (window : ℕ) (id : StreamId) (code : ℕ) (r next : PlainRecv) (o : OfReceiver) → GivesControl window (StopSending code) r next → receiver_sent next o
    → receiver_sent r o ⊎ HasOfReceiver id.0 o (sent.StopSending id code)
gives_stop window id code r next stop p w = inr refl
gives_stop window id code r next (stream_limit limit) p w = inl (rw p.2 at w)

gives_limit : (window : ℕ) (id : StreamId) (limit : ℕ) (r next : PlainRecv) (o : OfReceiver) → GivesControl window (MaxStreamData limit) r next → receiver_sent next o
    → receiver_sent r o ⊎ HasOfReceiver id.0 o (sent.MaxStreamData id limit)
gives_limit window id limit r next stop p w = inl (rw p.2 at w)
gives_limit window id limit r next (stream_limit l) p w = let is = rw p.2 at w in inr (refl, is.1)

-- a half had it before, or the frame has it
abbrev pub half_or : {H T : Type 0} (S : H → T → Type 0) (at : ℕ → Option H) (id : ℕ) (X : Type 0) (h : H) (o : T) → at id ≡ Some h → S h o ⊎ X → SentBy S at id o ⊎ X
half_or S at id X h o is (inl w) = inl (record { half = h; is = is; sent = w })
half_or S at id X h o is (inr x) = inr x

abbrev AddedOr : PlainStreams → SentFrame → Owed → Type 0
AddedOr old f o = IsSent old o ⊎ Has o f

pub written_adds : (old new : PlainStreams) (room : ℕ) (f : SentFrame) → IsHandedOver old new room f → Adds old new f
written_adds old new room f (stream_handed id piece next rest) =
    by_sender old new (AddedOr old f) (step_goes next.step) (ap (λ (s : PlainStreams). s.recv) rest) (λ dir. ap (λ (s : PlainStreams). (counts_of s (is_two_way dir)).announced) rest)
    (λ h g o is p w. half_or half_sent (send_at old.send) id.0 _ h o is (gives_piece _ id piece h g o p w))
    (λ o apart w. inl w)
written_adds old new room f (reset_handed id frame next rest) =
    by_sender old new (AddedOr old f) (step_goes next.step) (ap (λ (s : PlainStreams). s.recv) rest) (λ dir. ap (λ (s : PlainStreams). (counts_of s (is_two_way dir)).announced) rest)
    (λ h g o is p w. half_or half_sent (send_at old.send) id.0 _ h o is (gives_reset id frame h g o p w))
    (λ o apart w. inl w)
written_adds old new room f (stop_handed id code step rest) =
    by_receiver old new (AddedOr old f) (recv_goes step) (ap (λ (s : PlainStreams). s.send) rest) (ap (λ (r : PlainRecvHalves). r.announced) step.rest_is) (λ dir. ap (λ (s : PlainStreams). (counts_of s (is_two_way dir)).announced) rest)
    (λ h g o is p w. half_or receiver_sent (recv_at old.recv) id.0 _ h o is (gives_stop old.recv.stream_window id code h g o p w))
    (λ o apart w. inl w)
written_adds old new room f (max_stream_data_handed id limit step rest) =
    by_receiver old new (AddedOr old f) (recv_goes step) (ap (λ (s : PlainStreams). s.send) rest) (ap (λ (r : PlainRecvHalves). r.announced) step.rest_is) (λ dir. ap (λ (s : PlainStreams). (counts_of s (is_two_way dir)).announced) rest)
    (λ h g o is p w. half_or receiver_sent (recv_at old.recv) id.0 _ h o is (gives_limit old.recv.stream_window id limit h g o p w))
    (λ o apart w. inl w)
written_adds old new room f (max_data_handed limit is due rest) = rw rest (by_limit old (AddedOr old f) _ (λ l w. inr w.1) (λ o apart w. inl w))
written_adds old new room f (max_streams_handed dir n is due rest) = rw rest (by_count old (AddedOr old f) dir _ (λ l w. inr (refl, w.1)) (λ o apart w. inl w))
