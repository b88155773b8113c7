-- Frames that are handed over, lost or acknowledged: what counts as sent stands in those that were handed over.
use Rattle.std.proofs.Common.{◌≡◌, ◌⊎◌, ℕ, ◌<◌, ◌≤◌, Bool, true, false, List, [], ◌∷◌, ◌++◌, Option, Some, if◌then◌else◌, length, refl, sym, ap, ◌∙◌, arith, inl, inr, append_assoc, subst}
use Rattle.std.proofs.lemmas.Bool.{lt-ltb, cases_lt}
use Rattle.std.proofs.lemmas.List.{append-nil}
use Rattle.qh_buffers.specs.SendBuffer.{is_between, mark_at, requeued, taken_to}
use Rattle.qh_buffers.specs.declared.send_buffer.Mark.{Mark}
use Rattle.qh_buffers.specs.declared.send_buffer.Mark.TheVariants.{Sent, Queued, Acked}
use Rattle.qh_buffers.proofs.Pieces.{between_low, between_high}
use Rattle.qh_base.specs.declared.stream_id.StreamId.{StreamId}
use Rattle.qh_half.specs.Send.{PlainSend, IsEndOut, IsPieceOut, is_reset, with_end_acked, with_end_lost, with_end_sent, with_reset_lost, with_reset_mark}
use Rattle.qh_half.specs.declared.send.Outgoing.{Outgoing}
use Rattle.qh_half.specs.declared.send.ResetFrame.{ResetFrame}
use Rattle.qh_half.specs.declared.send.SendState.{SendState}
use Rattle.qh_half.specs.declared.send.SendState.TheVariants.{Ready, DataSent, ResetSent}
use Rattle.qh_halves.specs.SendHalves.{PlainSendHalves, GivesPiece, GivesReset, IsAcked, IsLost, IsResetAcked, IsResetLost, IsSentNext, send_at}
use Rattle.qh_halves.specs.declared.send_halves.Transmission.TheVariants.{Stream}
use Rattle.qh_streams.specs.Streams.{PlainStreams, AreHanded, AreLost, AreWritten, IsAckedFrame, IsHandedOver, IsLostFrame, is_two_way}
use Rattle.qh_streams.specs.Streams.AreHanded.{none as none_handed, more as more_handed}
use Rattle.qh_streams.specs.Streams.AreLost.{none as none_lost, more as more_lost}
use Rattle.qh_streams.specs.Streams.AreWritten.{none as none_written, more as more_written}
use Rattle.qh_streams.specs.Streams.IsAckedFrame.{stream as stream_acked, reset as reset_acked, stop as stop_acked, max_stream_data as max_stream_data_acked, max_data as max_data_acked, max_streams as max_streams_acked}
use Rattle.qh_streams.specs.Streams.IsHandedOver.{stream as stream_handed, reset as reset_handed, stop as stop_handed, max_stream_data as max_stream_data_handed, max_data as max_data_handed, max_streams as max_streams_handed}
use Rattle.qh_streams.specs.Streams.IsLostFrame.{stream as stream_lost, reset as reset_lost, stop as stop_lost, max_stream_data as max_stream_data_lost, max_data as max_data_lost, max_streams as max_streams_lost}
use Rattle.qh_streams.specs.Tracked.{HasByte, OneIs}
use Rattle.qh_streams.specs.declared.frames.SentFrame.{SentFrame}
use Rattle.qh_streams.specs.declared.frames.SentFrame.TheVariants as sent
use Rattle.qh_streams.proofs.StreamsSettled.{counts_alone}
use Rattle.qh_streams.proofs.StreamsTracked.{at_half, settled_goes, step_goes, step_or_absent}
use Rattle.qh_accounts.proofs.CarriedOf.{AreBy, Counts, CountsAt, GainsNothing, IsTest, NoMore, goes_no_more, halves_no_more, no_more, one_behind, same_gains}

-- ---- the state stays one of a stream that was reset, or wasn't

pub sent_state : (fin : Bool) (s : SendState) → is_reset (if fin then with_end_sent s else s) ≡ is_reset s
sent_state false s = refl
sent_state true Ready = refl
sent_state true (DataSent Sent) = refl
sent_state true (DataSent Queued) = refl
sent_state true (DataSent Acked) = refl
sent_state true (ResetSent code mark) = refl

lost_state : (fin : Bool) (s : SendState) → is_reset (if fin then with_end_lost s else s) ≡ is_reset s
lost_state false s = refl
lost_state true Ready = refl
lost_state true (DataSent Sent) = refl
lost_state true (DataSent Queued) = refl
lost_state true (DataSent Acked) = refl
lost_state true (ResetSent code mark) = refl

pub acked_state : (fin : Bool) (s : SendState) → is_reset (if fin then with_end_acked s else s) ≡ is_reset s
acked_state false s = refl
acked_state true Ready = refl
acked_state true (DataSent mark) = refl
acked_state true (ResetSent code mark) = refl

pub mark_state : (m : Mark) (s : SendState) → is_reset (with_reset_mark m s) ≡ is_reset s
mark_state m Ready = refl
mark_state m (DataSent mark) = refl
mark_state m (ResetSent code mark) = refl

lost_reset_state : (s : SendState) → is_reset (with_reset_lost s) ≡ is_reset s
lost_reset_state Ready = refl
lost_reset_state (DataSent mark) = refl
lost_reset_state (ResetSent code mark) = refl

-- a byte is in front of a range, in it, or behind it
pub data IsAt (from to n : ℕ) : Type 0 where
  inside : from ≤ n → n < to → IsAt from to n
  outside : is_between from to n ≡ false → IsAt from to n

pub at_range : (from to n : ℕ) → IsAt from to n
at_range from to n = elim (cases_lt n from) [
  | inl low ↦ outside (between_low from to n low)
  | inr above ↦ elim (cases_lt n to) [
    | inl within ↦ inside above within
    | inr past ↦ outside (between_high from to n past)
  ]
]

-- ---- a piece that is handed out

-- What a half gave: a byte that counts did so before or is in it, and each byte in front of one that is in it counted before.
record IsGiven (M : Option Mark → Bool) (h next : PlainSend) (from to : ℕ) : Type 0 where
  sent : (n : ℕ) → Counts M next n → Counts M h n ⊎ ((from ≤ n) × (n < to))
  before : (n k : ℕ) → from ≤ n → n < to → k < from → Counts M h k

piece_given : (M : Option Mark → Bool) → IsTest M → (room from to : ℕ) (fin : Bool) (h next : PlainSend) → IsPieceOut h next room from to fin → IsGiven M h next from to
piece_given M test room from to fin h next p = record {
  sent = λ n c. elim (at_range from to n) [
    | inside above within ↦ inr (above, within)
    | outside away ↦ inl (p.not_reset, ap M (sym (rw away at (p.bytes_are.marks n))) ∙ c.1)
  ];
  before = λ n k above within low.
      let start_is = p.bytes_are.start_is in
      let length_is = ap length p.bytes_are.bytes_are in
      let taken : k < taken_to h.buffer = omega (arith, low, p.bytes_are.some, p.held.2, start_is, length_is) in
      let quiet = rw (lt-ltb k (taken_to h.buffer) taken) at (p.bytes_are.is_first k low) in
      (p.not_reset, test.settled (mark_at h.buffer k) quiet);
}

end_given : (M : Option Mark → Bool) (from to : ℕ) (fin : Bool) (h next : PlainSend) → IsEndOut h next from to fin → IsGiven M h next from to
end_given M from to fin h next p = record {
  sent = λ n c. let was = rw p.new_is at c in inl (sym (sent_state true h.state) ∙ was.0, was.1);
  before = λ n k above within low. absurd (omega (arith, above, within, p.at_end.1));
}

gives_given : (M : Option Mark → Bool) → IsTest M → (room : ℕ) (piece : Outgoing) (h next : PlainSend) → GivesPiece room piece h next → IsGiven M h next piece.offsets.start piece.offsets.end
gives_given M test room piece h next (inl p) = piece_given M test room piece.offsets.start piece.offsets.end piece.fin h next p
gives_given M test room piece h next (inr p) = end_given M piece.offsets.start piece.offsets.end piece.fin h next p

stream_by : (M : Option Mark → Bool) → IsTest M → (old new : PlainSendHalves) (room : ℕ) (id : StreamId) (piece : Outgoing) (fs : List SentFrame) → IsSentNext old new room id.0 (Stream piece) → AreBy M old fs
    → AreBy M new (sent.Stream id piece ∷ fs)
stream_by M test old new room id piece fs next a = record { sent = stands; front = front } where
  given : IsGiven M next.step.half next.step.next piece.offsets.start piece.offsets.end
  given = gives_given M test room piece next.step.half next.step.next next.step.step

  here : (h g : PlainSend) (n : ℕ) → send_at old id.0 ≡ Some h → GivesPiece room piece h g → Counts M g n → OneIs (HasByte id.0 n) (sent.Stream id piece ∷ fs)
  here h g n is p c = elim ((gives_given M test room piece h g p).sent n c) [
    | inl was ↦ inr (a.sent id.0 n (record { half = h; is = is; sent = was }))
    | inr in_it ↦ inl (refl, in_it.0, in_it.1)
  ]

  stands : (k n : ℕ) → CountsAt M new k n → OneIs (HasByte k n) (sent.Stream id piece ∷ fs)
  stands k n w = at_half (λ k n. OneIs (HasByte k n) (sent.Stream id piece ∷ fs)) (step_goes next.step) (λ h g n is p c. here h g n is p c) (λ k n apart c. inr (a.sent k n c)) k n w

  front : (j n k : ℕ) → OneIs (HasByte j n) (sent.Stream id piece ∷ fs) → k ≤ n → OneIs (HasByte j k) (sent.Stream id piece ∷ fs)
  front j n k (inr one) low = inr (a.front j n k one low)
  front j n k (inl has) low = elim (cases_lt k piece.offsets.start) [
    | inl below ↦ inr (subst (λ (x : ℕ). OneIs (HasByte x k) fs) has.0 (a.sent id.0 k (record { half = next.step.half; is = next.step.was; sent = given.before n k has.1 has.2 below })))
    | inr above ↦ inl (has.0, above, omega (arith, low, has.2))
  ]

-- a frame without a byte of a stream
bare_by : (M : Option Mark → Bool) (old new : PlainSendHalves) (f : SentFrame) (fs : List SentFrame) → ((id n : ℕ) → HasByte id n f → ⊥) → NoMore M old new → AreBy M old fs → AreBy M new (f ∷ fs)
bare_by M old new f fs bare fewer a = record {
  sent = λ id n w. inr (a.sent id n (fewer id n w));
  front = λ id n k one low. elim one [
    | inl has ↦ absurd (bare id n has)
    | inr behind ↦ inr (a.front id n k behind low)
  ];
}

pub given_reset_gains : (M : Option Mark → Bool) (frame : ResetFrame) (h next : PlainSend) → GivesReset frame h next → GainsNothing M h next
given_reset_gains M frame h next p = same_gains M h next (record h { state = with_reset_mark Sent h.state }) p.2 (mark_state Sent h.state) (λ n. refl)

pub same_no_more : (M : Option Mark → Bool) (old new : PlainSendHalves) → new ≡ old → NoMore M old new
same_no_more M old new e = halves_no_more M old new (ap (λ (s : PlainSendHalves). s.halves) e)

pub handed_by : (M : Option Mark → Bool) → IsTest M → (old new : PlainStreams) (room : ℕ) (f : SentFrame) (fs : List SentFrame) → IsHandedOver old new room f → AreBy M old.send fs → AreBy M new.send (f ∷ fs)
handed_by M test old new room f fs (stream_handed id piece next e) a = stream_by M test old.send new.send _ id piece fs next a
handed_by M test old new room f fs (reset_handed id frame next e) a = bare_by M old.send new.send f fs (λ id n has. has) (goes_no_more M old.send new.send (step_goes next.step) (given_reset_gains M frame)) a
handed_by M test old new room f fs (stop_handed id code step e) a = bare_by M old.send new.send f fs (λ id n has. has) (same_no_more M old.send new.send (ap (λ (s : PlainStreams). s.send) e)) a
handed_by M test old new room f fs (max_stream_data_handed id limit step e) a = bare_by M old.send new.send f fs (λ id n has. has) (same_no_more M old.send new.send (ap (λ (s : PlainStreams). s.send) e)) a
handed_by M test old new room f fs (max_data_handed limit is due e) a = bare_by M old.send new.send f fs (λ id n has. has) (same_no_more M old.send new.send (ap (λ (s : PlainStreams). s.send) e)) a
handed_by M test old new room f fs (max_streams_handed dir n is due e) a =
    bare_by M old.send new.send f fs (λ id n has. has) (same_no_more M old.send new.send (ap (λ (s : PlainStreams). s.send) e ∙ (counts_alone old (is_two_way dir) _).send_is)) a

pub handed_all_by : (M : Option Mark → Bool) → IsTest M → (old new : PlainStreams) (more fs : List SentFrame) → AreHanded old new more → AreBy M old.send fs → AreBy M new.send (fs ++ more)
handed_all_by M test old new more fs (none_handed _) a = rw (append-nil fs) a
handed_all_by M test old new more fs (more_handed room _ mid _ f rest handed behind) a =
    rw (append_assoc fs (f ∷ []) rest) at (handed_all_by M test mid new rest (fs ++ f ∷ []) behind (one_behind M (handed_by M test old mid room f fs handed a)))

pub written_all_by : (M : Option Mark → Bool) → IsTest M → (room : ℕ) (old new : PlainStreams) (more fs : List SentFrame) (bytes : List ℕ) → AreWritten room old new more bytes → AreBy M old.send fs → AreBy M new.send (fs ++ more)
written_all_by M test room old new more fs bytes (none_written _ _) a = rw (append-nil fs) a
written_all_by M test room old new more fs bytes (more_written _ _ mid _ f rest others handed fits back behind) a =
    rw (append_assoc fs (f ∷ []) rest) at (written_all_by M test _ mid new rest (fs ++ f ∷ []) others behind (one_behind M (handed_by M test old mid room f fs handed a)))

-- ---- frames that are lost

-- no byte comes to count by being queued again
abbrev pub CountsAgain : (Option Mark → Bool) → Type 0
CountsAgain M = (m : Option Mark) → M (requeued m) ≡ true → M m ≡ true

again_gains : (M : Option Mark → Bool) → CountsAgain M → (b : Bool) (m : Option Mark) → M (if b then requeued m else m) ≡ true → M m ≡ true
again_gains M again true m c = again m c
again_gains M again false m c = c

piece_lost_gains : (M : Option Mark → Bool) → CountsAgain M → (piece : Outgoing) (h next : PlainSend) → IsLost piece h next → GainsNothing M h next
piece_lost_gains M again piece h next p n c =
    let live = sym (lost_state piece.fin h.state) ∙ sym (ap is_reset p.state_is) ∙ c.0 in
    (live, again_gains M again (is_between piece.offsets.start piece.offsets.end n) (mark_at h.buffer n) (ap M (sym ((p.bytes_are live).marks n)) ∙ c.1))

reset_lost_gains : (M : Option Mark → Bool) (h next : PlainSend) → IsResetLost h next → GainsNothing M h next
reset_lost_gains M h next e = same_gains M h next (record h { state = with_reset_lost h.state }) e (lost_reset_state h.state) (λ n. refl)

pub lost_no_more : (M : Option Mark → Bool) → CountsAgain M → (old new : PlainStreams) (f : SentFrame) → IsLostFrame old new f → NoMore M old.send new.send
lost_no_more M again old new f (stream_lost id piece step e) = goes_no_more M old.send new.send (step_or_absent step) (piece_lost_gains M again piece)
lost_no_more M again old new f (reset_lost id frame step e) = goes_no_more M old.send new.send (step_or_absent step) (reset_lost_gains M)
lost_no_more M again old new f (stop_lost id code step e) = same_no_more M old.send new.send (ap (λ (s : PlainStreams). s.send) e)
lost_no_more M again old new f (max_stream_data_lost id limit step e) = same_no_more M old.send new.send (ap (λ (s : PlainStreams). s.send) e)
lost_no_more M again old new f (max_data_lost limit e) = same_no_more M old.send new.send (ap (λ (s : PlainStreams). s.send) e)
lost_no_more M again old new f (max_streams_lost dir n e) = same_no_more M old.send new.send (ap (λ (s : PlainStreams). s.send) e ∙ (counts_alone old (is_two_way dir) _).send_is)

pub lost_all_no_more : (M : Option Mark → Bool) → CountsAgain M → (old new : PlainStreams) (fs : List SentFrame) → AreLost old new fs → NoMore M old.send new.send
lost_all_no_more M again old new fs (none_lost _) = λ id n w. w
lost_all_no_more M again old new fs (more_lost _ mid _ front f before lost) = λ id n w. lost_all_no_more M again old mid front before id n (lost_no_more M again mid new f lost id n w)

-- ---- frames that are acknowledged

-- each byte of a frame stands in one of these frames, if its stream has a half that isn't reset
abbrev pub AreKnown : PlainSendHalves → (f : SentFrame) → List SentFrame → Type 0
AreKnown s f fs = (id n : ℕ) (h : PlainSend) → send_at s id ≡ Some h → is_reset h.state ≡ false → HasByte id n f → OneIs (HasByte id n) fs

reset_acked_gains : (M : Option Mark → Bool) (h next : PlainSend) → IsResetAcked h next → GainsNothing M h next
reset_acked_gains M h next e = same_gains M h next (record h { state = with_reset_mark Acked h.state }) e (mark_state Acked h.state) (λ n. refl)

piece_acked_by : (M : Option Mark → Bool) (old new : PlainSendHalves) (id : StreamId) (piece : Outgoing) (fs : List SentFrame) (h g : PlainSend) (n : ℕ) → AreKnown old (sent.Stream id piece) fs → AreBy M old fs
    → send_at old id.0 ≡ Some h → IsAcked piece h g → Counts M g n → OneIs (HasByte id.0 n) fs
piece_acked_by M old new id piece fs h g n known a is p c =
    let live = sym (acked_state piece.fin h.state) ∙ sym (ap is_reset p.state_is) ∙ c.0 in
    elim (at_range piece.offsets.start piece.offsets.end n) [
      | inside above within ↦ known id.0 n h is live (refl, above, within)
      | outside away ↦ a.sent id.0 n (record { half = h; is = is; sent = (live, ap M (sym (rw away at ((p.bytes_are live).marks n))) ∙ c.1) })
    ]

pub acked_by : (M : Option Mark → Bool) (old new : PlainStreams) (f : SentFrame) (fs : List SentFrame) → AreKnown old.send f fs → IsAckedFrame old new f → AreBy M old.send fs → AreBy M new.send fs
acked_by M old new f fs known (stream_acked id piece finished step e) a = record {
  sent = λ k n w. at_half (λ k n. OneIs (HasByte k n) fs) (settled_goes step) (λ h g n is p c. piece_acked_by M old.send new.send id piece fs h g n known a is p c) (λ k n apart c. a.sent k n c) k n w;
  front = a.front;
}
acked_by M old new f fs known (reset_acked id frame gone step e) a = no_more M (goes_no_more M old.send new.send (settled_goes step) (reset_acked_gains M)) a
acked_by M old new f fs known (stop_acked id code step e) a = no_more M (same_no_more M old.send new.send (ap (λ (s : PlainStreams). s.send) e)) a
acked_by M old new f fs known (max_data_acked limit e) a = no_more M (same_no_more M old.send new.send (ap (λ (s : PlainStreams). s.send) e)) a
acked_by M old new f fs known (max_stream_data_acked id limit step e) a = no_more M (same_no_more M old.send new.send (ap (λ (s : PlainStreams). s.send) e)) a
acked_by M old new f fs known (max_streams_acked dir n e) a = no_more M (same_no_more M old.send new.send (ap (λ (s : PlainStreams). s.send) e ∙ (counts_alone old (is_two_way dir) _).send_is)) a
