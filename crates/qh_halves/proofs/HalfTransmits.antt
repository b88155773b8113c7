-- What a sending half leaves of itself once it gave what it sends next.
use Rattle.std.proofs.Common.{◌≡◌, ℕ, Bool, true, false, length, Option, Some, None, Result, Ok, Err, IfOk, OnErr, IfSome, if◌then◌else◌, refl, sym, ap, ◌∙◌, arith, inl, inr}
use Rattle.std.proofs.lemmas.Bool.{false≢true}
use Rattle.qh_buffers.specs.SendBuffer.{PlainSendBuffer, IsSpan, KeepsCuts}
use Rattle.qh_buffers.specs.declared.send_buffer.Mark.TheVariants.{Sent, Queued, Acked}
use Rattle.qh_base.specs.declared.Memory.{Memory}
use Rattle.qh_half.specs.declared.send.Outgoing.{Outgoing}
use Rattle.qh_half.specs.declared.send.SendState.{SendState}
use Rattle.qh_half.specs.declared.send.SendState.TheVariants.{Ready, DataSent, ResetSent}
use Rattle.qh_halves.specs.declared.send_halves.Transmission.{Transmission}
use Rattle.qh_halves.specs.declared.send_halves.Transmission.TheVariants.{Stream, Reset}
use Rattle.qh_half.specs.Send.{PlainSend, is_done, is_done_in, is_reset, is_end_queued, with_end_sent, with_reset_mark, IsPieceOut, IsEndOut, held, Waits}
use Rattle.qh_halves.specs.SendHalves.{half_is_span, Gives}
use Rattle.qh_halves.proofs.HalvesStepped.{GoesOn}

sent_end_done : (state : SendState) (fin : Bool) (n : ℕ) → is_done_in (if fin then with_end_sent state else state) n ≡ is_done_in state n
sent_end_done state false n = refl
sent_end_done Ready true n = refl
sent_end_done (DataSent Sent) true n = refl
sent_end_done (DataSent Queued) true n = refl
sent_end_done (DataSent Acked) true n = refl
sent_end_done (ResetSent code mark) true n = refl

sent_end_still : (state : SendState) (fin : Bool) → is_reset (if fin then with_end_sent state else state) ≡ is_reset state
sent_end_still state false = refl
sent_end_still Ready true = refl
sent_end_still (DataSent Sent) true = refl
sent_end_still (DataSent Queued) true = refl
sent_end_still (DataSent Acked) true = refl
sent_end_still (ResetSent code mark) true = refl

queued_not_reset : (state : SendState) → is_end_queued state ≡ true → is_reset state ≡ false
queued_not_reset Ready h = refl
queued_not_reset (DataSent mark) h = refl
queued_not_reset (ResetSent code mark) h = absurd (false≢true h)

-- the half stays, something waited in it, it holds the same bytes, and frames that were out are out
pub record Sends (h next : PlainSend) : Type 0 where
  pub on : GoesOn h next
  pub waited : Waits next → Waits h
  pub holds : held next ≡ held h
  pub spans : (frame : Outgoing) → half_is_span (Some h) frame → half_is_span (Some next) frame

span_kept : (old new : PlainSendBuffer) (from to : ℕ) → KeepsCuts old new → IsSpan old from to → IsSpan new from to
span_kept old new from to cuts span = record { order = span.order; is_cut_from = cuts from span.is_cut_from; is_cut_to = cuts to span.is_cut_to }

sends_piece : (h next : PlainSend) (room from to : ℕ) (fin : Bool) → is_done h ≡ false → IsPieceOut h next room from to fin → Sends h next
sends_piece h next room from to fin undone out =
    let bytes = out.bytes_are in
    record {
      on = record {
        priority_is = ap (λ (s : PlainSend). s.priority) out.rest_is;
        undone = rw (out.state_is, bytes.bytes_are) (sent_end_done h.state fin (length h.buffer.bytes) ∙ undone);
      };
      waited = λ w. inl (out.not_reset, λ none. absurd (false≢true (sym (none from) ∙ bytes.queued from (omega arith) bytes.some)));
      holds = rw (out.state_is, bytes.bytes_are, sent_end_still h.state fin) refl;
      spans = λ frame span not_reset. span_kept h.buffer next.buffer frame.offsets.start frame.offsets.end bytes.cuts (span out.not_reset);
    }

sends_end : (h next : PlainSend) (from to : ℕ) (fin : Bool) → is_done h ≡ false → IsEndOut h next from to fin → Sends h next
sends_end h next from to fin undone out =
    let not_reset = queued_not_reset h.state out.queued in
    rw out.new_is (record {
      on = record { priority_is = refl; undone = sent_end_done h.state true (length h.buffer.bytes) ∙ undone };
      waited = λ w. inl (not_reset, λ none. out.queued);
      holds = rw (sent_end_still h.state true) refl;
      spans = λ frame span after. span not_reset;
    })

sends_reset : (h next : PlainSend) (code : ℕ) → h.state ≡ ResetSent code Queued → next ≡ record h { state = with_reset_mark Sent h.state } → Sends h next
sends_reset h next code queued is =
    rw is (record {
      on = record { priority_is = refl; undone = rw queued refl };
      waited = λ w. inr (rw queued refl);
      holds = rw queued refl;
      spans = λ frame span after. absurd (false≢true (sym (rw queued at after)));
    })

sends_same : (h next : PlainSend) → is_done h ≡ false → next ≡ h → Sends h next
sends_same h next undone same = rw same (record {
  on = record { priority_is = refl; undone = undone };
  waited = λ w. w;
  holds = refl;
  spans = λ frame span. span;
})

gives : (t : Transmission) (h next : PlainSend) (room : ℕ) → is_done h ≡ false → Gives room t h next → Sends h next
gives (Stream out) h next room undone (inl piece) = sends_piece h next room out.offsets.start out.offsets.end out.fin undone piece
gives (Stream out) h next room undone (inr end) = sends_end h next out.offsets.start out.offsets.end out.fin undone end
gives (Reset f) h next room undone reset = sends_reset h next f.code reset.0 reset.2

-- something waited in a half that gives something
pub gives_what_waited : (t : Transmission) (h next : PlainSend) (room : ℕ) → Gives room t h next → Waits h
gives_what_waited (Stream out) h next room (inl piece) =
    let bytes = piece.bytes_are in
    inl (piece.not_reset, λ none. absurd (false≢true (sym (none out.offsets.start) ∙ bytes.queued out.offsets.start (omega arith) bytes.some)))
gives_what_waited (Stream out) h next room (inr end) = inl (queued_not_reset h.state end.queued, λ none. end.queued)
gives_what_waited (Reset f) h next room reset = inr (rw reset.0 refl)

-- by what it answers
pub sends : (r : Result (Option Transmission) Memory) (h next : PlainSend) (room : ℕ) → is_done h ≡ false
    → IfOk r (λ o. o ≡ None → (next ≡ h) × (Waits h → ⊥)) → IfOk r (λ o. IfSome o (λ t. Gives room t h next)) → OnErr r (next ≡ h) → Sends h next
sends (Ok None) h next room undone none some err = sends_same h next undone (none refl).0
sends (Ok (Some t)) h next room undone none some err = gives t h next room undone some
sends (Err e) h next room undone none some err = sends_same h next undone err
