-- Steps of a half that take no bytes: it has the same bytes of its stream afterwards.
use Rattle.std.proofs.Common.{◌≡◌, ℕ, ℤ, Bool, true, false, List, Option, Some, None, if◌then◌else◌, refl, sym, ap, ◌∙◌, arith, inl, inr}
use Rattle.std.proofs.lemmas.Bool.{false≢true}
use Rattle.qh_buffers.specs.declared.send_buffer.Mark.{Mark}
use Rattle.qh_buffers.specs.declared.send_buffer.Mark.TheVariants.{Sent, Queued, Acked}
use Rattle.qh_half.specs.declared.send.Outgoing.{Outgoing}
use Rattle.qh_half.specs.declared.send.ResetFrame.{ResetFrame}
use Rattle.qh_half.specs.declared.send.SendState.{SendState}
use Rattle.qh_half.specs.declared.send.SendState.TheVariants.{Ready, DataSent, ResetSent}
use Rattle.qh_half.specs.declared.fault.WriteFault.{WriteFault}
use Rattle.qh_half.specs.declared.fault.WriteFault.TheVariants.{ClosedStream}
use Rattle.qh_half.specs.Send.{PlainSend, is_reset, is_ready, is_finished, stopped_or_closed, with_end_sent, with_end_acked, with_end_lost, with_reset_mark, with_reset_lost, IsPieceOut, IsEndOut}
use Rattle.qh_halves.specs.SendHalves.{IsResetWith, HasPriority, IsStoppedWith, HasLimit, GivesPiece, GivesReset, IsAcked, IsLost, IsResetAcked, IsResetLost}
use Rattle.qh_transcript.specs.Sending.{IsHalfOf}

-- a half that isn't reset afterwards wasn't before, and has what it had
pub record KeepsHalf (h next : PlainSend) : Type 0 where
  pub live : is_reset next.state ≡ false → is_reset h.state ≡ false
  pub half : (bytes : List ℕ) (f : Bool) → is_reset next.state ≡ false → IsHalfOf bytes f h → IsHalfOf bytes f next

-- ---- states

abbrev SameState : SendState → SendState → Type 0
SameState s t = (is_reset t ≡ is_reset s) × (is_finished t ≡ is_finished s)

end_sent_same : (fin : Bool) (s : SendState) → SameState s (if fin then with_end_sent s else s)
end_sent_same false s = (refl, refl)
end_sent_same true Ready = (refl, refl)
end_sent_same true (DataSent Sent) = (refl, refl)
end_sent_same true (DataSent Queued) = (refl, refl)
end_sent_same true (DataSent Acked) = (refl, refl)
end_sent_same true (ResetSent code mark) = (refl, refl)

end_lost_same : (fin : Bool) (s : SendState) → SameState s (if fin then with_end_lost s else s)
end_lost_same false s = (refl, refl)
end_lost_same true Ready = (refl, refl)
end_lost_same true (DataSent Sent) = (refl, refl)
end_lost_same true (DataSent Queued) = (refl, refl)
end_lost_same true (DataSent Acked) = (refl, refl)
end_lost_same true (ResetSent code mark) = (refl, refl)

end_acked_same : (fin : Bool) (s : SendState) → SameState s (if fin then with_end_acked s else s)
end_acked_same false s = (refl, refl)
end_acked_same true Ready = (refl, refl)
end_acked_same true (DataSent mark) = (refl, refl)
end_acked_same true (ResetSent code mark) = (refl, refl)

reset_mark_same : (m : Mark) (s : SendState) → SameState s (with_reset_mark m s)
reset_mark_same m Ready = (refl, refl)
reset_mark_same m (DataSent mark) = (refl, refl)
reset_mark_same m (ResetSent code mark) = (refl, refl)

reset_lost_same : (s : SendState) → SameState s (with_reset_lost s)
reset_lost_same Ready = (refl, refl)
reset_lost_same (DataSent mark) = (refl, refl)
reset_lost_same (ResetSent code mark) = (refl, refl)

-- one that takes bytes isn't finished, nor reset
pub ready_state : (s : SendState) (f : Option WriteFault) → (if is_ready s then f else Some ClosedStream) ≡ None → (is_reset s ≡ false) × (is_finished s ≡ false)
ready_state Ready f e = (refl, refl)
ready_state (DataSent mark) f e = absurd (cc)
ready_state (ResetSent code mark) f e = absurd (cc)

-- one that can be finished isn't reset
pub not_closed : (stop : Option ℕ) (s : SendState) → stopped_or_closed stop s ≡ None → is_reset s ≡ false
not_closed (Some code) s e = absurd (cc)
not_closed None Ready e = refl
not_closed None (DataSent mark) e = refl
not_closed None (ResetSent code mark) e = absurd (cc)

-- ---- steps

-- the same bytes are held
same_bytes : (h next : PlainSend) (t : SendState) → next.state ≡ t → SameState h.state t → (is_reset h.state ≡ false → (next.buffer.start ≡ h.buffer.start) × (next.buffer.bytes ≡ h.buffer.bytes)) → KeepsHalf h next
same_bytes h next t state_is same bytes_are =
    let was : is_reset next.state ≡ is_reset h.state = ap is_reset state_is ∙ same.0 in
    record {
      live = λ live. sym was ∙ live;
      half = λ bytes f live p.
          let held = bytes_are (sym was ∙ live) in
          record {
            taken = rw (held.0, held.1) p.taken;
            held = λ k from. rw (held.0, held.1) (p.held k (rw held.0 at from));
            end = ap is_finished state_is ∙ same.1 ∙ p.end;
          };
    }

pub priority_keeps : (priority : ℤ) (h next : PlainSend) → HasPriority priority h next → KeepsHalf h next
priority_keeps priority h next e = same_bytes h next h.state (ap (λ (h : PlainSend). h.state) e) (refl, refl) (λ live. (ap (λ (h : PlainSend). h.buffer.start) e, ap (λ (h : PlainSend). h.buffer.bytes) e))

pub stopped_keeps : (code : ℕ) (h next : PlainSend) → IsStoppedWith code h next → KeepsHalf h next
stopped_keeps code h next p = let e = p.1 in same_bytes h next h.state (ap (λ (h : PlainSend). h.state) e) (refl, refl) (λ live. (ap (λ (h : PlainSend). h.buffer.start) e, ap (λ (h : PlainSend). h.buffer.bytes) e))

pub limit_keeps : (limit : ℕ) (h next : PlainSend) → HasLimit limit h next → KeepsHalf h next
limit_keeps limit h next e = same_bytes h next h.state (ap (λ (h : PlainSend). h.state) e) (refl, refl) (λ live. (ap (λ (h : PlainSend). h.buffer.start) e, ap (λ (h : PlainSend). h.buffer.bytes) e))

-- nothing is said of one that is reset
pub reset_keeps : (code : ℕ) (h next : PlainSend) → IsResetWith code h next → KeepsHalf h next
reset_keeps code h next p =
    let gone : is_reset next.state ≡ true = ap (λ (h : PlainSend). is_reset h.state) p.1 in
    record { live = λ live. absurd (false≢true (sym live ∙ gone)); half = λ bytes f live q. absurd (false≢true (sym live ∙ gone)) }

piece_keeps : (room from to : ℕ) (fin : Bool) (h next : PlainSend) → IsPieceOut h next room from to fin → KeepsHalf h next
piece_keeps room from to fin h next p = same_bytes h next _ p.state_is (end_sent_same fin h.state) (λ live. (p.bytes_are.start_is, p.bytes_are.bytes_are))

end_keeps : (from to : ℕ) (fin : Bool) (h next : PlainSend) → IsEndOut h next from to fin → KeepsHalf h next
end_keeps from to fin h next p =
    let e = p.new_is in
    same_bytes h next _ (ap (λ (h : PlainSend). h.state) e) (end_sent_same true h.state) (λ live. (ap (λ (h : PlainSend). h.buffer.start) e, ap (λ (h : PlainSend). h.buffer.bytes) e))

pub gives_piece_keeps : (room : ℕ) (piece : Outgoing) (h next : PlainSend) → GivesPiece room piece h next → KeepsHalf h next
gives_piece_keeps room piece h next (inl p) = piece_keeps room piece.offsets.start piece.offsets.end piece.fin h next p
gives_piece_keeps room piece h next (inr p) = end_keeps piece.offsets.start piece.offsets.end piece.fin h next p

pub gives_reset_keeps : (frame : ResetFrame) (h next : PlainSend) → GivesReset frame h next → KeepsHalf h next
gives_reset_keeps frame h next p =
    let e = p.2 in
    same_bytes h next _ (ap (λ (h : PlainSend). h.state) e) (reset_mark_same Sent h.state) (λ live. (ap (λ (h : PlainSend). h.buffer.start) e, ap (λ (h : PlainSend). h.buffer.bytes) e))

pub lost_keeps : (piece : Outgoing) (h next : PlainSend) → IsLost piece h next → KeepsHalf h next
lost_keeps piece h next p = same_bytes h next _ p.state_is (end_lost_same piece.fin h.state) (λ live. let q = p.bytes_are live in (q.start_is, q.bytes_are))

pub reset_lost_keeps : (h next : PlainSend) → IsResetLost h next → KeepsHalf h next
reset_lost_keeps h next e = same_bytes h next _ (ap (λ (h : PlainSend). h.state) e) (reset_lost_same h.state) (λ live. (ap (λ (h : PlainSend). h.buffer.start) e, ap (λ (h : PlainSend). h.buffer.bytes) e))

pub reset_acked_keeps : (h next : PlainSend) → IsResetAcked h next → KeepsHalf h next
reset_acked_keeps h next e = same_bytes h next _ (ap (λ (h : PlainSend). h.state) e) (reset_mark_same Acked h.state) (λ live. (ap (λ (h : PlainSend). h.buffer.start) e, ap (λ (h : PlainSend). h.buffer.bytes) e))

pub acked_keeps : (piece : Outgoing) (h next : PlainSend) → IsAcked piece h next → KeepsHalf h next
acked_keeps piece h next p =
    let same = end_acked_same piece.fin h.state in
    let was : is_reset next.state ≡ is_reset h.state = ap is_reset p.state_is ∙ same.0 in
    record {
      live = λ live. sym was ∙ live;
      half = λ bytes f live q.
          let a = p.bytes_are (sym was ∙ live) in
          record {
            taken = a.taken_is ∙ q.taken;
            held = λ k from. a.bytes_are k from ∙ q.held k (omega (arith, a.rises, from));
            end = ap is_finished p.state_is ∙ same.1 ∙ q.end;
          };
    }
