-- What was written is acknowledged, waits or is out.
use Rattle.std.proofs.Common.{◌≡◌, ◌⊎◌, ℕ, ◌<◌, true, false, List, Option, Some, None, refl, inl, inr}
use Rattle.std.proofs.lemmas.Bool.{lt-ltb, false≢true}
use Rattle.qh_buffers.specs.SendBuffer.{taken_to, mark_at, is_queued, waits}
use Rattle.qh_buffers.specs.declared.send_buffer.Mark.{Mark}
use Rattle.qh_buffers.specs.declared.send_buffer.Mark.TheVariants.{Sent, Queued, Acked}
use Rattle.qh_half.specs.Send.{PlainSend, is_finished, is_end_acked, is_end_queued, is_reset, is_reset_queued, owes_reset}
use Rattle.qh_half.specs.declared.send.SendState.{SendState}
use Rattle.qh_half.specs.declared.send.SendState.TheVariants.{Ready, DataSent, ResetSent}
use Rattle.qh_halves.specs.SendHalves.{send_at}
use Rattle.qh_streams.specs.Streams.{PlainStreams}
use Rattle.qh_streams.specs.Tracked.{AreTracked, HasByte, HasEnd, HasReset, OneIs}
use Rattle.qh_streams.specs.declared.frames.SentFrame.{SentFrame}

by_mark : (m : Option Mark) (X : Type 0) → (m ≡ Some Sent → X) → (m ≡ Some Acked) ⊎ ((waits m true ≡ true) ⊎ X)
by_mark None X out = inr (inl refl)
by_mark (Some Sent) X out = inr (inr (out refl))
by_mark (Some Queued) X out = inr (inl refl)
by_mark (Some Acked) X out = inl refl

by_state : (s : SendState) (X : Type 0) → is_finished s ≡ true → (s ≡ DataSent Sent → X) → (is_end_acked s ≡ true) ⊎ ((is_end_queued s ≡ true) ⊎ X)
by_state Ready X e out = absurd (false≢true e)
by_state (DataSent Sent) X e out = inr (inr (out refl))
by_state (DataSent Queued) X e out = inr (inl refl)
by_state (DataSent Acked) X e out = inl refl
by_state (ResetSent code mark) X e out = absurd (false≢true e)

by_reset : (s : SendState) (X : Type 0) → is_reset s ≡ true → ((code : ℕ) → s ≡ ResetSent code Sent → X) → (owes_reset s ≡ false) ⊎ ((is_reset_queued s ≡ true) ⊎ X)
by_reset Ready X e out = absurd (false≢true e)
by_reset (DataSent mark) X e out = absurd (false≢true e)
by_reset (ResetSent code Sent) X e out = inr (inr (out code refl))
by_reset (ResetSent code Queued) X e out = inr (inl refl)
by_reset (ResetSent code Acked) X e out = inl refl

pub byte_out : (s : PlainStreams) (fs : List SentFrame) (id n : ℕ) (h : PlainSend) → AreTracked s fs → send_at s.send id ≡ Some h → is_reset h.state ≡ false → n < taken_to h.buffer
    → (mark_at h.buffer n ≡ Some Acked) ⊎ ((is_queued h.buffer n ≡ true) ⊎ OneIs (HasByte id n) fs)
byte_out s fs id n h tracked is live taken = rw (lt-ltb n (taken_to h.buffer) taken) (by_mark (mark_at h.buffer n) _ (λ e. tracked.bytes id n h is live e))

pub end_out : (s : PlainStreams) (fs : List SentFrame) (id : ℕ) (h : PlainSend) → AreTracked s fs → send_at s.send id ≡ Some h → is_finished h.state ≡ true
    → (is_end_acked h.state ≡ true) ⊎ ((is_end_queued h.state ≡ true) ⊎ OneIs (HasEnd id) fs)
end_out s fs id h tracked is ended = by_state h.state _ ended (λ e. tracked.ends id h is e)

pub reset_out : (s : PlainStreams) (fs : List SentFrame) (id : ℕ) (h : PlainSend) → AreTracked s fs → send_at s.send id ≡ Some h → is_reset h.state ≡ true
    → (owes_reset h.state ≡ false) ⊎ ((is_reset_queued h.state ≡ true) ⊎ OneIs (HasReset id) fs)
reset_out s fs id h tracked is was = by_reset h.state _ was (λ code e. tracked.resets id code h is e)
