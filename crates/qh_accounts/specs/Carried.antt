-- What was sent of a stream is a prefix of it (RFC 9000, section 2.2).
use Rattle.std.specs.Prelude.{◌≡◌, ℕ, ◌≤◌, ◌==◌, nat_lt, max, ◌&&◌, true, false, List, [], ◌∷◌, Some, if◌then◌else◌}
use Rattle.qh_buffers.specs.SendBuffer.{mark_at, waits}
use Rattle.qh_half.specs.Send.{PlainSend, is_reset}
use Rattle.qh_halves.specs.SendHalves.{send_at}
use Rattle.qh_streams.specs.Streams.{PlainStreams}
use Rattle.qh_streams.specs.Tracked.{HasByte, OneIs}
use Rattle.qh_streams.specs.declared.frames.SentFrame.{SentFrame}
use Rattle.qh_streams.specs.declared.frames.SentFrame.TheVariants as sent

-- Each byte that was sent of a half and isn't queued again stands in one of these frames, and with a byte of a stream each byte before it
-- does.
pub record AreCarried (s : PlainStreams) (frames : List SentFrame) : Type 0 where
  pub sent : (id n : ℕ) (h : PlainSend) → send_at s.send id ≡ Some h → is_reset h.state ≡ false → waits (mark_at h.buffer n) true ≡ false → OneIs (HasByte id n) frames
  pub front : (id n k : ℕ) → OneIs (HasByte id n) frames → k ≤ n → OneIs (HasByte id k) frames

-- the offset behind the bytes of a stream that a frame carries, 0 if it carries none
abbrev pub end_of : (id : ℕ) → SentFrame → ℕ
end_of id (sent.Stream s piece) = if s.0 == id && nat_lt piece.offsets.start piece.offsets.end then piece.offsets.end else 0
end_of id other = 0

-- the offset behind the last byte of a stream that frames carry
abbrev pub carried_to : (id : ℕ) → List SentFrame → ℕ
carried_to id [] = 0
carried_to id (f ∷ fs) = max (end_of id f) (carried_to id fs)
