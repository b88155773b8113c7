-- What is owed is queued or stands in a packet that is out (RFC 9002, section 2).
use Rattle.std.specs.Prelude.{ℕ, List, [], ◌∷◌, ◌++◌}
use Rattle.qh_recovery.specs.declared.sent_packets.SentPacket.{SentPacket}
use Rattle.qh_streams.specs.Streams.{PlainStreams, AreAllOut}
use Rattle.qh_streams.specs.Tracked.{AreTracked}
use Rattle.qh_streams.specs.declared.frames.SentFrame.{SentFrame}

-- all frames in these packets, those of the first packet first
abbrev pub frames_out : List (ℕ × SentPacket SentFrame) → List SentFrame
frames_out [] = []
frames_out (e ∷ es) = e.1.frames.items ++ frames_out es

-- Each byte, end, reset, stop and limit that counts as sent stands in a packet that is out, and each frame there may be told of.
pub record AreOwed (s : PlainStreams) (packets : List (ℕ × SentPacket SentFrame)) : Type 0 where
  pub tracked : AreTracked s (frames_out packets)
  pub out : AreAllOut s (frames_out packets)
