-- The code's frames without where they lie in memory, each in the form in which it is written.
use Rattle.std.specs.Prelude.{◌≡◌, ◌+◌, ℕ, List, [], ◌∷◌, Option, Some, None}
use Rattle.qh_frame.specs.AckAt.{numbers_of}
use Rattle.qh_frame.specs.FieldsAt.{pairs_at}
use Rattle.qh_frame.specs.WrittenForm.{stream_form}
use Rattle.qh_frame.specs.declared.ack.Ack.{Ack}
use Rattle.qh_frame.specs.declared.frame.Frame.{Frame}
use Rattle.qh_frame.specs.declared.frame.Frame.TheVariants as kind
use Rattle.qh_frame.specs.declared.frame.Stream.{Stream}
use Rattle.qh_spec.specs.declared.sides.Dir.{Dir}
use Rattle.qh_spec.specs.declared.sides.Dir.TheVariants.{Bi, Uni}
use Rattle.qh_spec.specs.Acknowledged.{Covers}
use Rattle.qh_spec.specs.FrameTypes as frame_types
use Rattle.qh_spec.specs.QuicFrame.{StreamFrame}
use Rattle.qh_spec.specs.QuicFrames.{QuicFrame, Value, Num, Text, Nums}

abbrev pub frame : ℕ → List Value → QuicFrame
frame kind values = record { kind = kind; values = values }

abbrev pub stream_of : Stream → StreamFrame
stream_of s = record { id = s.id.0; offset = s.offset; payload = s.payload.now; fin = s.fin }

-- the ranges of an ACK: the first one, and the pairs behind it
abbrev pub ranges_of : Ack → List ℕ
ranges_of a = a.first ∷ numbers_of (pairs_at a.pairs a.bytes.now)

abbrev pub ack_of : Ack → QuicFrame
ack_of a = frame frame_types.ack (Num a.greatest ∷ Num a.delay ∷ Nums (ranges_of a) ∷ [])

-- the ranges go on with these below their first one (RFC 9000, section 19.3.1)
pub record GoesOn (greatest range : ℕ) (ranges : List ℕ) (next : ℕ) (more : List ℕ) : Type 0 where
  pub gap : ℕ
  pub ranges_are : ranges ≡ range ∷ (gap ∷ more)
  pub next_is : greatest ≡ next + 2 + gap + range

-- the ranges that are left cover the number
abbrev pub IsCovered : Option Ack → ℕ → Type 0
IsCovered None n = ⊥
IsCovered (Some a) n = Covers (ack_of a) n

-- MAX_STREAMS and STREAMS_BLOCKED have a type for each direction (RFC 9000, sections 19.11 and 19.14)
abbrev pub by_dir : Dir → ℕ → ℕ → ℕ
by_dir Bi two_way one_way = two_way
by_dir Uni two_way one_way = one_way

abbrev pub plain_of : Frame → QuicFrame
plain_of kind.Padding = frame frame_types.padding []
plain_of kind.Ping = frame frame_types.ping []
plain_of (kind.Ack a) = ack_of a
plain_of (kind.ResetStream id code size) = frame frame_types.reset_stream (Num id.0 ∷ Num code ∷ Num size ∷ [])
plain_of (kind.StopSending id code) = frame frame_types.stop_sending (Num id.0 ∷ Num code ∷ [])
plain_of (kind.Crypto offset payload) = frame frame_types.crypto (Num offset ∷ Text payload.now ∷ [])
plain_of (kind.NewToken token) = frame frame_types.new_token (Text token.now ∷ [])
plain_of (kind.Stream s) = stream_form (stream_of s)
plain_of (kind.MaxData limit) = frame frame_types.max_data (Num limit ∷ [])
plain_of (kind.MaxStreamData id limit) = frame frame_types.max_stream_data (Num id.0 ∷ Num limit ∷ [])
plain_of (kind.MaxStreams dir count) = frame (by_dir dir frame_types.max_streams_bidi frame_types.max_streams_uni) (Num count ∷ [])
plain_of (kind.DataBlocked limit) = frame frame_types.data_blocked (Num limit ∷ [])
plain_of (kind.StreamDataBlocked id limit) = frame frame_types.stream_data_blocked (Num id.0 ∷ Num limit ∷ [])
plain_of (kind.StreamsBlocked dir count) = frame (by_dir dir frame_types.streams_blocked_bidi frame_types.streams_blocked_uni) (Num count ∷ [])
plain_of (kind.NewConnectionId sequence prior id token) = frame frame_types.new_connection_id (Num sequence ∷ Num prior ∷ Text id ∷ Text token.0 ∷ [])
plain_of (kind.RetireConnectionId sequence) = frame frame_types.retire_connection_id (Num sequence ∷ [])
plain_of (kind.PathChallenge bytes) = frame frame_types.path_challenge (Text bytes ∷ [])
plain_of (kind.PathResponse bytes) = frame frame_types.path_response (Text bytes ∷ [])
plain_of (kind.ConnectionClose code frame_type reason) = frame frame_types.connection_close (Num code ∷ Num frame_type ∷ Text reason.now ∷ [])
plain_of (kind.ApplicationClose code reason) = frame frame_types.application_close (Num code ∷ Text reason.now ∷ [])
plain_of kind.HandshakeDone = frame frame_types.handshake_done []
plain_of (kind.Datagram payload has_length) = frame frame_types.datagram_with_length (Text payload.now ∷ [])
