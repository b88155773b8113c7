-- What a packet bears that is sent (RFC 9000, sections 12.4, 13 and 19; RFC 9002, sections 6.2.4 and 7).
use Rattle.std.specs.Prelude.{◌≡◌, ◌⊎◌, ℕ, ◌+◌, ◌-◌, ◌<◌, ◌≤◌, ◌^◌, nat_lt, min, Bool, true, false, ◌||◌, MatchBool, List, [], ◌∷◌, ◌++◌, length, Option, Some, None, if◌then◌else◌}
use Rattle.qh_frame.specs.FrameBytes.{frame_bytes}
use Rattle.qh_frame.specs.Plain.{frame}
use Rattle.qh_recovery.specs.PendingAcks.{IsAckPut}
use Rattle.qh_recovery.specs.SentPackets.{bytes_in_flight}
use Rattle.qh_recovery.specs.Window.{allows}
use Rattle.qh_recovery.specs.declared.sent_packets.SentPacket.{SentPacket}
use Rattle.qh_space.specs.declared.data_space.DataSpace.{DataSpace}
use Rattle.qh_spec.specs.FrameTypes as frame_types
use Rattle.qh_spec.specs.QuicFrames.{Text}
use Rattle.qh_streams.specs.Streams.{max_frame_header, AreShared, IsIdle, IsReadBack, IsWrittenBy}
use Rattle.qh_streams.specs.declared.frames.SentFrame.{SentFrame}

-- Ack-eliciting frames may be sent: the window permits a datagram, or a probe is due, which passes it (RFC 9002, sections 7 and
-- 7.5).
abbrev pub may_elicit : DataSpace → Bool
may_elicit s = s.is_probe_due || allows s.congestion (bytes_in_flight s.sent)

abbrev pub bytes_if : Bool → List ℕ → List ℕ
bytes_if true bytes = bytes
bytes_if false bytes = []

-- a PING (RFC 9000, section 19.2)
abbrev pub ping_bytes : List ℕ
ping_bytes = frame_bytes (frame frame_types.ping [])

-- a PATH_RESPONSE, if one is due (RFC 9000, section 19.18)
abbrev pub response_bytes : Option (List ℕ) → List ℕ
response_bytes None = []
response_bytes (Some echoed) = frame_bytes (frame frame_types.path_response (Text echoed ∷ []))

-- a PATH_RESPONSE that is due is read back as that frame
abbrev pub ReadsBack : Option (List ℕ) → Type 0
ReadsBack None = Unit {0}
ReadsBack (Some echoed) = IsReadBack (frame frame_types.path_response (Text echoed ∷ []))

-- the PING and the PATH_RESPONSE that are due
abbrev pub due_bytes : DataSpace → List ℕ
due_bytes s = bytes_if s.is_ping_due ping_bytes ++ response_bytes s.path_response

-- What was appended for ack-eliciting frames, in this much room, if they may be sent: the PING and the PATH_RESPONSE that are due,
-- then frames of the streams, until nothing waits or there is no room for a frame's head and one byte.
pub record AreElicitingPut (room : ℕ) (old new : DataSpace) (out_old out_new : List ℕ) (frames : List SentFrame) : Type 0 where
  pub streams : IsWrittenBy (room - length (due_bytes old)) old.streams new.streams (out_old ++ due_bytes old) out_new [] frames
  pub rest_is : new ≡ record old { streams = new.streams; is_ping_due = false; path_response = None }
  pub reads_back : ReadsBack old.path_response
  pub full : IsIdle new.streams ⊎ (room < length out_new - length out_old + (max_frame_header + 1))

-- an ACK is put first, if one is due (RFC 9000, section 13.2.1)
abbrev pub IsAckFirst : DataSpace → (out_old out_mid : List ℕ) → Type 0
IsAckFirst s out_old out_mid = MatchBool s.acks.is_due (IsAckPut s.acks.ranges out_old out_mid) (out_mid ≡ out_old)

-- the space once a packet was sent with these frames: it is out if it has more than an ACK, and then it is the probe packet
-- that was due
abbrev pub with_sent : DataSpace → (packet : SentPacket SentFrame) → (is_eliciting : Bool) → DataSpace
with_sent s packet true = record s {
  sent = s.sent ++ (s.next_number, packet) ∷ [];
  next_number = s.next_number + 1;
  is_probe_due = false;
  pto_count = (if s.is_probe_due then min (2 ^ 32 - 1) (s.pto_count + 1) else s.pto_count);
  probes_sent = (if s.is_probe_due then min (2 ^ 64 - 1) (s.probes_sent + 1) else s.probes_sent);
}
with_sent s packet false = record s { next_number = s.next_number + 1 }

-- An ack-eliciting packet was sent of which nothing is kept here that would be sent again (RFC 9002, appendix A.5).
pub record IsSentBare (now size : ℕ) (old new : DataSpace) : Type 0 where
  pub packet : SentPacket SentFrame
  pub nothing : packet.frames.items ≡ []
  pub time_is : packet.time_sent.0 ≡ now
  pub size_is : packet.size ≡ size
  pub new_is : new ≡ with_sent old packet true

-- A packet was made: an ACK if one is due, then ack-eliciting frames if they may be sent. It has some frame, and no more
-- bytes of frames than there is room for.
pub record IsPacketMade (now overhead room : ℕ) (old new : DataSpace) (out_old out_new : List ℕ) : Type 0 where
  pub out_mid : List ℕ
  pub mid : DataSpace
  pub packet : SentPacket SentFrame
  pub ack : IsAckFirst old out_old out_mid
  pub eliciting : MatchBool (may_elicit old) (AreElicitingPut (room - (length out_mid - length out_old)) old mid out_mid out_new packet.frames.items) ((mid ≡ old) × (out_new ≡ out_mid))
  pub new_is : new ≡ record (with_sent mid packet (nat_lt (length out_mid) (length out_new))) { acks = record old.acks { is_due = false } }
  pub time_is : packet.time_sent.0 ≡ now
  pub size_is : packet.size ≡ overhead + (length out_new - length out_old)
  pub some : length out_old < length out_new
  pub fits : length out_new ≤ length out_old + room
  -- in a datagram of 1,200 bytes no kind of frame keeps another from being sent
  pub shared : 1143 ≤ room → may_elicit old ≡ true → AreShared old.streams mid.streams packet.frames.items

-- Nothing is to be sent: no ACK is due, and nothing that is ack-eliciting waits that may be sent.
pub record IsQuiet (s : DataSpace) : Type 0 where
  pub ack : s.acks.is_due ≡ false
  pub ping : may_elicit s ≡ true → s.is_ping_due ≡ false
  pub response : may_elicit s ≡ true → s.path_response ≡ None
  pub streams : may_elicit s ≡ true → IsIdle s.streams
