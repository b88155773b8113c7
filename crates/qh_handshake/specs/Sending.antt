-- What an Initial packet bears that is sent (RFC 9000, sections 12.4, 13, 17.2.2 and 19).
use Rattle.std.specs.Prelude.{◌≡◌, ℕ, ◌+◌, ◌-◌, ◌<◌, ◌≤◌, ◌^◌, nat_le, nat_lt, min, Bool, true, false, ◌&&◌, MatchBool, List, [], ◌∷◌, ◌++◌, length, if◌then◌else◌}
use Rattle.qh_base.specs.declared.time.Moment.{Moment}
use Rattle.qh_frame.specs.FrameBytes.{frame_bytes}
use Rattle.qh_frame.specs.Plain.{frame}
use Rattle.qh_handshake.specs.declared.initial_space.HelloFrame.{HelloFrame}
use Rattle.qh_handshake.specs.declared.initial_space.HelloState.{HelloState}
use Rattle.qh_handshake.specs.declared.initial_space.HelloState.TheVariants.{Waits, Out}
use Rattle.qh_handshake.specs.declared.initial_space.InitialSpace.{InitialSpace}
use Rattle.qh_recovery.specs.PendingAcks.{IsAckPut}
use Rattle.qh_recovery.specs.declared.sent_packets.SentPacket.{SentPacket}
use Rattle.qh_spec.specs.FrameTypes as frame_types
use Rattle.qh_spec.specs.Greeted.{crypto_frame}
use Rattle.qh_spec.specs.QuicFrames.{IsQuicFrame}

abbrev pub is_waiting : HelloState → Bool
is_waiting Waits = true
is_waiting other = false

abbrev pub bytes_if : Bool → List ℕ → List ℕ
bytes_if true bytes = bytes
bytes_if false bytes = []

-- a PING (RFC 9000, section 19.2)
abbrev pub ping_bytes : List ℕ
ping_bytes = frame_bytes (frame frame_types.ping [])

-- the whole hello, in one CRYPTO frame (RFC 9000, section 19.6)
abbrev pub hello_frame_bytes : List ℕ → List ℕ
hello_frame_bytes hello = frame_bytes (crypto_frame 0 hello)

-- the hello is sent where it waits and there is room for it, with the 17 bytes that a CRYPTO frame's head takes at most
abbrev pub writes_hello : InitialSpace → (room : ℕ) → Bool
writes_hello s room = is_waiting s.state && nat_le (17 + length s.hello) room

-- what is kept of a packet that bears the hello, or doesn't
abbrev pub hello_if : Bool → List HelloFrame
hello_if true = record {} ∷ []
hello_if false = []

-- the ack-eliciting frames that are sent in so much room: a PING that is due, and the hello
abbrev pub eliciting_bytes : InitialSpace → (room : ℕ) → List ℕ
eliciting_bytes s room = bytes_if s.is_ping_due ping_bytes ++ bytes_if (writes_hello s (room - length (bytes_if s.is_ping_due ping_bytes))) (hello_frame_bytes s.hello)

-- an ACK is put first, if one is due (RFC 9000, section 13.2.1)
abbrev pub IsAckFirst : InitialSpace → (out_old out_mid : List ℕ) → Type 0
IsAckFirst s out_old out_mid = MatchBool s.acks.is_due (IsAckPut s.acks.ranges out_old out_mid) (out_mid ≡ out_old)

-- the packet is out: it is the probe packet that was due
abbrev pub with_sent : InitialSpace → (packet : SentPacket HelloFrame) → (has_hello : Bool) → InitialSpace
with_sent s packet has_hello = record s {
  sent = s.sent ++ (s.next_number, packet) ∷ [];
  state = (if has_hello then Out else s.state);
  next_number = s.next_number + 1;
  is_ping_due = false;
  is_probe_due = false;
  pto_count = (if s.is_probe_due then min (2 ^ 32 - 1) (s.pto_count + 1) else s.pto_count);
  probes_sent = (if s.is_probe_due then min (2 ^ 64 - 1) (s.probes_sent + 1) else s.probes_sent);
}

-- the space once a packet was sent: it is out if it has more than an ACK
abbrev pub counted : InitialSpace → (packet : SentPacket HelloFrame) → (is_eliciting has_hello : Bool) → InitialSpace
counted s packet true has_hello = with_sent s packet has_hello
counted s packet false has_hello = record s { next_number = s.next_number + 1 }

-- A packet was made: an ACK if one is due, then a PING that is due, then the whole hello where it waits. It has some frame, and no
-- more bytes of frames than there is room for.
pub record IsPacketMade (now : Moment) (room : ℕ) (old new : InitialSpace) (out_old out_new : List ℕ) (is_eliciting : Bool) : Type 0 where
  pub out_mid : List ℕ
  pub packet : SentPacket HelloFrame
  pub ack : IsAckFirst old out_old out_mid
  pub whole : out_new ≡ out_mid ++ eliciting_bytes old (room - (length out_mid - length out_old))
  pub eliciting_is : is_eliciting ≡ nat_lt (length out_mid) (length out_new)
  pub hello_is : packet.frames.items ≡ hello_if (writes_hello old (room - (length out_mid - length out_old) - length (bytes_if old.is_ping_due ping_bytes)))
  pub new_is : new ≡ record (counted old packet is_eliciting (nat_lt 0 (length packet.frames.items))) { acks = record old.acks { is_due = false }; last_active = now }
  pub time_is : packet.time_sent ≡ now
  -- a datagram with such a packet is filled up (RFC 9000, section 14.1)
  pub size_is : packet.size ≡ 1200
  pub some : length out_old < length out_new
  pub fits : length out_new ≤ length out_old + room
  -- the hello, if it bears that, is read back as that frame
  pub read_back : nat_lt 0 (length packet.frames.items) ≡ true → (rest : List ℕ) → IsQuicFrame (hello_frame_bytes old.hello ++ rest) (crypto_frame 0 old.hello) rest

-- Nothing is to be sent: no ACK is due, and nothing that is ack-eliciting waits.
pub record IsQuiet (s : InitialSpace) : Type 0 where
  pub ack : s.acks.is_due ≡ false
  pub ping : s.is_ping_due ≡ false
  pub hello : s.state ≡ Waits → ⊥
