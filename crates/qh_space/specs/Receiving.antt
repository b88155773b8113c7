-- What a frame of the peer's does to the space, and which are refused (RFC 9000, sections 12.4, 13 and 19; RFC 9002, sections 5
-- and 6).
use Rattle.std.specs.Prelude.{◌≡◌, ℕ, ◌+◌, ◌-◌, ◌^◌, ◌==◌, nat_lt, nat_le, min, max, take, length, Bool, true, false, List, Option, Some, None, is_some, if◌then◌else◌}
use Rattle.qh_base.specs.declared.connection_error.ConnectionError.{ConnectionError}
use Rattle.qh_base.specs.declared.connection_error.ConnectionError.TheVariants.{ConnectionClosed, ApplicationClosed}
use Rattle.qh_frame.specs.Plain.{ack_of}
use Rattle.qh_frame.specs.TypeOf.{type_of}
use Rattle.qh_frame.specs.declared.ack.Ack.{Ack}
use Rattle.qh_frame.specs.declared.frame.Frame.{Frame}
use Rattle.qh_frame.specs.declared.frame.Frame.TheVariants as kind
use Rattle.qh_frame.specs.declared.frame.Stream.{Stream}
use Rattle.qh_loss.specs.Owed.{frames_out}
use Rattle.qh_loss.specs.Settled.{IsAckTaken, AreLostTaken}
use Rattle.qh_recovery.specs.Rtt.{sampled, loss_delay}
use Rattle.qh_recovery.specs.SentPackets.{packet_at}
use Rattle.qh_recovery.specs.declared.paths.RttEstimator.{RttEstimator}
use Rattle.qh_recovery.specs.declared.sent_packets.SentPacket.{SentPacket}
use Rattle.qh_space.specs.declared.data_space.DataSpace.{DataSpace}
use Rattle.qh_spec.specs.Codes as codes
use Rattle.qh_spec.specs.FrameTypes as frame_types
use Rattle.qh_spec.specs.declared.sides.Side.{Side}
use Rattle.qh_spec.specs.declared.sides.Side.TheVariants.{Client, Server}
use Rattle.qh_streams.specs.Items.{items_of, logged, AreConfirmed}
use Rattle.qh_streams.specs.Streams.{PlainStreams, Refusal, refused, refusal_of, IsReceived}
use Rattle.qh_streams.specs.declared.frames.SentFrame.{SentFrame}
use Rattle.qh_streams.specs.declared.frames.StreamFrame.{StreamFrame}
use Rattle.qh_streams.specs.declared.frames.StreamFrame.TheVariants as coming
use Rattle.qh_streams.specs.declared.items.Item.{Item}

-- the frame that speaks of streams (sections 19.4, 19.5 and 19.8 to 19.11)
abbrev pub coming_of : Frame → Option StreamFrame
coming_of (kind.Stream s) = Some (coming.Stream s.id s.offset s.payload.now s.fin)
coming_of (kind.ResetStream id code size) = Some (coming.Reset id code size)
coming_of (kind.StopSending id code) = Some (coming.Stop id code)
coming_of (kind.MaxData limit) = Some (coming.MaxData limit)
coming_of (kind.MaxStreamData id limit) = Some (coming.MaxStreamData id limit)
coming_of (kind.MaxStreams dir count) = Some (coming.MaxStreams dir count)
coming_of other = None

-- a STREAM frame, of whose bytes a copy is made
pub record IsStream (f : Frame) : Type 0 where
  pub stream : Stream
  pub is : f ≡ kind.Stream stream

abbrev pub refused_at_server : Side → (frame : ℕ) → Option Refusal
refused_at_server Server frame = refused codes.protocol_violation frame
refused_at_server Client frame = None

abbrev pub coming_refusal : PlainStreams → Option StreamFrame → Option Refusal
coming_refusal s (Some f) = refusal_of s f
coming_refusal s None = None

-- a DATAGRAM frame is taken if such frames are on, and its payload isn't longer than the limit (RFC 9221, section 3; own: the limit is
-- one on the payload)
abbrev pub datagram_refusal : (most : Option ℕ) → (size frame : ℕ) → Option Refusal
datagram_refusal None size frame = refused codes.protocol_violation frame
datagram_refusal (Some most) size frame = if nat_le size most then None else refused codes.protocol_violation frame

-- Why a frame is refused: an ACK of a number that was never sent (section 13.1), NEW_TOKEN and HANDSHAKE_DONE at a server
-- (sections 19.7 and 19.20), a DATAGRAM frame that isn't taken (RFC 9221, section 3), and the refusals of the streams.
abbrev pub frame_refusal : DataSpace → Frame → Option Refusal
frame_refusal s (kind.Ack a) = if nat_lt a.greatest s.next_number then None else refused codes.protocol_violation (type_of (kind.Ack a))
frame_refusal s (kind.NewToken token) = refused_at_server s.streams.side frame_types.new_token
frame_refusal s kind.HandshakeDone = refused_at_server s.streams.side frame_types.handshake_done
frame_refusal s (kind.Datagram payload has_length) = datagram_refusal s.datagram_receive (length payload.now) (type_of (kind.Datagram payload has_length))
frame_refusal s f = coming_refusal s.streams (coming_of f)

-- Want of memory may come for a frame of which something is to be kept: of a stream, or of a count; of a limit on all bytes and of an
-- ACK only if the log is on.
abbrev pub may_want_memory : DataSpace → Frame → Bool
may_want_memory s (kind.Ack a) = is_some s.log
may_want_memory s (kind.MaxData limit) = is_some s.log
may_want_memory s f = is_some (coming_of f)

-- a round-trip time was measured if the packet with the greatest acknowledged number was out (RFC 9002, section 5.1)
abbrev pub measured : Option (SentPacket SentFrame) → (now : ℕ) → RttEstimator → RttEstimator
measured None now rtt = rtt
measured (Some p) now rtt = sampled (now - p.time_sent.0) rtt

abbrev pub greatest_of : Option ℕ → ℕ → ℕ
greatest_of None n = n
greatest_of (Some m) n = max m n

-- What is lost by now is lost, if this is the greatest number that was acknowledged (RFC 9002, section 6.1).
pub record IsLossTaken (largest_acked now : ℕ) (old new : DataSpace) : Type 0 where
  pub count : ℕ
  pub lost : AreLostTaken largest_acked now (loss_delay old.rtt) old.next_number old.sent new.sent old.streams new.streams old.congestion new.congestion count
  pub rest_is : new ≡ record old { streams = new.streams; sent = new.sent; congestion = new.congestion; packets_lost = min (2 ^ 64 - 1) (old.packets_lost + count) }

-- An ACK came (RFC 9002, appendix A.7): a sample is taken, what it covers is acknowledged, which the log keeps if it is on, and
-- what is lost by it is lost.
pub record IsAckReceived (now : ℕ) (old new : DataSpace) (a : Ack) : Type 0 where
  pub mid : DataSpace
  pub is_any : Bool
  pub taken : IsAckTaken (ack_of a) old.sent mid.sent old.streams mid.streams old.congestion mid.congestion
  pub items : List Item
  pub confirmed : AreConfirmed old.streams mid.streams (frames_out taken.taken) items
  pub none_is : is_any ≡ false → mid.sent ≡ old.sent
  pub some_is : is_any ≡ true → mid.sent ≡ old.sent → ⊥
  pub mid_is : mid ≡ record old {
    streams = mid.streams;
    log = logged old.log items;
    sent = mid.sent;
    congestion = mid.congestion;
    rtt = measured (packet_at old.sent a.greatest) now old.rtt;
    largest_acked = Some (greatest_of old.largest_acked a.greatest);
    pto_count = (if is_any then 0 else old.pto_count);
  }
  pub lost : IsLossTaken (greatest_of old.largest_acked a.greatest) now mid new

-- Frames that change nothing of the space. What a DATAGRAM frame bears is for whoever takes the frames that the space passes over.
abbrev pub is_passive : Frame → Bool
is_passive kind.Padding = true
is_passive kind.Ping = true
is_passive (kind.Crypto offset payload) = true
is_passive (kind.NewToken token) = true
is_passive (kind.DataBlocked limit) = true
is_passive (kind.StreamDataBlocked id limit) = true
is_passive (kind.StreamsBlocked dir count) = true
is_passive (kind.NewConnectionId sequence prior id token) = true
is_passive (kind.RetireConnectionId sequence) = true
is_passive (kind.PathResponse bytes) = true
is_passive kind.HandshakeDone = true
is_passive (kind.Datagram payload has_length) = true
is_passive other = false

abbrev pub some_type : ℕ → Option ℕ
some_type frame = if frame == 0 then None else Some frame

-- a CONNECTION_CLOSE frame says this (section 19.19); no other frame closes
abbrev pub IsClosedBy : Frame → Option ConnectionError → Type 0
IsClosedBy (kind.ConnectionClose code frame reason) (Some (ConnectionClosed close)) = (close.code.0 ≡ code) × (close.frame ≡ some_type frame) × (close.reason ≡ take 128 reason.now)
IsClosedBy (kind.ApplicationClose code reason) (Some (ApplicationClosed close)) = (close.error_code ≡ code) × (close.reason ≡ take 128 reason.now)
IsClosedBy (kind.ConnectionClose code frame reason) other = ⊥
IsClosedBy (kind.ApplicationClose code reason) other = ⊥
IsClosedBy f answer = answer ≡ None

-- What a frame does that is taken, and the error with which the peer closes by it.
pub data IsFrameTaken (now : ℕ) (old new : DataSpace) : Frame → Option ConnectionError → Type 0 where
  passive : (f : Frame) → is_passive f ≡ true → new ≡ old → IsFrameTaken now old new f None
  streams : (f : Frame) (s : StreamFrame) → coming_of f ≡ Some s → IsReceived old.streams new.streams s
      → new ≡ record old { streams = new.streams; log = logged old.log (items_of old.streams s) } → IsFrameTaken now old new f None
  ack : (a : Ack) → IsAckReceived now old new a → IsFrameTaken now old new (kind.Ack a) None
  challenge : (bytes : List ℕ) → new ≡ record old { path_response = Some bytes } → IsFrameTaken now old new (kind.PathChallenge bytes) None
  close : (f : Frame) (e : ConnectionError) → IsClosedBy f (Some e) → new ≡ old → IsFrameTaken now old new f (Some e)
