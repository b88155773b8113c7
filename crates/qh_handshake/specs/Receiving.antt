-- What a frame of the peer's does to the Initial space, and which are refused (RFC 9000, sections 7.5, 12.4, 13 and 19; RFC 9002,
-- sections 5 and 6).
use Rattle.std.specs.Prelude.{◌≡◌, ◌⊎◌, ℕ, ◌+◌, ◌-◌, ◌^◌, ◌≤◌, ◌==◌, nat_lt, nat_le, min, max, take, List, [], ◌∷◌, length, Option, Some, None, if◌then◌else◌}
use Rattle.qh_base.specs.declared.connection_error.ConnectionClose.{ConnectionClose}
use Rattle.qh_buffers.specs.declared.assembler.Chunk.{Chunk}
use Rattle.qh_frame.specs.Plain.{ack_of, frame, plain_of}
use Rattle.qh_frame.specs.TypeOf.{type_of}
use Rattle.qh_frame.specs.declared.ack.Ack.{Ack}
use Rattle.qh_frame.specs.declared.frame.Frame.{Frame}
use Rattle.qh_frame.specs.declared.frame.Frame.TheVariants as kind
use Rattle.qh_handshake.specs.Settled.{AreTaken, Packets, any_bears}
use Rattle.qh_handshake.specs.declared.initial_space.HelloFrame.{HelloFrame}
use Rattle.qh_handshake.specs.declared.initial_space.HelloState.{HelloState}
use Rattle.qh_handshake.specs.declared.initial_space.HelloState.TheVariants.{Waits, Out, Acked}
use Rattle.qh_handshake.specs.declared.initial_space.InitialSpace.{InitialSpace}
use Rattle.qh_handshake.specs.declared.receiving.SpaceFault.{SpaceFault}
use Rattle.qh_handshake.specs.declared.receiving.SpaceFault.TheVariants.{Transport, Memory}
use Rattle.qh_hello.specs.Crypto.{HasTaken, IsInFront}
use Rattle.qh_recovery.specs.Rtt.{sampled, loss_delay}
use Rattle.qh_recovery.specs.SentPackets.{packet_at, IsLost}
use Rattle.qh_recovery.specs.declared.paths.RttEstimator.{RttEstimator}
use Rattle.qh_recovery.specs.declared.sent_packets.SentPacket.{SentPacket}
use Rattle.qh_spec.specs.Acknowledged.{Covers}
use Rattle.qh_spec.specs.Codes as codes
use Rattle.qh_spec.specs.FrameTypes as frame_types
use Rattle.qh_spec.specs.Greeted.{crypto_frame}
use Rattle.qh_spec.specs.QuicFrames.{Num, Text}

-- ---- refusals

-- the code of a fault, and the type of the frame
pub record Refusal : Type 0 where
  pub code : ℕ
  pub frame : ℕ

abbrev pub refused : (code frame : ℕ) → Option Refusal
refused code frame = Some (record { code = code; frame = frame })

-- CRYPTO bytes behind the 16,384th are refused (section 7.5)
abbrev pub crypto_refusal : (end : ℕ) → Option Refusal
crypto_refusal end = if nat_le end 16384 then None else refused codes.crypto_buffer_exceeded frame_types.crypto

-- Why a frame is refused: an ACK of a number that was never sent (section 13.1), CRYPTO bytes behind the 16,384th (section 7.5), and
-- each frame that an Initial packet may not have (section 12.4). A CONNECTION_CLOSE of the application is one of these.
abbrev pub frame_refusal : InitialSpace → Frame → Option Refusal
frame_refusal s kind.Padding = None
frame_refusal s kind.Ping = None
frame_refusal s (kind.Ack a) = if nat_lt a.greatest s.next_number then None else refused codes.protocol_violation (type_of (kind.Ack a))
frame_refusal s (kind.Crypto offset payload) = crypto_refusal (offset + length payload.now)
frame_refusal s (kind.ConnectionClose code frame reason) = None
frame_refusal s f = refused codes.protocol_violation (type_of f)

-- the fault has this code and frame type, and no reason phrase
abbrev pub IsRefusal : SpaceFault → Option Refusal → Type 0
IsRefusal (Transport e) (Some r) = (e.code.0 ≡ r.code) × (e.frame ≡ Some r.frame) × (e.reason ≡ [])
IsRefusal _ _ = ⊥

-- the answer for a frame that isn't taken: why it is refused or, of a CRYPTO frame with which nothing is wrong, want of memory
abbrev pub IsRefusedBy : SpaceFault → Frame → Option Refusal → Type 0
IsRefusedBy Memory (kind.Crypto offset payload) refusal = refusal ≡ None
IsRefusedBy Memory f refusal = ⊥
IsRefusedBy (Transport e) f refusal = IsRefusal (Transport e) refusal

-- the same of CRYPTO bytes that end there
abbrev pub IsCryptoFault : SpaceFault → (end : ℕ) → Type 0
IsCryptoFault Memory end = end ≤ 16384
IsCryptoFault (Transport e) end = IsRefusal (Transport e) (crypto_refusal end)

-- ---- what a frame does

-- a round-trip time was measured if the packet with the greatest acknowledged number was out (RFC 9002, section 5.1)
abbrev pub measured : Option (SentPacket HelloFrame) → (now : ℕ) → RttEstimator → RttEstimator
measured None now rtt = rtt
measured (Some p) now rtt = sampled (now - p.time_sent.0) rtt

abbrev pub greatest_of : Option ℕ → ℕ → ℕ
greatest_of None n = n
greatest_of (Some m) n = max m n

-- a hello that was out is to be sent again
abbrev pub again : HelloState → HelloState
again Out = Waits
again other = other

-- What is lost by now is lost, if this is the greatest number that was acknowledged, and the hello with it (RFC 9002, section 6.1).
pub record IsLossTaken (largest_acked now : ℕ) (old new : InitialSpace) : Type 0 where
  pub taken : Packets
  pub packets : AreTaken (IsLost largest_acked now (loss_delay old.rtt)) old.sent new.sent taken
  pub rest_is : new ≡ record old { sent = new.sent; state = (if any_bears taken then again old.state else old.state); packets_lost = min (2 ^ 64 - 1) (old.packets_lost + length taken) }

-- An ACK came (RFC 9002, appendix A.7): a sample is taken, what it covers is acknowledged, the hello with it, and what is lost by it
-- is lost.
pub record IsAckReceived (now : ℕ) (old new : InitialSpace) (a : Ack) : Type 0 where
  pub mid : InitialSpace
  pub taken : Packets
  pub packets : AreTaken (λ k q. Covers (ack_of a) k) old.sent mid.sent taken
  pub mid_is : mid ≡ record old {
    sent = mid.sent;
    state = (if any_bears taken then Acked else old.state);
    rtt = measured (packet_at old.sent a.greatest) now old.rtt;
    largest_acked = Some (greatest_of old.largest_acked a.greatest);
    pto_count = (if nat_lt 0 (length taken) then 0 else old.pto_count);
  }
  pub lost : IsLossTaken (greatest_of old.largest_acked a.greatest) now mid new

abbrev pub some_type : ℕ → Option ℕ
some_type frame = if frame == 0 then None else Some frame

-- a CONNECTION_CLOSE frame says this (section 19.19)
abbrev pub Says : ConnectionClose → (code frame : ℕ) → (reason : List ℕ) → Type 0
Says close code frame reason = (close.code.0 ≡ code) × (close.frame ≡ some_type frame) × (close.reason ≡ take 128 reason)

-- CRYPTO bytes came, and what of them has nothing missing in front of it can be read (section 19.6)
pub record IsPieceTaken (old new : InitialSpace) (piece : Chunk) : Type 0 where
  pub rest_is : new ≡ record old { crypto = new.crypto }
  pub taken : HasTaken old.crypto new.crypto piece
  pub in_front : IsInFront new.crypto

-- after want of memory for CRYPTO bytes nothing that came is lost: they are kept, or none of them
abbrev pub KeepsPiece : (old new : InitialSpace) → (piece : Chunk) → Type 0
KeepsPiece old new piece = (new ≡ old) ⊎ ((new ≡ record old { crypto = new.crypto }) × HasTaken old.crypto new.crypto piece)

-- What a frame does that is taken, and what the peer says if it closes by it.
pub data IsFrameTaken (now : ℕ) (old new : InitialSpace) : Frame → Option ConnectionClose → Type 0 where
  padding : new ≡ old → IsFrameTaken now old new kind.Padding None
  ping : new ≡ old → IsFrameTaken now old new kind.Ping None
  ack : (a : Ack) → IsAckReceived now old new a → IsFrameTaken now old new (kind.Ack a) None
  crypto : (f : Frame) (piece : Chunk) → plain_of f ≡ crypto_frame piece.offset piece.bytes → IsPieceTaken old new piece → IsFrameTaken now old new f None
  close : (f : Frame) (code kind : ℕ) (reason : List ℕ) (close : ConnectionClose) → plain_of f ≡ frame frame_types.connection_close (Num code ∷ Num kind ∷ Text reason ∷ [])
      → Says close code kind reason → new ≡ old → IsFrameTaken now old new f (Some close)

-- after a refusal the space is as it was
abbrev pub KeepsPieceAfter : SpaceFault → (old new : InitialSpace) → (piece : Chunk) → Type 0
KeepsPieceAfter Memory old new piece = KeepsPiece old new piece
KeepsPieceAfter (Transport e) old new piece = new ≡ old

-- the same of a frame; after want of memory for any other the space is as it was
abbrev pub KeepsCrypto : (old new : InitialSpace) → Frame → Type 0
KeepsCrypto old new (kind.Crypto offset payload) = KeepsPiece old new (record { offset = offset; bytes = payload.now })
KeepsCrypto old new f = new ≡ old

abbrev pub KeepsAfter : SpaceFault → (old new : InitialSpace) → Frame → Type 0
KeepsAfter Memory old new f = KeepsCrypto old new f
KeepsAfter (Transport e) old new f = new ≡ old
