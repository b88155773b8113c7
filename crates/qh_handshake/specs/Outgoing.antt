-- Which datagrams a handshake sends: one Initial packet each (RFC 9000, sections 8.1, 14.1, 17.2.2 and 19.19).
use Rattle.std.specs.Prelude.{◌≡◌, ℕ, ◌+◌, ◌-◌, ◌<◌, ◌≤◌, ◌^◌, Bool, true, false, ◌||◌, List, [], ◌∷◌, ◌++◌, length, Option, Some, None, if◌then◌else◌, min}
use Rattle.qh_base.specs.declared.connection_error.ConnectionClose.{ConnectionClose}
use Rattle.qh_base.specs.declared.time.Moment.{Moment}
use Rattle.qh_frame.specs.FrameBytes.{frame_bytes}
use Rattle.qh_frame.specs.Plain.{frame}
use Rattle.qh_handshake.specs.Handshake.{counted, is_limited}
use Rattle.qh_handshake.specs.Sending.{IsPacketMade, IsQuiet}
use Rattle.qh_handshake.specs.declared.handshake.Handshake.{Handshake}
use Rattle.qh_handshake.specs.declared.initial_space.InitialSpace.{InitialSpace}
use Rattle.qh_packet.specs.Initial.{bare_size, initial_filled}
use Rattle.qh_spec.specs.FrameTypes as frame_types
use Rattle.qh_spec.specs.QuicFrames.{QuicFrame, IsQuicFrame, Num, Text}
use Rattle.qh_spec.specs.declared.sides.Side.{Side}
use Rattle.qh_spec.specs.declared.sides.Side.TheVariants.{Client, Server}
use Rattle.qh_spec.specs.declared.sides.Space.{Space}
use Rattle.qh_spec.specs.declared.sides.Space.TheVariants.{Initial}

-- how many bytes of frames a datagram has room for, with two bytes for the length of the packet's body
abbrev pub room : Handshake → ℕ
room h = 1200 - (bare_size h.remote_id h.local_id h.token [] + 2)

abbrev pub is_client : Side → Bool
is_client Client = true
is_client Server = false

-- each datagram of a client's is filled up, and of a server's one that wants an acknowledgement (section 14.1)
abbrev pub least_size : Handshake → (is_eliciting : Bool) → ℕ
least_size h is_eliciting = if (is_client h.side || is_eliciting) then 1200 else 0

-- the Initial packet with this number and these frames
abbrev pub datagram_of : (sealed : Side → Space → ℕ → List ℕ) → Handshake → (number : ℕ) → (frames : List ℕ) → (size : ℕ) → List ℕ
datagram_of sealed h number frames size = initial_filled h.remote_id h.local_id h.token number frames size (sealed h.side Initial number)

-- a datagram of so many bytes went out, and the space is this now
abbrev pub with_sent : Handshake → InitialSpace → (size : ℕ) → Handshake
with_sent h s size = record h { space = Some s; bytes_sent = counted (h.bytes_sent + size) }

-- A datagram of so many bytes, at most 1,200, was appended to a buffer: an Initial packet of what the space has to send.
pub record IsDatagramMade (sealed : Side → Space → ℕ → List ℕ) (now : Moment) (old new : Handshake) (before after : List ℕ) (size : ℕ) : Type 0 where
  pub space : InitialSpace
  pub next : InitialSpace
  pub frames : List ℕ
  pub is_eliciting : Bool
  pub space_is : old.space ≡ Some space
  pub allowed : is_limited old ≡ false
  pub number : space.next_number < 2 ^ 62
  pub made : IsPacketMade now (room old) space next [] frames is_eliciting
  pub after_is : after ≡ before ++ datagram_of sealed old space.next_number frames (least_size old is_eliciting)
  pub new_is : new ≡ with_sent old next size
  pub size_is : size ≡ length (datagram_of sealed old space.next_number frames (least_size old is_eliciting))
  pub fits : size ≤ 1200
  pub filled : least_size old is_eliciting ≤ size
  pub ids : (length old.remote_id ≤ 20) × (length old.local_id ≤ 20)
  pub tag_length : length (sealed old.side Initial space.next_number) ≡ 32

-- Why nothing is sent: the space is gone, or nothing waits, or no packet number is left; or the limit before validation is reached.
pub data IsSilent (h : Handshake) : Type 0 where
  gone : h.space ≡ None → IsSilent h
  limited : is_limited h ≡ true → IsSilent h
  quiet : (s : InitialSpace) → h.space ≡ Some s → IsQuiet s → IsSilent h
  exhausted : (s : InitialSpace) → h.space ≡ Some s → s.next_number ≡ 2 ^ 62 → IsSilent h

-- Memory is wanting for a datagram: the handshake is as it was, or a packet counts as in flight that wasn't handed out.
pub data IsUnsent (now : Moment) (old new : Handshake) : Type 0 where
  same : new ≡ old → IsUnsent now old new
  lost : (space next : InitialSpace) (frames : List ℕ) (is_eliciting : Bool) → old.space ≡ Some space → is_limited old ≡ false → space.next_number < 2 ^ 62
      → IsPacketMade now (room old) space next [] frames is_eliciting → new ≡ record old { space = Some next } → IsUnsent now old new

-- the value, or the greatest that a frame can bear (section 16)
abbrev pub bounded : ℕ → ℕ
bounded value = min value (2 ^ 62 - 1)

-- the type of the frame at fault, 0 if none is known
abbrev pub fault_type : Option ℕ → ℕ
fault_type None = 0
fault_type (Some kind) = bounded kind

-- the CONNECTION_CLOSE that says the reason (section 19.19)
abbrev pub close_frame : ConnectionClose → QuicFrame
close_frame c = frame frame_types.connection_close (Num (bounded c.code.0) ∷ Num (fault_type c.frame) ∷ Text c.reason ∷ [])

-- A datagram of so many bytes was appended to a buffer: an Initial packet that closes.
pub record IsCloseMade (sealed : Side → Space → ℕ → List ℕ) (close : ConnectionClose) (old new : Handshake) (before after : List ℕ) (size : ℕ) : Type 0 where
  pub space : InitialSpace
  pub space_is : old.space ≡ Some space
  pub allowed : is_limited old ≡ false
  pub number : space.next_number < 2 ^ 62
  pub after_is : after ≡ before ++ datagram_of sealed old space.next_number (frame_bytes (close_frame close)) (least_size old false)
  pub new_is : new ≡ with_sent old (record space { next_number = space.next_number + 1 }) size
  pub size_is : size ≡ length (datagram_of sealed old space.next_number (frame_bytes (close_frame close)) (least_size old false))
  pub fits : size ≤ 1200
  pub filled : least_size old false ≤ size
  pub ids : (length old.remote_id ≤ 20) × (length old.local_id ≤ 20)
  pub tag_length : length (sealed old.side Initial space.next_number) ≡ 32
  -- the CONNECTION_CLOSE is read back as that frame
  pub read_back : (rest : List ℕ) → IsQuicFrame (frame_bytes (close_frame close) ++ rest) (close_frame close) rest

-- why no close is sent
pub data IsCloseKept (h : Handshake) : Type 0 where
  gone : h.space ≡ None → IsCloseKept h
  limited : is_limited h ≡ true → IsCloseKept h
  exhausted : (s : InitialSpace) → h.space ≡ Some s → s.next_number ≡ 2 ^ 62 → IsCloseKept h

-- memory is wanting for a close: the handshake is as it was, or a packet number is used up
pub data IsCloseUnsent (old new : Handshake) : Type 0 where
  same : new ≡ old → IsCloseUnsent old new
  used : (space : InitialSpace) → old.space ≡ Some space → is_limited old ≡ false → space.next_number < 2 ^ 62
      → new ≡ record old { space = Some (record space { next_number = space.next_number + 1 }) } → IsCloseUnsent old new
