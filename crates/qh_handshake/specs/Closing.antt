-- Whether a datagram brings the peer's close to an end that closed (RFC 9000, sections 10.2.1 and 12.4).
use Rattle.std.specs.Prelude.{◌≡◌, ℕ, ◌==◌, Bool, true, List, Some}
use Rattle.std.specs.List.{AllByRecursion, list_any}
use Rattle.qh_frame.specs.Range.{IsInRange}
use Rattle.qh_handshake.specs.Incoming.{Form, IsOpenedBy}
use Rattle.qh_handshake.specs.declared.handshake.Handshake.{Handshake}
use Rattle.qh_handshake.specs.declared.initial_space.InitialSpace.{InitialSpace}
use Rattle.qh_packet.specs.Initial.{BeginsWithInitial}
use Rattle.qh_packet.specs.Session.{AcceptsTag}
use Rattle.qh_spec.specs.FrameTypes as frame_types
use Rattle.qh_spec.specs.QuicFrames.{QuicFrame, AreQuicFrames}

-- a CONNECTION_CLOSE of the transport: one of the application isn't allowed in an Initial packet (section 12.4)
abbrev pub is_close : QuicFrame → Bool
is_close f = f.kind == frame_types.connection_close

-- the bytes are frames, with values in range, and one of them closes
pub record HaveClose (bytes : List ℕ) : Type 0 where
  pub frames : List QuicFrame
  pub are : AreQuicFrames bytes frames
  pub in_range : AllByRecursion IsInRange frames
  pub closes : list_any is_close frames ≡ true

-- the Initial packet is one for this end, and its frames close
pub record IsClosing (accepts : AcceptsTag) (h : Handshake) (f : Form) : Type 0 where
  pub space : InitialSpace
  pub space_is : h.space ≡ Some space
  pub number : ℕ
  pub bytes : List ℕ
  pub opened : IsOpenedBy accepts h space f number bytes
  pub has : HaveClose bytes

-- one of the Initial packets with which the datagram begins does so: it, or one behind it
pub data BringsClose (accepts : AcceptsTag) (h : Handshake) : (datagram : List ℕ) → Type 0 where
  here : (datagram destination behind : List ℕ) (f : Form) → BeginsWithInitial datagram f.first destination f.source f.token f.body behind → IsClosing accepts h f → BringsClose accepts h datagram
  later : (datagram destination behind : List ℕ) (f : Form) → BeginsWithInitial datagram f.first destination f.source f.token f.body behind → BringsClose accepts h behind → BringsClose accepts h datagram
