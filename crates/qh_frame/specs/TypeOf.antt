-- The type by which an error names a frame (RFC 9000, section 19.19).
use Rattle.std.specs.Prelude.{◌≡◌, ℕ, List, Option, Some, None, if◌then◌else◌}
use Rattle.qh_frame.specs.Plain.{plain_of}
use Rattle.qh_frame.specs.declared.ack.EcnCounts.{EcnCounts}
use Rattle.qh_frame.specs.declared.frame.Frame.{Frame}
use Rattle.qh_frame.specs.declared.frame.Frame.TheVariants as kind
use Rattle.qh_spec.specs.FrameTypes as frame_types
use Rattle.qh_spec.specs.QuicFrames.{IsNumber}

-- an ACK has a type with the counts of ECN marks and one without (section 19.3)
abbrev pub ack_type : Option EcnCounts → ℕ
ack_type None = frame_types.ack
ack_type (Some counts) = frame_types.ack_ecn

-- all types of STREAM are named by the first of them, and each other frame by its own
abbrev pub type_of : Frame → ℕ
type_of (kind.Stream s) = frame_types.stream
type_of (kind.Ack a) = ack_type a.ecn
type_of (kind.Datagram payload has_length) = if has_length then frame_types.datagram_with_length else frame_types.datagram
type_of f = (plain_of f).kind

-- the name of a type: the types of STREAM are 08 to 0f (section 19.8)
abbrev pub named : ℕ → ℕ
named kind = if frame_types.is_stream_type kind then frame_types.stream else kind

-- the bytes begin with a type, in any form, that is named as the frame is (section 12.4)
abbrev pub HasType : List ℕ → Frame → Type 0
HasType bytes f = (kind : ℕ) × (rest : List ℕ) × IsNumber bytes kind rest × (type_of f ≡ named kind)
