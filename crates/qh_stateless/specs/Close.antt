-- The Initial packet of a server that closes or refuses an attempt (RFC 9000, sections 10.2.3, 17.2.2 and 19.19).
use Rattle.std.specs.Prelude.{ℕ, ◌-◌, ◌^◌, List, [], ◌∷◌, Option, Some, None, min}
use Rattle.qh_base.specs.declared.transport_error.TransportError.{TransportError}
use Rattle.qh_frame.specs.FrameBytes.{frame_bytes}
use Rattle.qh_frame.specs.Plain.{frame}
use Rattle.qh_packet.specs.Initial.{initial_filled}
use Rattle.qh_packet.specs.Session.{SealsTag}
use Rattle.qh_spec.specs.FrameTypes as frame_types
use Rattle.qh_spec.specs.QuicFrames.{QuicFrame, Num, Text}
use Rattle.qh_spec.specs.declared.sides.Side.TheVariants.{Server}
use Rattle.qh_spec.specs.declared.sides.Space.TheVariants.{Initial}

-- the value, or the greatest that a frame can bear (RFC 9000, section 16)
abbrev pub bounded : ℕ → ℕ
bounded value = min value (2 ^ 62 - 1)

-- the type of the frame at fault, 0 if the error names none
abbrev pub fault_type : Option ℕ → ℕ
fault_type None = 0
fault_type (Some kind) = bounded kind

-- the CONNECTION_CLOSE of the transport, type 1c, that says the error
abbrev pub close_frame : TransportError → QuicFrame
close_frame e = frame frame_types.connection_close (Num (bounded e.code.0) ∷ Num (fault_type e.frame) ∷ Text e.reason ∷ [])

-- An Initial packet of a server with number 0, no token, that frame and the session's tag, and no PADDING.
abbrev pub close_bytes : (sealed : SealsTag) (destination source : List ℕ) → TransportError → List ℕ
close_bytes sealed destination source e = initial_filled destination source [] 0 (frame_bytes (close_frame e)) 0 (sealed Server Initial 0)
