-- The form in which a frame is written, where it has several (RFC 9000, sections 19.3 and 19.8; RFC 9221, section 4).
use Rattle.std.specs.Prelude.{◌==◌, List, [], ◌∷◌, Option, Some, None, if◌then◌else◌}
use Rattle.qh_spec.specs.FrameTypes as frame_types
use Rattle.qh_spec.specs.FrameViews.{stream_values}
use Rattle.qh_spec.specs.QuicFrame.{StreamFrame, stream_kind, has_bit}
use Rattle.qh_spec.specs.QuicFrames.{QuicFrame, Value, Num, Text}

-- a STREAM frame with its length, and with its offset where that isn't 0
abbrev pub stream_form : StreamFrame → QuicFrame
stream_form s = record { kind = stream_kind s; values = (if s.offset == 0 then Num s.id ∷ Text s.payload ∷ [] else Num s.id ∷ Num s.offset ∷ Text s.payload ∷ []) }

-- an ACK without counts of marks
abbrev pub ack_values : List Value → List Value
ack_values (greatest ∷ delay ∷ ranges ∷ more) = greatest ∷ delay ∷ ranges ∷ []
ack_values values = values

abbrev pub or_frame : Option StreamFrame → QuicFrame → QuicFrame
or_frame (Some s) f = stream_form s
or_frame None f = f

-- STREAM as above, ACK as type 02, DATAGRAM with its length, and all others as they are
abbrev pub written_form : QuicFrame → QuicFrame
written_form f =
    if frame_types.is_stream_type f.kind then or_frame (stream_values (has_bit 1 f.kind) f.values) f
    else if f.kind == frame_types.ack_ecn then record { kind = frame_types.ack; values = ack_values f.values }
    else if f.kind == frame_types.datagram then record { kind = frame_types.datagram_with_length; values = f.values }
    else f
