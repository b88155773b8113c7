-- What a frame of QUIC is by its type: a STREAM frame, and one that may stand in an Initial packet.
use Rattle.std.specs.Prelude.{Bool, List, [], ◌∷◌, Option, Some, None, if◌then◌else◌}
use Rattle.std.specs.List.{AllByRecursion}
use Rattle.qh_spec.specs.FrameTypes as frame_types
use Rattle.qh_spec.specs.Lists.{In}
use Rattle.qh_spec.specs.QuicFrame.{StreamFrame, has_bit}
use Rattle.qh_spec.specs.QuicFrames.{QuicFrame, Value, Num, Text}

-- the fields of a STREAM frame; without an offset it is 0 (RFC 9000, section 19.8)
abbrev pub stream_values : Bool → List Value → Option StreamFrame
stream_values fin (Num id ∷ Num offset ∷ Text payload ∷ []) = Some (record { id = id; offset = offset; payload = payload; fin = fin })
stream_values fin (Num id ∷ Text payload ∷ []) = Some (record { id = id; offset = 0; payload = payload; fin = fin })
stream_values _ _ = None

-- the STREAM frame that a frame is, with the types 08 to 0f (RFC 9000, section 19.8)
abbrev pub stream_of : QuicFrame → Option StreamFrame
stream_of f = if frame_types.is_stream_type f.kind then stream_values (has_bit 1 f.kind) f.values else None

-- PADDING, PING, both ACK, CRYPTO and CONNECTION_CLOSE of the transport may stand in an Initial packet (RFC 9000, sections 12.4 and 17.2.2)
abbrev pub MayBeInitial : QuicFrame → Type 0
MayBeInitial f = In f.kind (frame_types.padding ∷ frame_types.ping ∷ frame_types.ack ∷ frame_types.ack_ecn ∷ frame_types.crypto ∷ frame_types.connection_close ∷ [])

-- each frame may (RFC 9000, section 17.2.2)
abbrev pub AreInitialFrames : List QuicFrame → Type 0
AreInitialFrames fs = AllByRecursion MayBeInitial fs
