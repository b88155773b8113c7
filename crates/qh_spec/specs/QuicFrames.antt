-- Frames of QUIC (RFC 9000, section 19, and RFC 9221) by the fields that each type has.
use Rattle.std.specs.Prelude.{◌≡◌, ℕ, ◌+◌, ◌*◌, ◌<◌, Bool, ◌==◌, List, [], ◌∷◌, ◌++◌, length, Option, Some, None, if◌then◌else◌}
use Rattle.qh_spec.specs.FrameTypes as frame_types
use Rattle.qh_spec.specs.QuicFrame.{has_bit}
use Rattle.qh_spec.specs.Varint.{IsVarint}

-- what a field is made of (the notation of RFC 9000, section 1.3)
pub data Part : Type 0 where
  -- a number in any form
  Number : Part
  -- this many bytes
  Fixed : (n : ℕ) → Part
  -- their count as a number, and the bytes
  Counted : Part
  -- their count as one byte, and the bytes
  ShortCounted : Part
  -- all bytes that are left
  Left : Part
  -- a count n, and 1 + 2 * n numbers: the ranges of an ACK
  Ranges : Part

-- what stands in a field (own)
pub data Value : Type 0 where
  Num : (n : ℕ) → Value
  Text : (bytes : List ℕ) → Value
  Nums : (ns : List ℕ) → Value

-- a frame: its type, and its fields in order (RFC 9000, section 12.4)
pub record QuicFrame : Type 0 where
  pub kind : ℕ
  pub values : List Value

-- the fields of a STREAM frame, by the two bits of its type (RFC 9000, section 19.8)
abbrev pub stream_shape : Bool → Bool → List Part
stream_shape with_offset with_length =
    Number ∷ ((if with_offset then Number ∷ [] else []) ++ (if with_length then Counted ∷ [] else Left ∷ []))

-- the fields of each type, in order (RFC 9000, sections 19.1 to 19.20; RFC 9221, section 4)
unfoldable pub shape_of : ℕ → Option (List Part)
shape_of kind =
    if kind == frame_types.padding then Some []
    else if kind == frame_types.ping then Some []
    else if kind == frame_types.ack then Some (Number ∷ Number ∷ Ranges ∷ [])  -- greatest, delay, ranges
    else if kind == frame_types.ack_ecn then Some (Number ∷ Number ∷ Ranges ∷ Number ∷ Number ∷ Number ∷ [])  -- greatest, delay, ranges, and the counts of ECN marks
    else if kind == frame_types.reset_stream then Some (Number ∷ Number ∷ Number ∷ [])  -- id, code, final size
    else if kind == frame_types.stop_sending then Some (Number ∷ Number ∷ [])  -- id, code
    else if kind == frame_types.crypto then Some (Number ∷ Counted ∷ [])  -- offset, bytes
    else if kind == frame_types.new_token then Some (Counted ∷ [])  -- token
    else if frame_types.is_stream_type kind then Some (stream_shape (has_bit 4 kind) (has_bit 2 kind))  -- id, offset, bytes
    else if kind == frame_types.max_data then Some (Number ∷ [])  -- limit
    else if kind == frame_types.max_stream_data then Some (Number ∷ Number ∷ [])  -- id, limit
    else if kind == frame_types.max_streams_bidi then Some (Number ∷ [])  -- count
    else if kind == frame_types.max_streams_uni then Some (Number ∷ [])  -- count
    else if kind == frame_types.data_blocked then Some (Number ∷ [])  -- limit
    else if kind == frame_types.stream_data_blocked then Some (Number ∷ Number ∷ [])  -- id, limit
    else if kind == frame_types.streams_blocked_bidi then Some (Number ∷ [])  -- count
    else if kind == frame_types.streams_blocked_uni then Some (Number ∷ [])  -- count
    else if kind == frame_types.new_connection_id then Some (Number ∷ Number ∷ ShortCounted ∷ Fixed 16 ∷ [])  -- sequence, retire prior to, id, token
    else if kind == frame_types.retire_connection_id then Some (Number ∷ [])  -- sequence
    else if kind == frame_types.path_challenge then Some (Fixed 8 ∷ [])
    else if kind == frame_types.path_response then Some (Fixed 8 ∷ [])
    else if kind == frame_types.connection_close then Some (Number ∷ Number ∷ Counted ∷ [])  -- code, type, reason
    else if kind == frame_types.application_close then Some (Number ∷ Counted ∷ [])  -- code, reason
    else if kind == frame_types.handshake_done then Some []
    else if kind == frame_types.datagram then Some (Left ∷ [])
    else if kind == frame_types.datagram_with_length then Some (Counted ∷ [])
    else None

-- the bytes begin with the number and go on with the rest (RFC 9000, section 16)
abbrev pub IsNumber : List ℕ → ℕ → List ℕ → Type 0
IsNumber bytes n rest = (front : List ℕ) × (bytes ≡ front ++ rest) × IsVarint front n

-- the same of several numbers
abbrev pub AreNumbers : List ℕ → List ℕ → List ℕ → Type 0
AreNumbers bytes [] rest = bytes ≡ rest
AreNumbers bytes (n ∷ ns) rest = (mid : List ℕ) × IsNumber bytes n mid × AreNumbers mid ns rest

-- the same of a value of each kind of field
abbrev pub IsValue : Part → List ℕ → Value → List ℕ → Type 0
IsValue Number bytes (Num n) rest = IsNumber bytes n rest
IsValue (Fixed n) bytes (Text t) rest = (bytes ≡ t ++ rest) × (length t ≡ n)
IsValue Counted bytes (Text t) rest = (mid : List ℕ) × IsNumber bytes (length t) mid × (mid ≡ t ++ rest)
IsValue ShortCounted bytes (Text t) rest = (bytes ≡ length t ∷ (t ++ rest)) × (length t < 256)
IsValue Left bytes (Text t) rest = (bytes ≡ t) × (rest ≡ [])
IsValue Ranges bytes (Nums ns) rest = (n : ℕ) × (mid : List ℕ) × IsNumber bytes n mid × AreNumbers mid ns rest × (length ns ≡ 1 + 2 * n)
IsValue _ _ _ _ = ⊥

-- the same of several values
abbrev pub AreValues : List Part → List ℕ → List Value → List ℕ → Type 0
AreValues [] bytes [] rest = bytes ≡ rest
AreValues (p ∷ ps) bytes (v ∷ vs) rest = (mid : List ℕ) × IsValue p bytes v mid × AreValues ps mid vs rest
AreValues _ _ _ _ = ⊥

-- the bytes begin with the frame, its type in any form, and go on with the rest (RFC 9000, section 12.4)
pub record IsQuicFrame (bytes : List ℕ) (f : QuicFrame) (rest : List ℕ) : Type 0 where
  pub fields : List ℕ
  pub shape : List Part
  pub kind : IsNumber bytes f.kind fields
  pub shaped : shape_of f.kind ≡ Some shape
  pub values : AreValues shape fields f.values rest

-- the bytes of a packet's payload are these frames (RFC 9000, section 12.4)
abbrev pub AreQuicFrames : List ℕ → List QuicFrame → Type 0
AreQuicFrames bytes [] = bytes ≡ []
AreQuicFrames bytes (f ∷ fs) = (rest : List ℕ) × IsQuicFrame bytes f rest × AreQuicFrames rest fs
