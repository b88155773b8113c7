-- Frames of QUIC (RFC 9000, section 19). So far the STREAM frame (section 19.8) alone.
use Rattle.std.specs.Prelude.{◌≡◌, ℕ, ◌+◌, ◌/◌, ◌%◌, Bool, ◌==◌, MatchBool, List, [], ◌∷◌, ◌++◌, length, if◌then◌else◌}
use Rattle.qh_spec.specs.FrameTypes.{IsStreamType}
use Rattle.qh_spec.specs.Varint.{IsVarint, varint}

-- bytes of a stream at their offset, and whether the stream ends with them
pub record StreamFrame : Type 0 where
  pub id : ℕ
  pub offset : ℕ
  pub payload : List ℕ
  pub fin : Bool

abbrev pub has_bit : ℕ → ℕ → Bool
has_bit bit kind = (kind / bit) % 2 == 1

-- The bytes begin with the frame, in any of its forms, and go on with the rest: a type from 08 to 0f, the stream's id,
-- the offset where the type has the bit 04, the length where it has 02, and else all the bytes that are left; the
-- stream ends where the type has 01.
pub record IsStreamFrame (bytes : List ℕ) (f : StreamFrame) (rest : List ℕ) : Type 0 where
  pub kind : ℕ
  pub kind_bytes : List ℕ
  pub id_bytes : List ℕ
  pub offset_bytes : List ℕ
  pub length_bytes : List ℕ
  pub whole : bytes ≡ kind_bytes ++ (id_bytes ++ (offset_bytes ++ (length_bytes ++ (f.payload ++ rest))))
  pub kind_is : IsVarint kind_bytes kind
  pub is_stream : IsStreamType kind
  pub id_is : IsVarint id_bytes f.id
  pub offset_is : MatchBool (has_bit 4 kind) (IsVarint offset_bytes f.offset) ((offset_bytes ≡ []) × (f.offset ≡ 0))
  pub length_is : MatchBool (has_bit 2 kind) (IsVarint length_bytes (length f.payload)) ((length_bytes ≡ []) × (rest ≡ []))
  pub fin_is : f.fin ≡ has_bit 1 kind

-- the type that is written: with a length always, and with an offset where it isn't 0
abbrev pub stream_kind : StreamFrame → ℕ
stream_kind f = 10 + (if f.offset == 0 then 0 else 4) + (if f.fin then 1 else 0)

-- the form that is written
abbrev pub stream_frame : StreamFrame → List ℕ
stream_frame f =
    stream_kind f ∷ (varint f.id ++ ((if f.offset == 0 then [] else varint f.offset) ++ (varint (length f.payload) ++ f.payload)))
