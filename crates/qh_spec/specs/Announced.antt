-- The limits that an end announces to its peer, in its hello and in MAX frames (RFC 9000, sections 4.1, 4.6 and 19.9 to 19.11).
use Rattle.std.specs.Prelude.{◌≡◌, ℕ, ◌%◌, ◌≤◌, ◌==◌, List, [], ◌∷◌, if◌then◌else◌}
use Rattle.qh_spec.specs.FrameTypes as frame_types
use Rattle.qh_spec.specs.Greeted.{HasFrameOf, AreAnnouncedFirst}
use Rattle.qh_spec.specs.Hello.{FirstLimits}
use Rattle.qh_spec.specs.QuicFrame.{has_bit}
use Rattle.qh_spec.specs.QuicFrames.{QuicFrame, Num}
use Rattle.qh_spec.specs.StreamId.{side_bit}
use Rattle.qh_spec.specs.declared.sides.Dir.{Dir}
use Rattle.qh_spec.specs.declared.sides.Dir.TheVariants.{Bi, Uni}
use Rattle.qh_spec.specs.declared.sides.Side.{Side}
use Rattle.qh_spec.specs.declared.sides.Space.TheVariants.{Data}

-- what a limit is on (RFC 9000, sections 4.1 and 4.6)
pub data Limit : Type 0 where
  -- the bytes of all streams
  Connection : Limit
  -- the bytes of the stream with this id
  Stream : (id : ℕ) → Limit
  -- the count of streams of this direction
  Count : (dir : Dir) → Limit

-- The first limit on a stream, of whoever says these limits: on a one-way stream, on a two-way stream that it opens itself, on one
-- that its peer opens. The bit 02 of an id is set in those of one-way streams, and the bit 01 in those that a server opens (RFC 9000,
-- sections 2.1 and 18.2).
abbrev pub first_stream_limit : Side → FirstLimits → (id : ℕ) → ℕ
first_stream_limit side l id = if has_bit 2 id then l.uni else if id % 2 == side_bit side then l.bidi_local else l.bidi_remote

-- the first limit of whoever says these limits (RFC 9000, section 18.2)
abbrev pub first_limit : Side → FirstLimits → Limit → ℕ
first_limit side l Connection = l.max_data
first_limit side l (Stream id) = first_stream_limit side l id
first_limit side l (Count Bi) = l.max_bidi
first_limit side l (Count Uni) = l.max_uni

-- the frame that gives a limit a value: MAX_DATA, MAX_STREAM_DATA, MAX_STREAMS (RFC 9000, sections 19.9 to 19.11)
abbrev pub limit_frame : Limit → (value : ℕ) → QuicFrame
limit_frame Connection value = record { kind = frame_types.max_data; values = Num value ∷ [] }
limit_frame (Stream id) value = record { kind = frame_types.max_stream_data; values = Num id ∷ Num value ∷ [] }
limit_frame (Count Bi) value = record { kind = frame_types.max_streams_bidi; values = Num value ∷ [] }
limit_frame (Count Uni) value = record { kind = frame_types.max_streams_uni; values = Num value ∷ [] }

-- the datagrams, whose receiver's ids have this length, carry this value of the sender's limit: in its hello, or in a frame
pub data Announces (id_length : ℕ) (datagrams : List (List ℕ)) (sender : Side) (limit : Limit) (value : ℕ) : Type 0 where
  first : (l : FirstLimits) → AreAnnouncedFirst id_length datagrams sender l → value ≡ first_limit sender l limit → Announces id_length datagrams sender limit value
  later : HasFrameOf id_length datagrams sender Data (limit_frame limit value) → Announces id_length datagrams sender limit value

-- The value that is announced is the greatest of these: a limit never falls (RFC 9000, sections 4.1 and 4.6).
pub record IsAnnounced (id_length : ℕ) (datagrams : List (List ℕ)) (sender : Side) (limit : Limit) (value : ℕ) : Type 0 where
  pub announces : Announces id_length datagrams sender limit value
  pub greatest : (other : ℕ) → Announces id_length datagrams sender limit other → other ≤ value

-- of the bytes of all streams, of the bytes of a stream, of the count of streams of a direction
abbrev pub IsAnnouncedForConnection : (id_length : ℕ) → (datagrams : List (List ℕ)) → (sender : Side) → (value : ℕ) → Type 0
IsAnnouncedForConnection id_length datagrams sender value = IsAnnounced id_length datagrams sender Connection value

abbrev pub IsAnnouncedForStream : (id_length : ℕ) → (datagrams : List (List ℕ)) → (sender : Side) → (id value : ℕ) → Type 0
IsAnnouncedForStream id_length datagrams sender id value = IsAnnounced id_length datagrams sender (Stream id) value

abbrev pub IsAnnouncedForCount : (id_length : ℕ) → (datagrams : List (List ℕ)) → (sender : Side) → (dir : Dir) → (value : ℕ) → Type 0
IsAnnouncedForCount id_length datagrams sender dir value = IsAnnounced id_length datagrams sender (Count dir) value

-- an announced value permits this much: so does the greatest, if there is one (RFC 9000, sections 4.1 and 4.6)
pub record IsPermitted (id_length : ℕ) (datagrams : List (List ℕ)) (sender : Side) (limit : Limit) (amount : ℕ) : Type 0 where
  pub value : ℕ
  pub announces : Announces id_length datagrams sender limit value
  pub within : amount ≤ value
