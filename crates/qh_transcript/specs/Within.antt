-- The limits of the peer (RFC 9000, sections 4.1 and 4.6), and that an end keeps within them.
use Rattle.std.specs.Prelude.{◌≡◌, ℕ, ◌+◌, ◌≤◌, ◌==◌, max, Bool, true, false, List, [], ◌∷◌, length, Some, if◌then◌else◌}
use Rattle.qh_buffers.specs.SendBuffer.{taken_to}
use Rattle.qh_half.specs.Send.{PlainSend}
use Rattle.qh_halves.specs.SendHalves.{send_at}
use Rattle.qh_spec.specs.Transcript.{Act, Wrote, written}
use Rattle.qh_streams.specs.Streams.{PlainStreams, counts_of, first_limit, is_two_way}
use Rattle.qh_streams.specs.declared.frames.StreamFrame.{StreamFrame}
use Rattle.qh_streams.specs.declared.frames.StreamFrame.TheVariants as coming

-- the limit that a frame gives on the bytes of all streams, of one stream, on the count of streams of a direction; 0 where it gives none
abbrev pub data_given : StreamFrame → ℕ
data_given (coming.MaxData limit) = limit
data_given other = 0

abbrev pub stream_given : (id : ℕ) → StreamFrame → ℕ
stream_given id (coming.MaxStreamData s limit) = if s.0 == id then limit else 0
stream_given id other = 0

abbrev pub count_given : (two_way : Bool) → StreamFrame → ℕ
count_given true (coming.MaxStreams dir count) = if is_two_way dir then count else 0
count_given false (coming.MaxStreams dir count) = if is_two_way dir then 0 else count
count_given two_way other = 0

-- the greatest of a first limit and those that frames gave
abbrev pub greatest : (StreamFrame → ℕ) → (first : ℕ) → List StreamFrame → ℕ
greatest given first [] = first
greatest given first (f ∷ fs) = max (given f) (greatest given first fs)

abbrev pub first_count : PlainStreams → (two_way : Bool) → ℕ
first_count s two_way = if two_way then s.peer.max_bidi else s.peer.max_uni

-- how many bytes were written, on all streams
abbrev pub written_length : Act → ℕ
written_length (Wrote stream bytes) = length bytes
written_length other = 0

abbrev pub written_in_all : List Act → ℕ
written_in_all [] = 0
written_in_all (a ∷ t) = written_length a + written_in_all t

-- The streams keep within the limits that these frames of the peer's gave, or that it gave at first: all that was written on a
-- stream, all that was written on all streams, and the streams that this end opened. What is sent is what was written.
pub record KeepsWithin (s : PlainStreams) (frames : List StreamFrame) (t : List Act) : Type 0 where
  pub all_bytes : written_in_all t ≤ greatest data_given s.peer.max_data frames
  pub stream_bytes : (id : ℕ) → length (written t id) ≤ greatest (stream_given id) (first_limit s id) frames
  pub count : (two_way : Bool) → (counts_of s two_way).opened ≤ greatest (count_given two_way) (first_count s two_way) frames
  -- what the streams know of the limits, and what they took, stands so to that
  pub max_data : s.send.max_data ≤ greatest data_given s.peer.max_data frames
  pub taken : s.send.data_sent ≡ written_in_all t
  pub credit : s.send.data_sent ≤ s.send.max_data
  pub halves : (id : ℕ) (h : PlainSend) → send_at s.send id ≡ Some h → (taken_to h.buffer ≡ length (written t id)) × (h.max_data ≤ greatest (stream_given id) (first_limit s id) frames)
  pub max_opened : (two_way : Bool) → (counts_of s two_way).max_opened ≤ greatest (count_given two_way) (first_count s two_way) frames
