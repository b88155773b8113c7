-- A limit that counts as announced is the first one, or was said in a MAX frame that was handed out (RFC 9000, sections 4.1, 4.6 and
-- 19.9 to 19.11).
use Rattle.std.specs.Prelude.{◌≡◌, ◌⊎◌, ℕ, true, List, [], ◌∷◌, Some}
use Rattle.qh_conduct.specs.Announced.{HasSent}
use Rattle.qh_core.specs.Config.{bounded}
use Rattle.qh_core.specs.Inner.{is_open}
use Rattle.qh_core.specs.declared.inner.Inner.{Inner}
use Rattle.qh_frame.specs.Plain.{by_dir, frame}
use Rattle.qh_half.specs.Recv.{PlainRecv}
use Rattle.qh_halves.specs.RecvHalves.{recv_at}
use Rattle.qh_space.specs.Space.{first_streams}
use Rattle.qh_spec.specs.FrameTypes as frame_types
use Rattle.qh_spec.specs.QuicFrames.{QuicFrame, Num}
use Rattle.qh_spec.specs.Transcript.{Act}
use Rattle.qh_spec.specs.declared.sides.Dir.{Dir}
use Rattle.qh_streams.specs.Streams.{PlainStreams, counts_of, is_two_way}

-- the frames that say a limit
abbrev pub max_data_frame : (limit : ℕ) → QuicFrame
max_data_frame limit = frame frame_types.max_data (Num limit ∷ [])

abbrev pub max_streams_frame : Dir → (count : ℕ) → QuicFrame
max_streams_frame dir count = frame (by_dir dir frame_types.max_streams_bidi frame_types.max_streams_uni) (Num count ∷ [])

abbrev pub max_stream_data_frame : (stream limit : ℕ) → QuicFrame
max_stream_data_frame stream limit = frame frame_types.max_stream_data (Num stream ∷ Num limit ∷ [])

module _ {S : Type 0} where
  -- the streams that the end began with
  abbrev pub began_with : Inner S → PlainStreams
  began_with c = first_streams c.side c.config.limits c.config.peer

  -- each limit that counts as announced is the one that it began with, or was said
  pub record LimitsAreSaid (c : Inner S) (t : List Act) : Type 0 where
    pub shared : (c.space.streams.recv.announced.value ≡ (began_with c).recv.announced.value) ⊎ HasSent c t (max_data_frame c.space.streams.recv.announced.value)
    pub counts : (dir : Dir) → ((counts_of c.space.streams (is_two_way dir)).announced.value ≡ (counts_of (began_with c) (is_two_way dir)).announced.value)
        ⊎ HasSent c t (max_streams_frame dir (counts_of c.space.streams (is_two_way dir)).announced.value)
    pub streams : (stream : ℕ) (half : PlainRecv) → recv_at c.space.streams.recv stream ≡ Some half
        → (half.sent_max_stream_data ≡ bounded c.config.limits.stream_window) ⊎ HasSent c t (max_stream_data_frame stream half.sent_max_stream_data)

  pub record Says (c : Inner S) (t : List Act) : Type 0 where
    pub limits : LimitsAreSaid c t
    pub window : c.space.streams.recv.stream_window ≡ c.config.limits.stream_window

-- so an end stands to all that was done with it, while it is open
unfoldable pub HasSaid : {S : Type 0} → Inner S → List Act → Type 0
HasSaid c t = is_open c.state ≡ true → Says c t
