-- A limit that is known of the peer is its first one, or a packet that was accepted has the MAX frame that gives it (RFC 9000, sections
-- 4.1, 4.6 and 19.9 to 19.11).
use Rattle.std.specs.Prelude.{◌≡◌, ◌⊎◌, ℕ, ◌^◌, min, true, List, Some}
use Rattle.qh_arrival.specs.Said.{began_with, max_data_frame, max_stream_data_frame, max_streams_frame}
use Rattle.qh_core.specs.Inner.{is_open}
use Rattle.qh_core.specs.declared.inner.Inner.{Inner}
use Rattle.qh_frame.specs.Plain.{by_dir}
use Rattle.qh_half.specs.Send.{PlainSend}
use Rattle.qh_halves.specs.SendHalves.{send_at}
use Rattle.qh_owing.specs.Owing.{AreAccepted, numbers_of}
use Rattle.qh_packet.specs.Session.{AcceptsTag}
use Rattle.qh_recovery.specs.Accepted.{Remembers}
use Rattle.qh_spec.specs.Datagram.{Packet}
use Rattle.qh_spec.specs.Link.{other}
use Rattle.qh_spec.specs.Lists.{In}
use Rattle.qh_spec.specs.QuicFrames.{QuicFrame}
use Rattle.qh_spec.specs.Transcript.{Act, handed_in}
use Rattle.qh_spec.specs.declared.sides.Dir.{Dir}
use Rattle.qh_streams.specs.Streams.{counts_of, first_limit, is_two_way}

-- one of the packets has the frame
pub record IsHeardIn (accepted : List Packet) (f : QuicFrame) : Type 0 where
  pub packet : Packet
  pub among : In packet accepted
  pub frame_among : In f packet.frames

module _ {S : Type 0} where
  -- each limit that is known of the peer is its first one, which of a count is at most 2^60, or one of these packets has the frame
  -- that gives just it
  pub record LimitsAreHeard (c : Inner S) (accepted : List Packet) : Type 0 where
    pub shared : (c.space.streams.send.max_data ≡ c.config.peer.max_data) ⊎ IsHeardIn accepted (max_data_frame c.space.streams.send.max_data)
    pub counts : (dir : Dir) → ((counts_of c.space.streams (is_two_way dir)).max_opened ≡ min (by_dir dir c.config.peer.max_bidi c.config.peer.max_uni) (2 ^ 60))
        ⊎ IsHeardIn accepted (max_streams_frame dir (counts_of c.space.streams (is_two_way dir)).max_opened)
    pub streams : (stream : ℕ) (half : PlainSend) → send_at c.space.streams.send stream ≡ Some half
        → (half.max_data ≡ first_limit (began_with c) stream) ⊎ IsHeardIn accepted (max_stream_data_frame stream half.max_data)

  -- it does so by the packets that it accepted of the datagrams that were handed in
  pub record Hears (accepts : AcceptsTag) (c : Inner S) (t : List Act) : Type 0 where
    pub accepted : List Packet
    pub are : AreAccepted accepts c.local_id (other c.side) (handed_in t) accepted
    pub remembers : Remembers (numbers_of accepted) c.space.dedup
    pub limits : LimitsAreHeard c accepted
    pub side : c.space.streams.side ≡ c.side
    pub peer : c.space.streams.peer ≡ c.config.peer

-- so an end stands to all that was done with it, while it is open
unfoldable pub HasHeard : {S : Type 0} → AcceptsTag → Inner S → List Act → Type 0
HasHeard accepts c t = is_open c.state ≡ true → Hears accepts c t
