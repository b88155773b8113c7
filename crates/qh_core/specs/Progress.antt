-- What was sent and what was accepted, packet by packet, and how a connection stands to that: what arrival over a link that gives
-- datagrams in time rests on (RFC 9000, section 13.2; RFC 9002, sections 2 and 6).
use Rattle.std.specs.Prelude.{◌≡◌, ◌↔◌, ◌⊎◌, ℕ, ◌+◌, ◌-◌, ◌^◌, ◌<◌, ◌≤◌, min, max, Bool, true, List, ◌++◌, length, slice_get, Some}
use Rattle.std.specs.List.{list_any}
use Rattle.qh_base.specs.declared.time.Moment.{Moment}
use Rattle.qh_buffers.specs.Ranges.{AreApart, PlainRange, has}
use Rattle.qh_core.specs.declared.inner.Inner.{Inner}
use Rattle.qh_half.specs.Recv.{PlainRecv, bytes_read, is_queued_mark, wants_more}
use Rattle.qh_halves.specs.Limit.{is_due}
use Rattle.qh_halves.specs.RecvHalves.{data_limit, recv_at}
use Rattle.qh_halves.specs.Counts.{count_limit}
use Rattle.qh_packet.specs.Frames.{is_ack_eliciting}
use Rattle.qh_recovery.specs.SentPackets.{packet_at, bytes_in_flight}
use Rattle.qh_recovery.specs.declared.sent_packets.SentPacket.{SentPacket}
use Rattle.qh_spec.specs.Acknowledged.{Covers}
use Rattle.qh_spec.specs.Lists.{In}
use Rattle.qh_spec.specs.QuicFrames.{QuicFrame}
use Rattle.qh_streams.specs.Streams.{PlainStreams, IsIdle, counts_of, is_two_way}
use Rattle.qh_streams.specs.declared.frames.SentFrame.{SentFrame}
use Rattle.qh_streams.specs.declared.frames.SentFrame.TheVariants as sent_frame

-- a packet: its number, the moment at which it was sent or came, and its frames
pub record NumberedPacket : Type 0 where
  pub number : ℕ
  pub at : Moment
  pub frames : List QuicFrame

-- it wants an acknowledgement
abbrev pub wants_ack : NumberedPacket → Bool
wants_ack p = list_any is_ack_eliciting p.frames

-- one of the packets has an ACK that covers the number
pub record HasAckOf (packets : List NumberedPacket) (number : ℕ) : Type 0 where
  pub packet : NumberedPacket
  pub among : In packet packets
  pub frame : QuicFrame
  pub frame_among : In frame packet.frames
  pub covers : Covers frame number

-- one of the packets has the number
pub record IsAmong (number : ℕ) (packets : List NumberedPacket) : Type 0 where
  pub packet : NumberedPacket
  pub among : In packet packets
  pub number_is : packet.number ≡ number

-- Once, the numbers that had come by then, from a bound on, were 32 ranges of which no two touch: no more are kept to be
-- acknowledged, and what is below may be forgotten (RFC 9000, section 13.2.3).
pub record IsScattered (accepted : List NumberedPacket) : Type 0 where
  pub before : List NumberedPacket
  pub after : List NumberedPacket
  pub whole : accepted ≡ before ++ after
  pub bound : ℕ
  pub ranges : List PlainRange
  pub full : length ranges ≡ 32
  pub apart : AreApart 0 ranges
  pub are : (n : ℕ) → (has ranges n ≡ true) ↔ ((bound ≤ n) × IsAmong n before)

-- the ranges have just the numbers of the packets
abbrev pub AreNumbersOf : List PlainRange → List NumberedPacket → Type 0
AreNumbersOf ranges packets = (n : ℕ) → (has ranges n ≡ true) ↔ IsAmong n packets

-- a packet that is out was sent then, it wants an acknowledgement, and none came
pub record IsAwaiting (sent accepted : List NumberedPacket) (number : ℕ) (q : SentPacket SentFrame) : Type 0 where
  pub packet : NumberedPacket
  pub among : In packet sent
  pub number_is : packet.number ≡ number
  pub at_is : packet.at ≡ q.time_sent
  pub wants : wants_ack packet ≡ true
  pub unacknowledged : HasAckOf accepted number → ⊥

-- all that came and wants it is acknowledged by what was sent, unless the numbers lay in too many ranges
abbrev pub AreAllAcknowledged : (sent accepted : List NumberedPacket) → Type 0
AreAllAcknowledged sent accepted = (p : NumberedPacket) → In p accepted → wants_ack p ≡ true → HasAckOf sent p.number ⊎ IsScattered accepted

module _ {S : Type 0} where
  -- The connection stands so to the packets that it sent and accepted: their numbers rise by one; what is out waits for its
  -- acknowledgement; only numbers that were sent are acknowledged; and of each packet that came and wants it there is an ACK among
  -- what was sent, or one is due that has it. All numbers that came are kept for that, unless they lay in too many ranges.
  pub record Progress (c : Inner S) (sent accepted : List NumberedPacket) : Type 0 where
    pub next : c.space.next_number ≡ length sent
    pub numbers : (k : ℕ) (p : NumberedPacket) → slice_get sent k ≡ Some p → p.number ≡ k
    pub out : (n : ℕ) (q : SentPacket SentFrame) → packet_at c.space.sent n ≡ Some q → IsAwaiting sent accepted n q
    pub acks_below : (n : ℕ) → HasAckOf accepted n → n < length sent
    pub owes : (p : NumberedPacket) → In p accepted → wants_ack p ≡ true
        → HasAckOf sent p.number ⊎ (((c.space.acks.is_due ≡ true) × (has c.space.acks.ranges p.number ≡ true)) ⊎ IsScattered accepted)
    pub kept : IsScattered accepted ⊎ AreNumbersOf c.space.acks.ranges accepted
    pub apart : AreApart 0 c.space.acks.ranges

  -- nothing waits to be sent, of the streams, their limits and the peer's credit; or it is held, by the window, and then something
  -- ack-eliciting is out
  abbrev pub IsHeld : Inner S → Type 0
  IsHeld c = IsIdle c.space.streams ⊎ (0 < bytes_in_flight c.space.sent)

-- The limit of a stream is what its half says now: as many bytes as reads gave, and the window more, at most 2^62 - 1, and never
-- less than was announced. More bytes are wanted; and it exceeds the limit that was announced last, and then it is just those bytes
-- and the window, or the frame with that one was lost (RFC 9000, section 4.1).
pub record RisesOnStream (s : PlainStreams) (id limit : ℕ) : Type 0 where
  pub half : PlainRecv
  pub half_is : recv_at s.recv id ≡ Some half
  pub limit_is : limit ≡ max (min (2 ^ 62 - 1) (bytes_read half + s.recv.stream_window)) half.sent_max_stream_data
  pub wanted : wants_more half ≡ true
  pub rises : (is_queued_mark half.limit_mark ≡ true) ⊎ ((half.sent_max_stream_data < limit) × (limit ≡ min (2 ^ 62 - 1) (bytes_read half + s.recv.stream_window)))

-- Each limit that a MAX frame says is what it is now, and exceeds the one that was announced last, or the frame with that one was lost.
abbrev pub Rises : PlainStreams → SentFrame → Type 0
Rises s (sent_frame.MaxData limit) = (limit ≡ data_limit s.recv) × (is_due s.recv.announced limit ≡ true)
Rises s (sent_frame.MaxStreamData id limit) = RisesOnStream s id.0 limit
Rises s (sent_frame.MaxStreams dir count) = (count ≡ count_limit (counts_of s (is_two_way dir))) × (is_due (counts_of s (is_two_way dir)).announced count ≡ true)
Rises s other = Unit {0}
