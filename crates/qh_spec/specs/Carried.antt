-- What datagrams carry of a stream, whatever their order (own).
use Rattle.std.specs.Prelude.{◌≡◌, ◌≤◌, ◌<◌, ◌+◌, ◌-◌, ℕ, true, false, List, Some, length, slice_get}
use Rattle.qh_spec.specs.declared.sides.Side.{Side}
use Rattle.qh_spec.specs.declared.sides.Space.TheVariants.{Data}
use Rattle.qh_spec.specs.Acknowledged.{Covers}
use Rattle.qh_spec.specs.Datagram.{Packet, HasPacket}
use Rattle.qh_spec.specs.FrameViews.{stream_of}
use Rattle.qh_spec.specs.Lists.{In}
use Rattle.qh_spec.specs.QuicFrame.{StreamFrame}
use Rattle.qh_spec.specs.QuicFrames.{QuicFrame}
use Rattle.qh_spec.specs.Transcript.{Act, written, finished, was_reset}

-- one of the datagrams has a 1-RTT packet of this sender with this STREAM frame (own)
pub record HasRun (id_length : ℕ) (datagrams : List (List ℕ)) (sender : Side) (run : StreamFrame) : Type 0 where
  pub datagram : List ℕ
  pub among : In datagram datagrams
  pub packet : Packet
  pub has : HasPacket id_length packet datagram
  pub space_is : packet.space ≡ Data
  pub sender_is : packet.sender ≡ sender
  pub frame : QuicFrame
  pub frame_among : In frame packet.frames
  pub is : stream_of frame ≡ Some run

-- the datagrams carry this byte of the sender's part of the stream at this offset (own)
pub record Carries (id_length : ℕ) (datagrams : List (List ℕ)) (sender : Side) (stream offset byte : ℕ) : Type 0 where
  pub run : StreamFrame
  pub has : HasRun id_length datagrams sender run
  pub stream_is : run.id ≡ stream
  pub from : run.offset ≤ offset
  pub byte_is : slice_get run.payload (offset - run.offset) ≡ Some byte

-- the datagrams carry the end of the sender's part of the stream, at this offset (own)
pub record CarriesEnd (id_length : ℕ) (datagrams : List (List ℕ)) (sender : Side) (stream end : ℕ) : Type 0 where
  pub run : StreamFrame
  pub has : HasRun id_length datagrams sender run
  pub stream_is : run.id ≡ stream
  pub fin : run.fin ≡ true
  pub end_is : end ≡ run.offset + length run.payload

-- the same, of a packet with this number (own)
pub record HasNumberedRun (id_length : ℕ) (datagrams : List (List ℕ)) (sender : Side) (number : ℕ) (run : StreamFrame) : Type 0 where
  pub has : HasRun id_length datagrams sender run
  pub number_is : has.packet.number ≡ number

-- one of these packets, which were accepted, is a 1-RTT packet with an ACK that covers the number (RFC 9000, sections 13.1 and 19.3)
pub record IsAcknowledged (accepted : List Packet) (number : ℕ) : Type 0 where
  pub packet : Packet
  pub among : In packet accepted
  pub space_is : packet.space ≡ Data
  pub frame : QuicFrame
  pub frame_among : In frame packet.frames
  pub covers : Covers frame number

-- A byte that was written on a stream is owed until an accepted ACK covers a packet that carried it, unless the stream was
-- reset (RFC 9000, sections 2.2 and 13.3). `sent` are the datagrams that the sender sent, `accepted` the packets of the
-- other end that it accepted.
pub record IsOwed (id_length : ℕ) (sent : List (List ℕ)) (accepted : List Packet) (sender : Side) (t : List Act) (stream offset byte : ℕ) : Type 0 where
  pub was_written : slice_get (written t stream) offset ≡ Some byte
  pub not_reset : was_reset t stream ≡ false
  pub unacknowledged : (number : ℕ) (run : StreamFrame) → HasNumberedRun id_length sent sender number run → run.id ≡ stream
      → run.offset ≤ offset → offset < run.offset + length run.payload → IsAcknowledged accepted number → ⊥

-- the end of a stream that was finished is owed likewise (RFC 9000, section 13.3)
pub record IsEndOwed (id_length : ℕ) (sent : List (List ℕ)) (accepted : List Packet) (sender : Side) (t : List Act) (stream : ℕ) : Type 0 where
  pub was_finished : finished t stream ≡ true
  pub not_reset : was_reset t stream ≡ false
  pub unacknowledged : (number : ℕ) (run : StreamFrame) → HasNumberedRun id_length sent sender number run → run.id ≡ stream → run.fin ≡ true
      → IsAcknowledged accepted number → ⊥
