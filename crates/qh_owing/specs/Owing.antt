-- What a connection owes to its peer: how its space of application data stands to the bytes and ends that were written and that no
-- accepted ACK covers, by the datagrams that went both ways (RFC 9000, sections 2.2 and 13.3).
use Rattle.std.specs.Prelude.{◌≡◌, ◌⊎◌, ℕ, ◌+◌, ◌<◌, ◌≤◌, Bool, true, false, List, [], ◌∷◌, ◌++◌, length, map, Option, Some, None}
use Rattle.qh_buffers.specs.SendBuffer.{taken_to, mark_at, is_queued}
use Rattle.qh_buffers.specs.declared.send_buffer.Mark.TheVariants.{Acked, Sent}
use Rattle.qh_core.specs.Inner.{is_open}
use Rattle.qh_core.specs.declared.inner.Inner.{Inner}
use Rattle.qh_half.specs.Send.{PlainSend, IsSentAsTaken, is_reset, is_finished, is_end_acked, is_end_queued}
use Rattle.qh_half.specs.declared.send.Outgoing.{Outgoing}
use Rattle.qh_half.specs.declared.send.SendState.TheVariants.{DataSent, ResetSent}
use Rattle.qh_halves.specs.SendHalves.{send_at}
use Rattle.qh_packet.specs.Packet.{IsOpened}
use Rattle.qh_packet.specs.Session.{AcceptsTag}
use Rattle.qh_recovery.specs.Accepted.{IsNew, IsNextOf, Remembers}
use Rattle.qh_recovery.specs.SentPackets.{packet_at, IsNext}
use Rattle.qh_recovery.specs.declared.sent_packets.SentPacket.{SentPacket}
use Rattle.qh_space.specs.declared.data_space.DataSpace.{DataSpace}
use Rattle.qh_spec.specs.Carried.{HasNumberedRun, IsAcknowledged, IsEndOwed, IsOwed}
use Rattle.qh_spec.specs.Datagram.{Packet, HasPacket}
use Rattle.qh_spec.specs.Link.{other}
use Rattle.qh_spec.specs.Lists.{In, Distinct}
use Rattle.qh_spec.specs.QuicFrame.{StreamFrame}
use Rattle.qh_spec.specs.QuicFrames.{AreQuicFrames}
use Rattle.qh_spec.specs.Transcript.{Act, written, finished, was_reset, handed_in, handed_out}
use Rattle.qh_spec.specs.declared.sides.Side.{Side}
use Rattle.qh_spec.specs.declared.sides.Space.TheVariants.{Data}
use Rattle.qh_streams.specs.Streams.{PlainStreams, was_opened}
use Rattle.qh_streams.specs.Tracked.{HasByte, HasEnd, HasReset}
use Rattle.qh_streams.specs.declared.frames.SentFrame.{SentFrame}
use Rattle.qh_streams.specs.declared.frames.SentFrame.TheVariants as sent_frame

-- ---- which packets an end accepted, by the datagrams

-- The end with this connection id accepted the packet: one of the datagrams is a 1-RTT packet of this sender to that id, whose tag the
-- session accepts for the packet's number, and which carries the packet's frames (RFC 9000, section 17.3.1).
pub record WasAccepted (accepts : AcceptsTag) (local_id : List ℕ) (datagrams : List (List ℕ)) (sender : Side) (packet : Packet) : Type 0 where
  pub datagram : List ℕ
  pub among : In datagram datagrams
  pub expected : ℕ
  pub bytes : List ℕ
  pub opened : IsOpened accepts (length local_id) sender expected datagram packet.number bytes
  pub are : AreQuicFrames bytes packet.frames
  pub has : HasPacket (length local_id) packet datagram
  pub space_is : packet.space ≡ Data
  pub sender_is : packet.sender ≡ sender

-- their packet numbers
abbrev pub numbers_of : List Packet → List ℕ
numbers_of packets = map (λ (p : Packet). p.number) packets

-- The packets that the end accepted while these datagrams came in this order, the last one first. A datagram brings the packet that
-- it is, if the session accepts its tag and its number is new then (RFC 9000, sections 12.2 and 12.3); one that isn't a packet for
-- the end, or whose number isn't new, brings none. Its number is read by the one that is expected next (section 17.1).
pub data AreAccepted (accepts : AcceptsTag) (local_id : List ℕ) (sender : Side) : (datagrams : List (List ℕ)) → List Packet → Type 0 where
  none : AreAccepted accepts local_id sender [] []
  taken : (datagrams : List (List ℕ)) (datagram : List ℕ) (packets : List Packet) (packet : Packet) (expected : ℕ) (bytes : List ℕ)
      → AreAccepted accepts local_id sender datagrams packets → IsNextOf (numbers_of packets) expected
      → IsOpened accepts (length local_id) sender expected datagram packet.number bytes → AreQuicFrames bytes packet.frames → packet.space ≡ Data → packet.sender ≡ sender
      → IsNew (numbers_of packets) packet.number → AreAccepted accepts local_id sender (datagrams ++ datagram ∷ []) (packet ∷ packets)
  repeated : (datagrams : List (List ℕ)) (datagram : List ℕ) (packets : List Packet) (expected number : ℕ) (bytes : List ℕ)
      → AreAccepted accepts local_id sender datagrams packets → IsNextOf (numbers_of packets) expected
      → IsOpened accepts (length local_id) sender expected datagram number bytes → (IsNew (numbers_of packets) number → ⊥) → AreAccepted accepts local_id sender (datagrams ++ datagram ∷ []) packets
  dropped : (datagrams : List (List ℕ)) (datagram : List ℕ) (packets : List Packet) (expected : ℕ)
      → AreAccepted accepts local_id sender datagrams packets → IsNextOf (numbers_of packets) expected
      → ((number : ℕ) (bytes : List ℕ) → IsOpened accepts (length local_id) sender expected datagram number bytes → ⊥) → AreAccepted accepts local_id sender (datagrams ++ datagram ∷ []) packets

-- ---- what the peer acknowledged

-- an accepted ACK covers a packet that carried the byte of the stream at this offset
pub record IsByteAcknowledged (id_length : ℕ) (sent : List (List ℕ)) (accepted : List Packet) (sender : Side) (stream offset : ℕ) : Type 0 where
  pub number : ℕ
  pub run : StreamFrame
  pub has : HasNumberedRun id_length sent sender number run
  pub stream_is : run.id ≡ stream
  pub from : run.offset ≤ offset
  pub to : offset < run.offset + length run.payload
  pub acknowledged : IsAcknowledged accepted number

-- an accepted ACK covers a packet that carried the end of the stream
pub record IsEndAcknowledged (id_length : ℕ) (sent : List (List ℕ)) (accepted : List Packet) (sender : Side) (stream : ℕ) : Type 0 where
  pub number : ℕ
  pub run : StreamFrame
  pub has : HasNumberedRun id_length sent sender number run
  pub stream_is : run.id ≡ stream
  pub fin : run.fin ≡ true
  pub acknowledged : IsAcknowledged accepted number

-- ---- one sending half

-- the half is there, and its byte at the offset doesn't count as acknowledged
abbrev pub IsByteKept : Option PlainSend → (offset : ℕ) → Type 0
IsByteKept None k = ⊥
IsByteKept (Some h) k = mark_at h.buffer k ≡ Some Acked → ⊥

-- the half is there, and its end doesn't count as acknowledged
abbrev pub IsEndKept : Option PlainSend → Type 0
IsEndKept None = ⊥
IsEndKept (Some h) = is_end_acked h.state ≡ false

-- the half took so many bytes, and nothing was sent of it but those; it was finished where the stream was, and is reset only where
-- the stream was
pub record IsSenderOf (count : ℕ) (ended reset : Bool) (h : PlainSend) : Type 0 where
  pub taken : taken_to h.buffer ≡ count
  pub sent_of : IsSentAsTaken h.buffer
  pub end : is_reset h.state ≡ false → is_finished h.state ≡ ended
  pub reset_is : is_reset h.state ≡ true → reset ≡ true

abbrev pub IsSender : (count : ℕ) → (ended reset : Bool) → Option PlainSend → Type 0
IsSender count ended reset None = Unit {0}
IsSender count ended reset (Some h) = IsSenderOf count ended reset h

-- A stream of which so many bytes were written, which was finished and reset or not, and its half: unless the stream was reset, each
-- byte is acknowledged or kept, and the end where it was finished.
pub record KeepsStream (Byte : ℕ → Type 0) (End : Type 0) (count : ℕ) (ended reset : Bool) (o : Option PlainSend) : Type 0 where
  pub half : IsSender count ended reset o
  pub bytes : reset ≡ false → (k : ℕ) → k < count → Byte k ⊎ IsByteKept o k
  pub end : reset ≡ false → ended ≡ true → End ⊎ IsEndKept o

-- ---- all streams

-- each stream keeps what isn't acknowledged; one that wasn't opened has no half, and nothing was written of it
pub record AreKept (Byte : ℕ → ℕ → Type 0) (End : ℕ → Type 0) (t : List Act) (s : PlainStreams) : Type 0 where
  pub streams : (id : ℕ) → KeepsStream (Byte id) (End id) (length (written t id)) (finished t id) (was_reset t id) (send_at s.send id)
  pub unopened : (id : ℕ) → was_opened s id ≡ false → (send_at s.send id ≡ None) × (written t id ≡ []) × (finished t id ≡ false)

-- ---- packets that are out

-- a datagram has a packet with this number that carries just the bytes and the end of a piece
pub record IsPieceCarried (id_length : ℕ) (sent : List (List ℕ)) (sender : Side) (number stream : ℕ) (piece : Outgoing) : Type 0 where
  pub run : StreamFrame
  pub has : HasNumberedRun id_length sent sender number run
  pub stream_is : run.id ≡ stream
  pub from : run.offset ≡ piece.offsets.start
  pub to : run.offset + length run.payload ≡ piece.offsets.end
  pub fin : run.fin ≡ piece.fin

-- a STREAM frame has bytes that were written, and a packet with this number that was handed out carried it
abbrev pub IsFrameCarried : (id_length : ℕ) → Side → List Act → (number : ℕ) → SentFrame → Type 0
IsFrameCarried id_length side t number (sent_frame.Stream id piece) =
    (piece.offsets.end ≤ length (written t id.0)) × IsPieceCarried id_length (handed_out t) side number id.0 piece
IsFrameCarried id_length side t number other = Unit {0}

-- each frame of a packet that is out was carried by it
abbrev pub AreOutCarried : (id_length : ℕ) → Side → List Act → List (ℕ × SentPacket SentFrame) → Type 0
AreOutCarried id_length side t packets = (number : ℕ) (q : SentPacket SentFrame) (f : SentFrame) → packet_at packets number ≡ Some q → In f q.frames.items → IsFrameCarried id_length side t number f

-- a packet that is out, with this number, has a frame that is so
pub record IsInPacket (P : SentFrame → Type 0) (packets : List (ℕ × SentPacket SentFrame)) : Type 0 where
  pub number : ℕ
  pub packet : SentPacket SentFrame
  pub is_out : packet_at packets number ≡ Some packet
  pub frame : SentFrame
  pub among : In frame packet.frames.items
  pub holds : P frame

-- Each byte, end and reset that counts as sent stands in a packet that is out, and their numbers are below the next one.
pub record AreInPackets (s : PlainStreams) (packets : List (ℕ × SentPacket SentFrame)) (next : ℕ) : Type 0 where
  pub bytes : (id n : ℕ) (h : PlainSend) → send_at s.send id ≡ Some h → is_reset h.state ≡ false → mark_at h.buffer n ≡ Some Sent → IsInPacket (HasByte id n) packets
  pub ends : (id : ℕ) (h : PlainSend) → send_at s.send id ≡ Some h → h.state ≡ DataSent Sent → IsInPacket (HasEnd id) packets
  pub resets : (id code : ℕ) (h : PlainSend) → send_at s.send id ≡ Some h → h.state ≡ ResetSent code Sent → IsInPacket (HasReset id) packets
  pub below : IsNext next packets

-- Each byte and end that was written and isn't acknowledged is kept; what counts as sent is in a packet that is out; and what is out
-- was carried by datagrams that were handed out.
pub record IsOwing (id_length : ℕ) (side : Side) (accepted : List Packet) (t : List Act) (s : DataSpace) : Type 0 where
  pub kept : AreKept (IsByteAcknowledged id_length (handed_out t) accepted side) (IsEndAcknowledged id_length (handed_out t) accepted side) t s.streams
  pub in_packets : AreInPackets s.streams s.sent s.next_number
  pub out : AreOutCarried id_length side t s.sent

-- ---- what is still to come

-- A datagram that was handed out has a packet that carried the byte, and that packet is out: it is neither acknowledged nor lost.
pub record IsByteOut (id_length : ℕ) (side : Side) (t : List Act) (s : DataSpace) (stream offset : ℕ) : Type 0 where
  pub number : ℕ
  pub packet : SentPacket SentFrame
  pub is_out : packet_at s.sent number ≡ Some packet
  pub run : StreamFrame
  pub has : HasNumberedRun id_length (handed_out t) side number run
  pub stream_is : run.id ≡ stream
  pub from : run.offset ≤ offset
  pub to : offset < run.offset + length run.payload

-- the same of the stream's end
pub record IsEndOut (id_length : ℕ) (side : Side) (t : List Act) (s : DataSpace) (stream : ℕ) : Type 0 where
  pub number : ℕ
  pub packet : SentPacket SentFrame
  pub is_out : packet_at s.sent number ≡ Some packet
  pub run : StreamFrame
  pub has : HasNumberedRun id_length (handed_out t) side number run
  pub stream_is : run.id ≡ stream
  pub fin : run.fin ≡ true

-- The stream's half is there and isn't reset, and the byte waits in it to be sent, for the first time or again, or it is out.
pub record IsByteToCome (id_length : ℕ) (side : Side) (t : List Act) (s : DataSpace) (stream offset : ℕ) : Type 0 where
  pub half : PlainSend
  pub is : send_at s.streams.send stream ≡ Some half
  pub live : is_reset half.state ≡ false
  pub waits_or_out : (is_queued half.buffer offset ≡ true) ⊎ IsByteOut id_length side t s stream offset

-- the same of the stream's end
pub record IsEndToCome (id_length : ℕ) (side : Side) (t : List Act) (s : DataSpace) (stream : ℕ) : Type 0 where
  pub half : PlainSend
  pub is : send_at s.streams.send stream ≡ Some half
  pub waits_or_out : (is_end_queued half.state ≡ true) ⊎ IsEndOut id_length side t s stream

module _ {S : Type 0} (accepts : AcceptsTag) where
  -- The connection stands so to what was done with it, where it accepted these packets: it accepted each of them, and no number twice
  -- (RFC 9000, section 12.3). While it is open they are all that it accepted, it remembers their numbers, and nothing is forgotten that
  -- they don't acknowledge.
  pub record Owing (c : Inner S) (accepted : List Packet) (t : List Act) : Type 0 where
    pub come : (p : Packet) → In p accepted → WasAccepted accepts c.local_id (handed_in t) (other c.side) p
    pub once : Distinct (numbers_of accepted)
    pub are : is_open c.state ≡ true → AreAccepted accepts c.local_id (other c.side) (handed_in t) accepted
    pub remembers : is_open c.state ≡ true → Remembers (numbers_of accepted) c.space.dedup
    pub space : is_open c.state ≡ true → IsOwing (length c.remote_id) c.side accepted t c.space

  -- Of an open connection: the packets that it accepted are those of what it was handed in, each with a tag that its session accepts and
  -- with a number that was new. Each byte and each end that is owed, since no ACK in them covers a packet that carried it, waits to be
  -- sent or is out. Packets that are out carried what their frames say.
  pub record KeepsWhatIsOwed (c : Inner S) (t : List Act) : Type 0 where
    pub accepted : List Packet
    pub are : AreAccepted accepts c.local_id (other c.side) (handed_in t) accepted
    pub come : (p : Packet) → In p accepted → WasAccepted accepts c.local_id (handed_in t) (other c.side) p
    pub once : Distinct (numbers_of accepted)
    pub bytes : (stream offset byte : ℕ) → IsOwed (length c.remote_id) (handed_out t) accepted c.side t stream offset byte → IsByteToCome (length c.remote_id) c.side t c.space stream offset
    pub ends : (stream : ℕ) → IsEndOwed (length c.remote_id) (handed_out t) accepted c.side t stream → IsEndToCome (length c.remote_id) c.side t c.space stream
    pub carried : AreOutCarried (length c.remote_id) c.side t c.space.sent

  -- All that was written on the stream, and its end, is confirmed: each byte, and the end, was carried by a packet that was handed out
  -- and that an ACK in an accepted packet covers.
  pub record IsConfirmed (c : Inner S) (t : List Act) (stream : ℕ) : Type 0 where
    pub accepted : List Packet
    pub come : (p : Packet) → In p accepted → WasAccepted accepts c.local_id (handed_in t) (other c.side) p
    pub bytes : (offset : ℕ) → offset < length (written t stream) → IsByteAcknowledged (length c.remote_id) (handed_out t) accepted c.side stream offset
    pub end : IsEndAcknowledged (length c.remote_id) (handed_out t) accepted c.side stream

-- the connection owes so what was written by then, where its session accepts these tags
unfoldable pub Owes : {S : Type 0} → AcceptsTag → Inner S → List Act → Type 0
Owes accepts c t = (accepted : List Packet) × Owing accepts c accepted t
