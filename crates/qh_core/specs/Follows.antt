-- How a connection stands to all that was done with it, and what its calls add to that.
use Rattle.std.specs.Prelude.{◌≡◌, ◌⊎◌, ℕ, ◌+◌, ◌<◌, ◌≤◌, true, List, [], ◌∷◌, ◌++◌, length, map, sum_by, take, drop, Option, Some, None, Result, Ok, Err}
use Rattle.std.specs.List.{concat}
use Rattle.qh_base.specs.declared.connection_error.ConnectionError.TheVariants.{Memory}
use Rattle.qh_base.specs.declared.memory.Memory.{Memory as OutOfMemory}
use Rattle.qh_base.specs.declared.path.Transmit.{Transmit}
use Rattle.qh_buffers.specs.declared.assembler.Chunk.{Chunk}
use Rattle.qh_core.specs.Inner.{AreOf}
use Rattle.qh_core.specs.declared.config.ConnConfig.{ConnConfig}
use Rattle.qh_core.specs.declared.control.ControlSent.{ControlSent}
use Rattle.qh_core.specs.declared.fault.TakeFault.{TakeFault}
use Rattle.qh_core.specs.declared.fault.TakeFault.TheVariants.{Readable, Read}
use Rattle.qh_core.specs.declared.event.ConnectionEvent.{ConnectionEvent}
use Rattle.qh_core.specs.declared.event.ConnectionEvent.TheVariants.{Datagram, Close}
use Rattle.qh_core.specs.declared.inner.Inner.{Inner}
use Rattle.qh_frame.specs.Plain.{plain_of}
use Rattle.qh_frame.specs.declared.frame.Frame.{Frame}
use Rattle.qh_half.specs.declared.fault.ClosedStream.{ClosedStream}
use Rattle.qh_half.specs.declared.fault.WriteFault.{WriteFault}
use Rattle.qh_half.specs.declared.send.Written.{Written}
use Rattle.qh_halves.specs.Counts.{is_bi, is_own, index_of}
use Rattle.qh_history.specs.Standing.{Stands}
use Rattle.qh_recovery.specs.Accepted.{Remembers}
use Rattle.qh_space.specs.Receiving.{coming_of}
use Rattle.qh_space.specs.declared.data_space.DataSpace.{DataSpace}
use Rattle.qh_spec.specs.Carried.{HasRun}
use Rattle.qh_spec.specs.Datagram.{Packet, HasPacket}
use Rattle.qh_spec.specs.FrameTypes as frame_types
use Rattle.qh_spec.specs.Link.{other}
use Rattle.qh_spec.specs.Lists.{In, Distinct}
use Rattle.qh_spec.specs.QuicFrame.{StreamFrame as Run}
use Rattle.qh_spec.specs.QuicFrames.{QuicFrame, Num}
use Rattle.qh_spec.specs.Transcript.{Act, HandedIn, HandedOut, Wrote, Finished, Reset, Stopped, handed_in, handed_out, written}
use Rattle.qh_spec.specs.declared.sides.Side.{Side}
use Rattle.qh_spec.specs.declared.sides.Space.TheVariants.{Data}
use Rattle.qh_streams.specs.Streams.{PlainStreams, first_limit}
use Rattle.qh_streams.specs.declared.frames.StreamFrame.{StreamFrame}
use Rattle.qh_transcript.specs.Receiving.{read_acts, reset_acts}
use Rattle.qh_transcript.specs.Within.{KeepsWithin, greatest, data_given, stream_given, count_given, first_count}

-- ---- what the calls add

-- what handle_event adds
abbrev pub event_acts : ConnectionEvent → List Act
event_acts (Datagram now remote payload) = HandedIn payload ∷ []
event_acts (Close now code reason) = []

-- what poll_transmit adds where it answers so, with the buffer before and after it: the datagram behind what was there
abbrev pub transmit_acts : List ℕ → List ℕ → Result (Option Transmit) OutOfMemory → List Act
transmit_acts before after (Ok (Some transmit)) = HandedOut (drop (length before) after) ∷ []
transmit_acts before after (Ok None) = []
transmit_acts before after (Err e) = []

-- what transmit_control adds where it answers so, likewise
abbrev pub control_acts : List ℕ → List ℕ → Result (Option ControlSent) OutOfMemory → List Act
control_acts before after (Ok (Some sent)) = HandedOut (drop (length before) after) ∷ []
control_acts before after (Ok None) = []
control_acts before after (Err e) = []

abbrev pub write_acts : (stream : ℕ) → (bytes : List ℕ) → Result ℕ WriteFault → List Act
write_acts stream bytes (Ok count) = Wrote stream (take count bytes) ∷ []
write_acts stream bytes (Err e) = []

abbrev pub write_chunks_acts : (stream : ℕ) → (chunks : List (List ℕ)) → Result Written WriteFault → List Act
write_chunks_acts stream chunks (Ok w) = Wrote stream (take w.bytes (concat chunks)) ∷ []
write_chunks_acts stream chunks (Err e) = []

abbrev pub finish_acts : {E : Type 0} → (stream : ℕ) → Result Unit E → List Act
finish_acts stream (Ok _) = Finished stream ∷ []
finish_acts stream (Err e) = []

abbrev pub reset_by_acts : {E : Type 0} → (stream code : ℕ) → Result Unit E → List Act
reset_by_acts stream code (Ok _) = Reset stream code ∷ []
reset_by_acts stream code (Err e) = []

abbrev pub stop_acts : {E : Type 0} → (stream code : ℕ) → Result Unit E → List Act
stop_acts stream code (Ok _) = Stopped stream code ∷ []
stop_acts stream code (Err e) = []

abbrev pub take_acts : (stream : ℕ) → Result (Option Chunk) TakeFault → List Act
take_acts stream (Ok o) = read_acts stream (Ok o)
take_acts stream (Err (Read fault)) = read_acts stream (Err fault)
take_acts stream (Err (Readable fault)) = []

abbrev pub received_reset_acts : (stream : ℕ) → Result (Option ℕ) ClosedStream → List Act
received_reset_acts stream (Ok code) = reset_acts stream code
received_reset_acts stream (Err e) = []

-- ---- what came in datagrams

-- one of the datagrams has a 1-RTT packet of this sender with this frame
pub record HasFrame (id_length : ℕ) (datagrams : List (List ℕ)) (sender : Side) (frame : QuicFrame) : Type 0 where
  pub datagram : List ℕ
  pub among : In datagram datagrams
  pub packet : Packet
  pub has : HasPacket id_length packet datagram
  pub space_is : packet.space ≡ Data
  pub sender_is : packet.sender ≡ sender
  pub frame_among : In frame packet.frames

-- one of them has such a frame, which speaks of streams
pub record HasComing (id_length : ℕ) (datagrams : List (List ℕ)) (sender : Side) (f : StreamFrame) : Type 0 where
  pub frame : Frame
  pub is : coming_of frame ≡ Some f
  pub has : HasFrame id_length datagrams sender (plain_of frame)

-- one of them has a 1-RTT packet of this sender with this number
pub record HasNumber (id_length : ℕ) (datagrams : List (List ℕ)) (sender : Side) (number : ℕ) : Type 0 where
  pub datagram : List ℕ
  pub among : In datagram datagrams
  pub packet : Packet
  pub has : HasPacket id_length packet datagram
  pub space_is : packet.space ≡ Data
  pub sender_is : packet.sender ≡ sender
  pub number_is : packet.number ≡ number

-- ---- the peer's limits (RFC 9000, sections 4.1, 4.5 and 4.6)

-- the run has a byte, or the end
abbrev pub HasSomething : Run → Type 0
HasSomething run = (0 < length run.payload) ⊎ (run.fin ≡ true)

-- a RESET_STREAM frame (RFC 9000, section 19.4)
abbrev pub reset_frame : (id code size : ℕ) → QuicFrame
reset_frame id code size = record { kind = frame_types.reset_stream; values = Num id ∷ Num code ∷ Num size ∷ [] }

-- A frame of the sender's in these datagrams takes a stream up to an offset: a STREAM frame that has a byte, or the end, up to the
-- end of its bytes; a RESET_STREAM frame up to its final size (RFC 9000, sections 4.1 and 4.5).
pub data Reaches (id_length : ℕ) (datagrams : List (List ℕ)) (sender : Side) : (id end : ℕ) → Type 0 where
  run : (run : Run) → HasRun id_length datagrams sender run → HasSomething run → Reaches id_length datagrams sender run.id (run.offset + length run.payload)
  reset : (id code size : ℕ) → HasFrame id_length datagrams sender (reset_frame id code size) → Reaches id_length datagrams sender id size

-- The datagram keeps within limits that the peer gave before, in frames that came, or at first. Each STREAM and RESET_STREAM frame
-- in it takes its stream no farther than the limit of that stream. Whatever such frames are taken from it and from those handed out
-- before, one of each stream, the offsets up to which they take their streams come to no more in sum than the limit of all streams.
-- Each stream of this end's that such a frame in it names is one of those that the peer permits. All this of STREAM frames that
-- have a byte, or the end, and of all RESET_STREAM frames.
pub record IsWithinLimits (own_length peer_length : ℕ) (side : Side) (config : ConnConfig) (before : List Act) (datagram : List ℕ) : Type 0 where
  pub streams : PlainStreams
  pub of : AreOf side config.peer streams
  pub given : List StreamFrame
  pub came : (f : StreamFrame) → In f given → HasComing own_length (handed_in before) (other side) f
  pub all_bytes : (ends : List (ℕ × ℕ)) → Distinct (map (λ (e : ℕ × ℕ). e.0) ends)
      → ((e : ℕ × ℕ) → In e ends → Reaches peer_length (handed_out before ++ datagram ∷ []) side e.0 e.1)
      → sum_by (λ (e : ℕ × ℕ). e.1) ends ≤ greatest data_given streams.peer.max_data given
  pub stream_bytes : (id end : ℕ) → Reaches peer_length (datagram ∷ []) side id end → end ≤ greatest (stream_given id) (first_limit streams id) given
  pub count : (id end : ℕ) → Reaches peer_length (datagram ∷ []) side id end → is_own side id ≡ true
      → index_of id < greatest (count_given (is_bi id)) (first_count streams (is_bi id)) given

module _ {S : Type 0} where
  -- The connection stands so to all that was done with it. Each run that it handed out was written and within the limits, and so
  -- was each final size; what its readers got came to it. Where want of memory ended it, its streams of before do.
  pub record Following (c : Inner S) (t : List Act) : Type 0 where
    pub space : DataSpace
    pub is_space : (c.error ≡ Some Memory) ⊎ (c.space ≡ space)
    pub of : AreOf c.side c.config.peer space.streams
    pub datagrams : space.datagram_receive ≡ c.config.datagram_receive
    pub sent : List Run
    pub came : List Run
    pub is_sent : (run : Run) → HasRun (length c.remote_id) (handed_out t) c.side run → In run sent
    pub has_come : (run : Run) → In run came → HasRun (length c.local_id) (handed_in t) (other c.side) run
    pub stands : Stands space sent came t
    pub given : List StreamFrame
    pub gave : (f : StreamFrame) → In f given → HasComing (length c.local_id) (handed_in t) (other c.side) f
    pub within : KeepsWithin space.streams given t
    pub resets : (id code size : ℕ) → HasFrame (length c.remote_id) (handed_out t) c.side (reset_frame id code size) → size ≤ length (written t id)
    pub each_within : (before after : List Act) (datagram : List ℕ) → t ≡ before ++ HandedOut datagram ∷ after
        → IsWithinLimits (length c.local_id) (length c.remote_id) c.side c.config before datagram
    pub accepted : List ℕ
    pub remembers : Remembers accepted space.dedup
    pub numbers : (n : ℕ) → In n accepted → HasNumber (length c.local_id) (handed_in t) (other c.side) n

-- the connection stands where this transcript leaves it
unfoldable pub Follows : {S : Type 0} → Inner S → List Act → Type 0
Follows c t = Following c t
