-- What a datagram does that comes (RFC 9000, sections 10.2, 12.2, 12.3 and 12.4).
use Rattle.std.specs.Prelude.{◌≡◌, ℕ, ◌==◌, Bool, true, false, ◌||◌, MatchBool, List, [], ◌∷◌, length, Option, Some, None}
use Rattle.qh_base.specs.TransportFault.{IsFault}
use Rattle.std.specs.List.{AllByRecursion, list_any}
use Rattle.std.specs.Option.{option_map}
use Rattle.qh_base.specs.declared.connection_error.ConnectionError.{ConnectionError}
use Rattle.qh_base.specs.declared.connection_error.ConnectionError.TheVariants.{TransportError as Fault, LocallyClosed}
use Rattle.qh_base.specs.declared.connection_error.ConnectionClose.{ConnectionClose}
use Rattle.qh_base.specs.declared.time.Moment.{Moment}
use Rattle.qh_base.specs.declared.transport_error.TransportError.{TransportError}
use Rattle.qh_core.specs.Inner.{is_open, counted}
use Rattle.qh_core.specs.Timers.{restarted, later, three_probes}
use Rattle.qh_core.specs.declared.event.ConnectionEvent.{ConnectionEvent}
use Rattle.qh_core.specs.declared.event.ConnectionEvent.TheVariants.{Datagram, Close}
use Rattle.qh_core.specs.declared.inner.Inner.{Inner}
use Rattle.qh_core.specs.declared.state.Close.{Close as CloseReason}
use Rattle.qh_core.specs.declared.state.Close.TheVariants.{Connection, Application}
use Rattle.qh_core.specs.declared.state.State.TheVariants.{Closed, Draining, Drained}
use Rattle.qh_frame.specs.FrameAt.{Begins}
use Rattle.qh_frame.specs.Plain.{plain_of}
use Rattle.qh_frame.specs.Range.{IsInRange}
use Rattle.qh_frame.specs.TypeOf.{HasType, named}
use Rattle.qh_frame.specs.declared.frame.Frame.{Frame}
use Rattle.qh_packet.specs.Frames.{AreValidFrames, IsFaultyFrame}
use Rattle.qh_packet.specs.Packet.{IsOpened}
use Rattle.qh_recovery.specs.Accepted.{IsNew, IsNextOf, Remembers}
use Rattle.qh_recovery.specs.PendingAcks.{IsJoined}
use Rattle.qh_space.specs.Receiving.{IsFrameTaken, frame_refusal}
use Rattle.qh_space.specs.declared.data_space.DataSpace.{DataSpace}
use Rattle.qh_spec.specs.Datagram.{HasPacket}
use Rattle.qh_spec.specs.Codes as codes
use Rattle.qh_spec.specs.FrameTypes as frame_types
use Rattle.qh_spec.specs.Link.{other}
use Rattle.qh_spec.specs.QuicFrames.{QuicFrame, AreQuicFrames}
use Rattle.qh_spec.specs.declared.sides.Side.{Side}
use Rattle.qh_spec.specs.declared.sides.Space.{Space}
use Rattle.qh_spec.specs.declared.sides.Space.TheVariants.{Data}
use Rattle.qh_streams.specs.Streams.{IsRefusal}
use Rattle.qh_streams.specs.declared.fault.StreamFault.TheVariants.{Transport}

-- ---- packet numbers (sections 12.3 and 17.1)

-- it is one more than the greatest number that was accepted, 0 where none was
abbrev pub IsExpectedOf : DataSpace → ℕ → Type 0
IsExpectedOf s expected = (accepted : List ℕ) → Remembers accepted s.dedup → IsNextOf accepted expected

-- the number is to be taken: it never came, and isn't more than 128 below the greatest that was accepted
abbrev pub IsNewTo : DataSpace → ℕ → Type 0
IsNewTo s number = (accepted : List ℕ) → Remembers accepted s.dedup → IsNew accepted number

abbrev pub IsOldTo : DataSpace → ℕ → Type 0
IsOldTo s number = (accepted : List ℕ) → Remembers accepted s.dedup → IsNew accepted number → ⊥

-- the packet with the number is accepted, and to be acknowledged at once where it wants that (section 13.2.1)
pub record IsAccepted (number : ℕ) (is_eliciting : Bool) (old new : DataSpace) : Type 0 where
  pub remembers : (accepted : List ℕ) → Remembers accepted old.dedup → Remembers (number ∷ accepted) new.dedup
  pub bound : ℕ
  pub joined : IsJoined old.acks.ranges new.acks.ranges number bound
  pub due : new.acks.is_due ≡ (old.acks.is_due || is_eliciting)
  pub rest_is : new ≡ record old { dedup = new.dedup; acks = new.acks }

-- ---- the frames of a packet (section 12.4)

-- The frames that the bytes are, one after another, and those of them that are taken. Where one closes, or is refused, those
-- behind it aren't taken: the error says which. One that is refused is named by the type with which its bytes begin.
pub data AreFramesTaken (now : ℕ) : (bytes : List ℕ) → (old new : DataSpace) → (taken : List Frame) → Option ConnectionError → Type 0 where
  none : (s : DataSpace) → AreFramesTaken now [] s s [] None
  more : (bytes rest : List ℕ) (frame : Frame) (old mid new : DataSpace) (taken : List Frame) (end : Option ConnectionError) → Begins bytes (plain_of frame) rest
      → frame_refusal old frame ≡ None → IsFrameTaken now old mid frame None → AreFramesTaken now rest mid new taken end
      → AreFramesTaken now bytes old new (frame ∷ taken) end
  closed : (bytes rest : List ℕ) (frame : Frame) (old new : DataSpace) (e : ConnectionError) → Begins bytes (plain_of frame) rest
      → frame_refusal old frame ≡ None → IsFrameTaken now old new frame (Some e) → AreFramesTaken now bytes old new (frame ∷ []) (Some e)
  refused : (bytes rest : List ℕ) (frame : Frame) (s : DataSpace) (e : TransportError) → Begins bytes (plain_of frame) rest
      → HasType bytes frame → IsRefusal (Transport e) (frame_refusal s frame) → AreFramesTaken now bytes s s [] (Some (Fault e))

-- The bytes begin with a frame that isn't refused; or they do behind frames that were taken, none of which closed.
pub data StopsUnrefused (now : ℕ) : (bytes : List ℕ) → DataSpace → Type 0 where
  here : (bytes rest : List ℕ) (frame : Frame) (s : DataSpace) → Begins bytes (plain_of frame) rest → frame_refusal s frame ≡ None → StopsUnrefused now bytes s
  behind : (bytes rest : List ℕ) (frame : Frame) (old mid : DataSpace) → Begins bytes (plain_of frame) rest → frame_refusal old frame ≡ None
      → IsFrameTaken now old mid frame None → StopsUnrefused now rest mid → StopsUnrefused now bytes old

-- a CONNECTION_CLOSE (section 19.19)
abbrev pub is_close : QuicFrame → Bool
is_close f = f.kind == frame_types.connection_close || f.kind == frame_types.application_close

-- ---- the end of a connection (section 10.2)

-- a close of the transport says the error
pub record IsCloseOf (e : TransportError) (reason : CloseReason) : Type 0 where
  pub close : ConnectionClose
  pub reason_is : reason ≡ Connection close
  pub code_is : close.code ≡ e.code
  pub frame_is : close.frame ≡ e.frame
  pub text_is : close.reason ≡ e.reason

module _ {S : Type 0} where
  -- this end closes, and tells the peer; it is drained after three probe timeouts (section 10.2.1)
  pub record IsClosedWith (now : Moment) (reason : CloseReason) (error : ConnectionError) (old new : Inner S) : Type 0 where
    pub until : Moment
    pub until_is : until.0 ≡ later now.0 (three_probes old.space.rtt)
    pub rest_is : new ≡ record old { state = Closed reason true until; error = Some error }

  -- this end found a fault
  pub record IsFaulted (now : Moment) (e : TransportError) (old new : Inner S) : Type 0 where
    pub reason : CloseReason
    pub says : IsCloseOf e reason
    pub closed : IsClosedWith now reason (Fault e) old new

  -- the peer closed; this end is drained after three probe timeouts (section 10.2.2)
  pub record IsDrainingFrom (now : Moment) (error : ConnectionError) (old new : Inner S) : Type 0 where
    pub until : Moment
    pub until_is : until.0 ≡ later now.0 (three_probes old.space.rtt)
    pub rest_is : new ≡ record old { state = Draining until; error = Some error }

  -- how the connection goes on behind the frames of a packet
  abbrev pub GoesOnWith : (now : Moment) → Option ConnectionError → (old new : Inner S) → Type 0
  GoesOnWith now None old new = new ≡ old
  GoesOnWith now (Some (Fault e)) old new = IsFaulted now e old new
  GoesOnWith now (Some error) old new = IsDrainingFrom now error old new

  -- ---- datagrams

  -- the datagram is a 1-RTT packet for this end, by its form and its tag, with this number and these frames
  pub record IsOpenedBy (accepts : Side → Space → ℕ → List ℕ → Bool) (c : Inner S) (datagram : List ℕ) (number : ℕ) (frames : List ℕ) : Type 0 where
    pub expected : ℕ
    pub is_expected : IsExpectedOf c.space expected
    pub is : IsOpened accepts (length c.local_id) (other c.side) expected datagram number frames

  -- the datagram has a 1-RTT packet of the peer's with this number and these frames
  abbrev pub HasContent : Inner S → (datagram : List ℕ) → (number : ℕ) → (frames : List QuicFrame) → Type 0
  HasContent c datagram number frames = HasPacket (length c.local_id) (record { space = Data; sender = other c.side; number = number; frames = frames }) datagram

  -- so has each that is opened, where its bytes are frames
  abbrev pub HasWhatOpens : (accepts : Side → Space → ℕ → List ℕ → Bool) → Inner S → (datagram : List ℕ) → Type 0
  HasWhatOpens accepts c datagram = (number : ℕ) (bytes : List ℕ) (frames : List QuicFrame) → IsOpenedBy accepts c datagram number bytes → AreQuicFrames bytes frames → HasContent c datagram number frames

  -- a packet is taken whose number is new
  pub record IsPacketTaken (now : Moment) (number : ℕ) (frames : List ℕ) (old new : Inner S) : Type 0 where
    pub is_eliciting : Bool
    pub surveyed : AreValidFrames frames is_eliciting
    pub mid : DataSpace
    pub accepted : IsAccepted number is_eliciting old.space mid
    pub space : DataSpace
    pub taken : List Frame
    pub end : Option ConnectionError
    pub are_taken : AreFramesTaken now.0 frames mid space taken end
    pub goes_on : GoesOnWith now end (record old { space = space; idle = restarted now old.idle }) new

  -- What a packet does whose tag was accepted: nothing where its number isn't new; a packet without a frame, or with bytes that
  -- are no frame, is a fault (sections 12.4 and 20.1), and no frame of it is taken. Nor is one taken where memory is wanting to note
  -- the number: then a fault of its first frame closes all the same.
  pub data IsPacketHandled (now : Moment) (number : ℕ) (frames : List ℕ) (old new : Inner S) : Type 0 where
    repeated : IsOldTo old.space number → new ≡ old → IsPacketHandled now number frames old new
    empty : (e : TransportError) → IsNewTo old.space number → frames ≡ [] → IsFault codes.protocol_violation None e → IsFaulted now e old new → IsPacketHandled now number frames old new
    faulty : (e : TransportError) (kind : Option ℕ) → IsNewTo old.space number → IsFaultyFrame frames kind → IsFault codes.frame_encoding_error (option_map named kind) e → IsFaulted now e old new → IsPacketHandled now number frames old new
    unnoted : (e : TransportError) (is_eliciting : Bool) → IsNewTo old.space number → AreValidFrames frames is_eliciting → AreFramesTaken now.0 frames old.space old.space [] (Some (Fault e)) → IsFaulted now e old new → IsPacketHandled now number frames old new
    taken : IsNewTo old.space number → IsPacketTaken now number frames old new → IsPacketHandled now number frames old new

  -- Memory is wanting for a packet whose tag was accepted: its number is new, its bytes are frames, and none of those that were read is
  -- refused, nor the one at which memory is wanting.
  pub record IsPacketUnread (now : Moment) (number : ℕ) (frames : List ℕ) (old : Inner S) : Type 0 where
    pub is_new : IsNewTo old.space number
    pub is_eliciting : Bool
    pub surveyed : AreValidFrames frames is_eliciting
    pub mid : DataSpace
    pub mid_is : mid ≡ record old.space { dedup = mid.dedup; acks = mid.acks }
    pub stops : StopsUnrefused now.0 frames mid

  -- memory is wanting for a datagram: the connection is open, and the datagram is a packet for it
  pub record IsDatagramUnread (accepts : Side → Space → ℕ → List ℕ → Bool) (now : Moment) (datagram : List ℕ) (old : Inner S) : Type 0 where
    pub opened : is_open old.state ≡ true
    pub number : ℕ
    pub frames : List ℕ
    pub is : IsOpenedBy accepts old datagram number frames
    pub unread : IsPacketUnread now number frames old

  -- the datagram is a packet that closes: it has a CONNECTION_CLOSE, and all its frames can be read, with values in range
  pub record BringsClose (accepts : Side → Space → ℕ → List ℕ → Bool) (c : Inner S) (datagram : List ℕ) : Type 0 where
    pub number : ℕ
    pub bytes : List ℕ
    pub opened : IsOpenedBy accepts c datagram number bytes
    pub frames : List QuicFrame
    pub are : AreQuicFrames bytes frames
    pub in_range : AllByRecursion IsInRange frames
    pub closes : list_any is_close frames ≡ true

  -- The datagram brings a packet that is accepted, with these frames, which are taken up to one that closes or is refused.
  pub record BringsPacket (accepts : Side → Space → ℕ → List ℕ → Bool) (now : Moment) (datagram frames : List ℕ) (old new : Inner S) : Type 0 where
    pub opened : is_open old.state ≡ true
    pub number : ℕ
    pub is : IsOpenedBy accepts old datagram number frames
    pub is_new : IsNewTo old.space number
    pub taken : IsPacketTaken now number frames old new

  -- What a datagram does. One that isn't a packet for this end, by its form and its tag, is dropped. An end that closed tells so
  -- again, until the peer says that it closed too; an end that is drained, or that the peer closed, takes nothing.
  pub data IsDatagramTaken (accepts : Side → Space → ℕ → List ℕ → Bool) (now : Moment) (datagram : List ℕ) (old new : Inner S) : Type 0 where
    dropped : is_open old.state ≡ true → ((number : ℕ) (frames : List ℕ) → IsOpenedBy accepts old datagram number frames → ⊥) → new ≡ old → IsDatagramTaken accepts now datagram old new
    handled : (number : ℕ) (frames : List ℕ) → is_open old.state ≡ true → IsOpenedBy accepts old datagram number frames → IsPacketHandled now number frames old new
        → IsDatagramTaken accepts now datagram old new
    told_again : (reason : CloseReason) (is_due : Bool) (until : Moment) → old.state ≡ Closed reason is_due until → (BringsClose accepts old datagram → ⊥)
        → new ≡ record old { state = Closed reason true until } → IsDatagramTaken accepts now datagram old new
    closed_too : (reason : CloseReason) (is_due : Bool) (until : Moment) → old.state ≡ Closed reason is_due until → BringsClose accepts old datagram
        → new ≡ record old { state = Draining until } → IsDatagramTaken accepts now datagram old new
    draining : (until : Moment) → old.state ≡ Draining until → new ≡ old → IsDatagramTaken accepts now datagram old new
    drained : old.state ≡ Drained → new ≡ old → IsDatagramTaken accepts now datagram old new

  -- A datagram came, and brings the peer's close or doesn't, to an end that isn't open. An end that closed tells so again, until the
  -- peer says that it closed too; an end that is drained, or that the peer closed, takes nothing.
  pub data IsClosedHeard (brings_close : Bool) (old new : Inner S) : Type 0 where
    told_again : (reason : CloseReason) (is_due : Bool) (until : Moment) → old.state ≡ Closed reason is_due until → brings_close ≡ false
        → new ≡ record old { state = Closed reason true until } → IsClosedHeard brings_close old new
    closed_too : (reason : CloseReason) (is_due : Bool) (until : Moment) → old.state ≡ Closed reason is_due until → brings_close ≡ true
        → new ≡ record old { state = Draining until } → IsClosedHeard brings_close old new
    draining : (until : Moment) → old.state ≡ Draining until → new ≡ old → IsClosedHeard brings_close old new
    drained : old.state ≡ Drained → new ≡ old → IsClosedHeard brings_close old new

  -- a datagram of so many bytes that came is counted
  abbrev pub counted_in : (size : ℕ) → Inner S → Inner S
  counted_in size c = record c { udp_rx = counted size c.udp_rx }

  abbrev pub received : ConnectionEvent → Inner S → Inner S
  received (Datagram now remote payload) c = counted_in (length payload) c
  received (Close now code reason) c = c

  -- what is handed in from outside: a datagram, or the application closes, where the connection isn't closed yet
  abbrev pub IsEventTaken : (accepts : Side → Space → ℕ → List ℕ → Bool) → ConnectionEvent → (old new : Inner S) → Type 0
  IsEventTaken accepts (Datagram now remote payload) old new = IsDatagramTaken accepts now payload (received (Datagram now remote payload) old) new
  IsEventTaken accepts (Close now code reason) old new =
      MatchBool (is_open old.state) (IsClosedWith now (Application (record { error_code = code; reason = reason })) LocallyClosed old new) (new ≡ old)

  -- memory is wanting for what is handed in: for a datagram, and for no close
  abbrev pub IsWantingFor : (accepts : Side → Space → ℕ → List ℕ → Bool) → ConnectionEvent → (old : Inner S) → Type 0
  IsWantingFor accepts (Datagram now remote payload) old = IsDatagramUnread accepts now payload (received (Datagram now remote payload) old)
  IsWantingFor accepts (Close now code reason) old = ⊥

-- when it is handed in
abbrev pub handed_at : ConnectionEvent → Moment
handed_at (Datagram now remote payload) = now
handed_at (Close now code reason) = now
