-- What a datagram does that comes (RFC 9000, sections 5.2, 7, 10.2, 10.3.1 and 12.2).
use Rattle.std.specs.Prelude.{◌≡◌, ℕ, ◌+◌, ◌≤◌, Bool, true, false, List, [], ◌∷◌, ◌++◌, length, Option, Some, None, is_some, if◌then◌else◌}
use Rattle.qh_base.specs.declared.connection_error.ConnectionError.{ConnectionError}
use Rattle.qh_base.specs.declared.connection_error.ConnectionError.TheVariants as error
use Rattle.qh_base.specs.declared.shared.ResetToken.{ResetToken}
use Rattle.qh_base.specs.declared.time.Moment.{Moment}
use Rattle.qh_base.specs.declared.transport_error.TransportError.{TransportError}
use Rattle.qh_conn.specs.Greeting.{IsGreetedNow, connected}
use Rattle.qh_conn.specs.Items.{noted}
use Rattle.qh_conn.specs.declared.connection.Connection.{Connection}
use Rattle.qh_conn.specs.declared.event.ConnectionEvent.{ConnectionEvent}
use Rattle.qh_conn.specs.declared.event.ConnectionEvent.TheVariants as event
use Rattle.qh_conn.specs.declared.incoming.Known.{Known}
use Rattle.qh_control.specs.Control.{IsControlTaken, control_refusal, keeps, with_all_issued}
use Rattle.qh_control.specs.Queue.{AreLost}
use Rattle.qh_control.specs.declared.control.ControlState.{ControlState}
use Rattle.qh_control.specs.declared.event.IssuedCid.{IssuedCid}
use Rattle.qh_core.specs.Inner.{counted, is_open}
use Rattle.qh_core.specs.Receiving.{BringsPacket, IsClosedHeard, IsClosedWith, IsDatagramTaken as IsCoreTaken, IsDrainingFrom, IsFaulted, counted_in}
use Rattle.qh_core.specs.Timers.{restarted}
use Rattle.qh_core.specs.declared.inner.Inner.{Inner}
use Rattle.qh_core.specs.declared.state.Close.TheVariants.{Application}
use Rattle.qh_core.specs.declared.state.State.TheVariants.{Drained}
use Rattle.qh_frame.specs.FrameAt.{Begins}
use Rattle.qh_frame.specs.Plain.{plain_of}
use Rattle.qh_frame.specs.declared.frame.Frame.{Frame}
use Rattle.qh_handshake.specs.Closing.{BringsClose}
use Rattle.qh_handshake.specs.Handshake.{counted as counted_bytes, dropping}
use Rattle.qh_handshake.specs.Incoming.{IsBehind, IsDatagramTaken, IsSessionAfter, SessionView}
use Rattle.qh_handshake.specs.declared.handshake.Handshake.{Handshake}
use Rattle.qh_handshake.specs.declared.initial_space.InitialSpace.{InitialSpace}
use Rattle.qh_packet.specs.Frames.{AreValidFrames}
use Rattle.qh_packet.specs.Packet.{IsOpened}
use Rattle.qh_packet.specs.Session.{AcceptsTag}
use Rattle.qh_recovery.specs.SentPackets.{packet_at}
use Rattle.qh_spec.specs.Link.{other}
use Rattle.qh_spec.specs.Parted.{EndsWith}
use Rattle.qh_spec.specs.Transcript.{Act, HandedIn}
use Rattle.qh_streams.specs.Streams.{IsRefusal}
use Rattle.qh_streams.specs.declared.fault.StreamFault.{StreamFault}
use Rattle.qh_streams.specs.declared.fault.StreamFault.TheVariants.{Memory as Wanting, Transport}

-- ---- the frames of a packet beside those of streams and acknowledgement

-- The bytes begin with these frames, one behind another (section 12.4).
pub data BeginsWithFrames : List ℕ → List Frame → Type 0 where
  none : (bytes : List ℕ) → BeginsWithFrames bytes []
  more : (bytes rest : List ℕ) (frame : Frame) (frames : List Frame) → Begins bytes (plain_of frame) rest → BeginsWithFrames rest frames → BeginsWithFrames bytes (frame ∷ frames)

-- The frames that the end of the 1-RTT packets took are taken one after another, up to one that is refused, or for which memory is wanting:
-- the fault says which. Of one of these last ids and frames that wait may have changed.
pub data AreControlsTaken (now : Moment) : List Frame → (old new : ControlState) → Option StreamFault → Type 0 where
  none : (s : ControlState) → AreControlsTaken now [] s s None
  more : (frame : Frame) (frames : List Frame) (old mid new : ControlState) (end : Option StreamFault) → control_refusal old frame ≡ None → IsControlTaken now old mid frame
      → AreControlsTaken now frames mid new end → AreControlsTaken now (frame ∷ frames) old new end
  refused : (frame : Frame) (frames : List Frame) (s : ControlState) (e : TransportError) → IsRefusal (Transport e) (control_refusal s frame)
      → AreControlsTaken now (frame ∷ frames) s s (Some (Transport e))
  cut : (frame : Frame) (frames : List Frame) (s new : ControlState) → control_refusal s frame ≡ None → keeps frame ≡ true
      → new ≡ record s { ids = new.ids; own_ids = new.own_ids; queue = new.queue } → AreControlsTaken now (frame ∷ frames) s new (Some Wanting)

-- the datagram ends with the token, and is long enough for a stateless reset (section 10.3.1)
abbrev pub is_reset_by : Option ResetToken → (datagram : List ℕ) → Type 0
is_reset_by None datagram = ⊥
is_reset_by (Some token) datagram = (21 ≤ length datagram) × ((front : List ℕ) × (datagram ≡ front ++ token.0))

-- how many Initial packets were accepted in the space
abbrev pub accepted_in : Option InitialSpace → ℕ
accepted_in None = 0
accepted_in (Some s) = s.packets_accepted

-- so much is known of a handshake
pub record IsKnownOf (h : Handshake) (k : Known) : Type 0 where
  pub is_greeted : k.is_greeted ≡ is_some h.peer
  pub is_retried : k.is_retried ≡ is_some h.retry_id
  pub packets_accepted : k.packets_accepted ≡ accepted_in h.space

-- An Initial packet of a datagram was accepted, one by which a client was greeted, or another; or it was a Retry packet that was taken: the idle
-- time runs anew (section 10.1). `before` is the handshake before the datagram.
pub data HasHeard (before after : Handshake) : Type 0 where
  accepted : (s : InitialSpace) → after.space ≡ Some s → (s.packets_accepted ≡ accepted_in before.space → ⊥) → HasHeard before after
  greeted : after.space ≡ None → before.peer ≡ None → is_some after.peer ≡ true → HasHeard before after
  retried : before.retry_id ≡ None → is_some after.retry_id ≡ true → HasHeard before after

module _ {S : Type 0} where
  -- ---- the Initial packets

  -- The handshake took the Initial packets of a datagram, or what else it took of it, and the session learned of it; this is the rest, and
  -- the error that ends the connection, if one does.
  pub record IsFed (v : SessionView S) (now : Moment) (datagram : List ℕ) (old new : Connection S) (rest : List ℕ) (end : Option ConnectionError) : Type 0 where
    pub handshake : Handshake
    pub session : S
    pub retried : Option (List ℕ)
    pub learned : Option (List ℕ)
    pub taken : IsDatagramTaken (v.accepts old.core.session) now datagram old.handshake handshake rest retried learned end
    pub told : IsSessionAfter v old.core.session session retried learned
    pub new_is : new ≡ record old { handshake = handshake; core = record old.core { session = session } }

  -- the connection ends by the error
  abbrev pub EndsBy : Moment → ConnectionError → (old new : Inner S) → Type 0
  EndsBy now (error.TransportError e) old new = IsFaulted now e old new
  EndsBy now e old new = IsDrainingFrom now e old new

  pub data IsRestarted (now : Moment) (before : Handshake) (old new : Connection S) : Type 0 where
    heard : HasHeard before old.handshake → new ≡ record old { core = record old.core { idle = restarted now old.core.idle } } → IsRestarted now before old new
    quiet : (HasHeard before old.handshake → ⊥) → new ≡ old → IsRestarted now before old new

  -- an end that wasn't greeted yet is, if the peer's hello was read
  pub data IsMet (now : Moment) (was_greeted : Bool) (old new : Connection S) : Type 0 where
    before : was_greeted ≡ true → new ≡ old → IsMet now was_greeted old new
    not_yet : was_greeted ≡ false → old.handshake.peer ≡ None → new ≡ old → IsMet now was_greeted old new
    greeted : was_greeted ≡ false → IsGreetedNow now old new → IsMet now was_greeted old new

  -- ---- what is behind them

  -- a server is connected by the first 1-RTT packet that it accepts; what came to the streams is in the log, before what is the connection's own
  abbrev pub connected_if : Moment → (old : Connection S) → Connection S
  connected_if now c = if c.is_connected then noted [] c else connected now c

  -- A packet was accepted: the end of the 1-RTT packets took its frames, `mid` is the connection then. The frames of the connection's own are
  -- taken up to one that is refused, by which the end closes, though one behind it closed it, or was the peer's close. If the end is open
  -- then, packets go to the id that is in use, and frames that were lost wait again. If it was closed already, and memory is wanting for one
  -- of its own, none behind that is taken.
  pub data AreFramesHandled (now : Moment) (frames : List Frame) (mid new : Connection S) : Type 0 where
    taken : (control : ControlState) → AreControlsTaken now frames mid.control control None → is_open mid.core.state ≡ true
        → AreLost (λ (number : ℕ). is_some (packet_at mid.core.space.sent number)) control.queue new.control.queue
        → new ≡ record mid { core = record mid.core { remote_id = control.ids.active.id }; control = record control { queue = new.control.queue } } → AreFramesHandled now frames mid new
    ended : AreControlsTaken now frames mid.control new.control None → is_open mid.core.state ≡ false → new ≡ record mid { control = new.control } → AreFramesHandled now frames mid new
    refused : (e : TransportError) → AreControlsTaken now frames mid.control new.control (Some (Transport e)) → IsFaulted now e mid.core new.core → new ≡ record mid { core = new.core; control = new.control }
        → AreFramesHandled now frames mid new
    cut : AreControlsTaken now frames mid.control new.control (Some Wanting) → is_open mid.core.state ≡ false → new ≡ record mid { control = new.control } → AreFramesHandled now frames mid new

  -- So many of the frames with which the bytes begin are taken: each; or those before one that is refused; or, of an end that closed,
  -- those before one for which memory is wanting.
  pub data AreFramesDone (now : Moment) (frames : List Frame) (old new : Connection S) : Type 0 where
    done : AreControlsTaken now frames old.control new.control None → new.core ≡ old.core → AreFramesDone now frames old new
    refused : (e : TransportError) → AreControlsTaken now frames old.control new.control (Some (Transport e)) → IsFaulted now e old.core new.core → AreFramesDone now frames old new
    cut : AreControlsTaken now frames old.control new.control (Some Wanting) → is_open old.core.state ≡ false → new.core ≡ old.core → AreFramesDone now frames old new

  -- the rest of a datagram comes to an end that was greeted
  pub data IsRestTaken (accepts : AcceptsTag) (now : Moment) (datagram rest : List ℕ) (old new : Connection S) : Type 0 where
    nothing : rest ≡ [] → new ≡ old → IsRestTaken accepts now datagram rest old new
    ungreeted : old.handshake.peer ≡ None → new ≡ old → IsRestTaken accepts now datagram rest old new
    unheard : (core : Inner S) → is_some old.handshake.peer ≡ true → IsCoreTaken accepts now rest (counted_in (length rest) old.core) core → core.space ≡ old.core.space
        → (is_open core.state ≡ true → is_reset_by old.control.ids.active.reset_token datagram → ⊥) → new ≡ record old { core = core } → IsRestTaken accepts now datagram rest old new
    reset : (core : Inner S) → is_some old.handshake.peer ≡ true → IsCoreTaken accepts now rest (counted_in (length rest) old.core) core → is_open core.state ≡ true
        → is_reset_by old.control.ids.active.reset_token datagram → IsDrainingFrom now error.Reset core new.core → new ≡ record old { core = new.core } → IsRestTaken accepts now datagram rest old new
    accepted : (core : Inner S) (frames : List ℕ) (read : List Frame) → is_some old.handshake.peer ≡ true → (b : BringsPacket accepts now rest frames (counted_in (length rest) old.core) core)
        → BeginsWithFrames frames read → length read ≡ length b.taken.taken → AreFramesHandled now read (connected_if now (record old { core = core })) new → IsRestTaken accepts now datagram rest old new

  -- ---- a datagram

  abbrev pub counted_at : (size : ℕ) → Connection S → Connection S
  counted_at size c = record c { udp_rx = counted size c.udp_rx }

  abbrev pub heard_at : (size : ℕ) → Connection S → Inner S → Connection S
  heard_at size c core = record c { handshake = record c.handshake { bytes_received = counted_bytes (c.handshake.bytes_received + size) }; core = core }

  -- an end that closed before it was connected is connected by a 1-RTT packet of its peer's, all of whose frames can be read
  pub record BringsData (accepts : AcceptsTag) (c : Connection S) (rest : List ℕ) : Type 0 where
    pub unconnected : c.is_connected ≡ false
    pub number : ℕ
    pub frames : List ℕ
    pub opened : IsOpened accepts (length c.handshake.local_id) (other c.handshake.side) 0 rest number frames
    pub is_eliciting : Bool
    pub valid : AreValidFrames frames is_eliciting

  pub data IsShutConnected (accepts : AcceptsTag) (rest : List ℕ) (old new : Connection S) : Type 0 where
    brought : BringsData accepts old rest → new ≡ record old { handshake = record (dropping old.handshake) { is_validated = true }; is_connected = true } → IsShutConnected accepts rest old new
    still : (BringsData accepts old rest → ⊥) → new ≡ old → IsShutConnected accepts rest old new

  -- A datagram comes to an end that closed: it says so again, unless the peer closed too, in an Initial packet or a 1-RTT packet.
  pub data IsClosingHeard (v : SessionView S) (now : Moment) (datagram : List ℕ) (old new : Connection S) : Type 0 where
    initial : BringsClose (v.accepts old.core.session) old.handshake datagram → IsClosedHeard true old.core new.core → new ≡ heard_at (length datagram) old new.core → IsClosingHeard v now datagram old new
    ungreeted : (BringsClose (v.accepts old.core.session) old.handshake datagram → ⊥) → old.handshake.peer ≡ None → IsClosedHeard false old.core new.core → new ≡ heard_at (length datagram) old new.core
        → IsClosingHeard v now datagram old new
    greeted : (rest : List ℕ) (mid : Connection S) → (BringsClose (v.accepts old.core.session) old.handshake datagram → ⊥) → is_some old.handshake.peer ≡ true → EndsWith rest datagram → IsBehind rest
        → IsShutConnected (v.accepts old.core.session) rest (heard_at (length datagram) old old.core) mid
        → IsCoreTaken (v.accepts old.core.session) now rest (counted_in (length rest) mid.core) new.core → new ≡ record mid { core = new.core } → IsClosingHeard v now datagram old new

  -- what a datagram does that was counted and comes to an end that is open
  pub data IsOpenHandled (v : SessionView S) (now : Moment) (datagram : List ℕ) (old new : Connection S) : Type 0 where
    ended : (mid : Connection S) (rest : List ℕ) (e : ConnectionError) → IsFed v now datagram old mid rest (Some e) → EndsBy now e mid.core new.core → new ≡ record mid { core = new.core }
        → IsOpenHandled v now datagram old new
    taken : (fed restarted met : Connection S) (rest : List ℕ) → IsFed v now datagram old fed rest None → IsRestarted now old.handshake fed restarted
        → IsMet now (is_some old.handshake.peer) restarted met → IsRestTaken (v.accepts met.core.session) now datagram rest met new → IsOpenHandled v now datagram old new

  -- What a datagram does.
  pub data IsDatagramHandled (v : SessionView S) (now : Moment) (datagram : List ℕ) (old new : Connection S) : Type 0 where
    closing : is_open old.core.state ≡ false → IsClosingHeard v now datagram (counted_at (length datagram) old) new → IsDatagramHandled v now datagram old new
    ended : (mid : Connection S) (rest : List ℕ) (e : ConnectionError) → is_open old.core.state ≡ true → IsFed v now datagram (counted_at (length datagram) old) mid rest (Some e)
        → EndsBy now e mid.core new.core → new ≡ record mid { core = new.core } → IsDatagramHandled v now datagram old new
    taken : (fed restarted met : Connection S) (rest : List ℕ) → is_open old.core.state ≡ true → IsFed v now datagram (counted_at (length datagram) old) fed rest None
        → IsRestarted now old.handshake fed restarted → IsMet now (is_some old.handshake.peer) restarted met → IsRestTaken (v.accepts met.core.session) now datagram rest met new → IsDatagramHandled v now datagram old new

  -- ---- an event

  -- want of memory ended it: nothing is sent or taken any more
  pub record IsOver (c : Connection S) : Type 0 where
    pub state : c.core.state ≡ Drained
    pub error : c.core.error ≡ Some error.Memory
    pub handshake : c.handshake.space ≡ None
    pub datagrams : c.control.datagrams ≡ record { incoming = []; outgoing = []; is_send_blocked = false }

  -- ids that the endpoint issued are announced, unless the connection is closed
  pub data AreIdsIssued (ids : List IssuedCid) (old new : Connection S) : Type 0 where
    announced : is_open old.core.state ≡ true → new ≡ record old { control = with_all_issued old.control ids } → AreIdsIssued ids old new
    late : is_open old.core.state ≡ false → new ≡ old → AreIdsIssued ids old new

  -- the application closes, if the connection isn't closed
  pub data IsCloseCalled (now : Moment) (code : ℕ) (reason : List ℕ) (old new : Connection S) : Type 0 where
    closed : is_open old.core.state ≡ true → IsClosedWith now (Application (record { error_code = code; reason = reason })) error.LocallyClosed old.core new.core → new ≡ record old { core = new.core }
        → IsCloseCalled now code reason old new
    kept : is_open old.core.state ≡ false → new ≡ old → IsCloseCalled now code reason old new

  abbrev pub IsEventHandled : SessionView S → ConnectionEvent → (old new : Connection S) → Type 0
  IsEventHandled v (event.Datagram now remote payload) old new = IsDatagramHandled v now payload old new
  IsEventHandled v (event.NewIdentifiers ids now) old new = AreIdsIssued ids.items old new
  IsEventHandled v (event.Close now code reason) old new = IsCloseCalled now code reason old new
  IsEventHandled v event.Rebind old new = new ≡ old

-- what an event adds to all that was done
abbrev pub acts_of : ConnectionEvent → List Act
acts_of (event.Datagram now remote payload) = HandedIn payload ∷ []
acts_of other = []

-- a close and a new socket take no memory
abbrev pub takes_memory : ConnectionEvent → Bool
takes_memory (event.Close now code reason) = false
takes_memory event.Rebind = false
takes_memory other = true
