-- What memory is wanting for, and what stays of the connection that ends for it (RFC 9000, sections 7, 10, 12.2, 12.4 and 13.3). What was read
-- by then has no fault.
use Rattle.std.specs.Prelude.{◌≡◌, ◌⊎◌, ℕ, ◌<◌, true, false, List, [], ◌∷◌, ◌++◌, length, take, Option, Some, None, is_some}
use Rattle.qh_base.specs.declared.time.Moment.{Moment}
use Rattle.qh_conn.specs.Greeting.{IsBegunBy, control_greeted, no_early, with_core}
use Rattle.qh_conn.specs.Incoming.{AreControlsTaken, BeginsWithFrames, IsFed, IsMet, IsRestarted, connected_if, counted_at}
use Rattle.qh_conn.specs.Outgoing.{IsQueueStill}
use Rattle.qh_conn.specs.Telling.{IsHandshakeTimed}
use Rattle.qh_conn.specs.declared.connection.Connection.{Connection}
use Rattle.qh_conn.specs.declared.event.ConnectionEvent.{ConnectionEvent}
use Rattle.qh_conn.specs.declared.event.ConnectionEvent.TheVariants as event
use Rattle.qh_control.specs.Control.{asked_events, with_all_issued}
use Rattle.qh_control.specs.Items.{logged}
use Rattle.qh_control.specs.declared.control.ControlState.{ControlState}
use Rattle.qh_control.specs.declared.event.EndpointEvent.{EndpointEvent}
use Rattle.qh_control.specs.declared.event.IssuedCid.{IssuedCid}
use Rattle.qh_control.specs.declared.items.ConnectionItem.TheVariants as item
use Rattle.qh_converse.specs.Settled.{datagram_of}
use Rattle.qh_core.specs.Inner.{IsFailedBy, is_client, is_open}
use Rattle.qh_core.specs.Receiving.{BringsPacket, IsDatagramUnread as IsCoreUnread, counted_in}
use Rattle.qh_core.specs.Timers.{IsTimedOut as IsCoreTimedOut}
use Rattle.qh_core.specs.declared.inner.Inner.{Inner}
use Rattle.qh_frame.specs.declared.frame.Frame.{Frame}
use Rattle.qh_handshake.specs.Handshake.{dropping}
use Rattle.qh_handshake.specs.Incoming.{Learns, SessionView}
use Rattle.qh_handshake.specs.Lost.{IsLost}
use Rattle.qh_handshake.specs.Outgoing.{IsCloseUnsent, IsUnsent as IsInitialUnsent}
use Rattle.qh_hello.specs.declared.transport_parameters.TransportParameters.{TransportParameters}
use Rattle.qh_packet.specs.Session.{AcceptsTag}
use Rattle.qh_streams.specs.declared.fault.StreamFault.TheVariants.{Memory as Wanting}

-- no datagram waits any more, nor news of one
abbrev pub without_datagrams : ControlState → ControlState
without_datagrams s = record s { datagrams = record { incoming = []; outgoing = []; is_send_blocked = false }; is_datagram_due = false; is_unblocked_due = false }

module _ {S : Type 0} where
  -- ---- what stays

  -- Want of memory ended the connection, as it was then. Its Initial space isn't used any more, all that it held of its streams is dropped, and
  -- so are the datagrams that waited; nothing else changed. What was counted of packets stays.
  pub record HasFailed (old new : Connection S) : Type 0 where
    pub core : IsFailedBy old.core new.core
    pub counts : (new.core.space.packets_lost ≡ old.core.space.packets_lost) × (new.core.space.probes_sent ≡ old.core.space.probes_sent)
    pub rest_is : new ≡ record old { handshake = dropping old.handshake; core = new.core; control = without_datagrams old.control }

  -- It is the same connection still. What waited to be told to the endpoint waits still, in its order, and behind it these events, which the call
  -- added until then.
  pub record IsOverOf (told : List EndpointEvent) (old new : Connection S) : Type 0 where
    pub config : new.config ≡ old.config
    pub early : new.early ≡ old.early
    pub side : new.core.side ≡ old.core.side
    pub addresses : new.core.addresses ≡ old.core.addresses
    pub udp_tx : new.udp_tx ≡ old.udp_tx
    pub udp_rx : new.udp_rx ≡ old.udp_rx
    pub endpoint_events : new.control.endpoint_events ≡ old.control.endpoint_events ++ told
    pub lost_told : new.core.is_lost_told ≡ old.core.is_lost_told
    pub drained_told : new.core.is_drained_told ≡ old.core.is_drained_told

  -- ---- a datagram that came

  -- The handshake is complete. Memory is wanting to ask for further ids, at an end that isn't over and is to ask for some, or for the log: nothing
  -- changed.
  pub data IsCompletionCut (now : Moment) (old new : Connection S) : Type 0 where
    unasked : is_open old.core.state ≡ true → (asked_events now old.control ≡ [] → ⊥) → new ≡ old → IsCompletionCut now old new
    unlogged : is_some old.control.log ≡ true → new ≡ old → IsCompletionCut now old new

  -- The peer's hello was read, and says these parameters. Memory is wanting for what becomes of them: for the token of stateless resets that the
  -- endpoint is to learn, or for the log; for the log once the end of the 1-RTT packets began; or at a client because the handshake is complete.
  pub data IsGreetingCut (now : Moment) (peer : TransportParameters) (old new : Connection S) : Type 0 where
    untold : (is_some peer.stateless_reset_token ≡ true) ⊎ (is_some old.control.log ≡ true) → new ≡ old → IsGreetingCut now peer old new
    unlogged : is_some old.control.log ≡ true → IsBegunBy peer old.handshake no_early None old.core new.core
        → new ≡ record old {
          core = new.core;
          control = record (control_greeted old.control old.handshake.remote_id peer) { log = logged old.control.log (item.MaxDatagramSize (datagram_of peer.max_datagram_frame_size) ∷ []) };
        } → IsGreetingCut now peer old new
    incomplete : (core : Inner S) → is_client old.handshake.side ≡ true → IsBegunBy peer old.handshake old.early old.control.log old.core core → IsCompletionCut now (with_core old core peer) new
        → IsGreetingCut now peer old new

  -- Memory is wanting for what is behind the Initial packets of a datagram, of an end that was greeted: for the log, before any of it was read; for
  -- the packet, none of whose frames is refused up to that; or of an end that isn't over then, once the end of the 1-RTT packets took the packet: to
  -- ask for further ids, since it makes the handshake of a server complete; for a frame of the connection's own, which isn't refused, and none before
  -- it; or for frames that were lost, once all of the packet was taken.
  pub data IsRestUnread (accepts : AcceptsTag) (now : Moment) (rest : List ℕ) (old new : Connection S) : Type 0 where
    unlogged : is_some old.control.log ≡ true → new ≡ old → IsRestUnread accepts now rest old new
    packet : IsCoreUnread accepts now rest (counted_in (length rest) old.core) → IsFailedBy (counted_in (length rest) old.core) new.core → new ≡ record old { core = new.core }
        → IsRestUnread accepts now rest old new
    unasked : (core : Inner S) (frames : List ℕ) → BringsPacket accepts now rest frames (counted_in (length rest) old.core) core → is_open core.state ≡ true → old.is_connected ≡ false
        → (asked_events now old.control ≡ [] → ⊥) → new ≡ record old { core = core } → IsRestUnread accepts now rest old new
    frame : (core : Inner S) (frames : List ℕ) (read : List Frame) → (b : BringsPacket accepts now rest frames (counted_in (length rest) old.core) core) → BeginsWithFrames frames read
        → length read ≡ length b.taken.taken → is_open core.state ≡ true → AreControlsTaken now read (connected_if now (record old { core = core })).control new.control (Some Wanting)
        → new ≡ record (connected_if now (record old { core = core })) { control = new.control } → IsRestUnread accepts now rest old new
    lost : (core : Inner S) (frames : List ℕ) (read : List Frame) → (b : BringsPacket accepts now rest frames (counted_in (length rest) old.core) core) → BeginsWithFrames frames read
        → length read ≡ length b.taken.taken → is_open core.state ≡ true → AreControlsTaken now read (connected_if now (record old { core = core })).control new.control None
        → new ≡ record (connected_if now (record old { core = core })) {
          core = record (connected_if now (record old { core = core })).core { remote_id = new.control.ids.active.id };
          control = new.control;
        } → IsRestUnread accepts now rest old new

  -- Memory is wanting for a datagram that was counted and comes to an end that is open: in its Initial packets, or for what becomes of the peer's
  -- hello, or for what is behind them, if that is anything. The Initial packets before that have no fault, and neither has the hello.
  pub data IsUnread (v : SessionView S) (now : Moment) (datagram : List ℕ) (old new : Connection S) : Type 0 where
    initials : (learned : Option (List ℕ)) → IsLost (v.accepts old.core.session) now datagram old.handshake new.handshake learned → Learns v old.core.session new.core.session learned
        → new ≡ record old { handshake = new.handshake; core = record old.core { session = new.core.session } } → IsUnread v now datagram old new
    greeting : (fed restarted : Connection S) (rest : List ℕ) (peer : TransportParameters) → IsFed v now datagram old fed rest None → IsRestarted now old.handshake fed restarted
        → is_some old.handshake.peer ≡ false → restarted.handshake.peer ≡ Some peer → IsGreetingCut now peer restarted new → IsUnread v now datagram old new
    behind : (fed restarted met : Connection S) (rest : List ℕ) → IsFed v now datagram old fed rest None → IsRestarted now old.handshake fed restarted
        → IsMet now (is_some old.handshake.peer) restarted met → is_some met.handshake.peer ≡ true → (rest ≡ [] → ⊥) → IsRestUnread (v.accepts met.core.session) now rest met new → IsUnread v now datagram old new

  -- ---- an event

  -- of the ids that the endpoint issued those before one are announced
  pub record AreIdsCut (ids : List IssuedCid) (old new : Connection S) : Type 0 where
    pub count : ℕ
    pub fewer : count < length ids
    pub rest_is : new ≡ record old { control = with_all_issued old.control (take count ids) }

  -- memory is wanting for a datagram, or for one of the ids that the endpoint issued, and for nothing else
  abbrev pub IsEventUnread : SessionView S → ConnectionEvent → (old new : Connection S) → Type 0
  IsEventUnread v (event.Datagram now remote payload) old new = IsUnread v now payload (counted_at (length payload) old) new
  IsEventUnread v (event.NewIdentifiers ids now) old new = AreIdsCut ids.items old new
  IsEventUnread v other old new = ⊥

  -- only a datagram is counted, and adds events
  abbrev pub IsOverBy : ConnectionEvent → (old new : Connection S) → Type 0
  IsOverBy (event.Datagram now remote payload) old new = (told : List EndpointEvent) × IsOverOf told (counted_at (length payload) old) new
  IsOverBy other old new = IsOverOf [] old new

  -- ---- what is due, and what is to be sent

  -- what was due was done, and memory is wanting for frames that were lost by it
  pub record IsTimeCut (now : ℕ) (old new : Connection S) : Type 0 where
    pub handshake : IsHandshakeTimed now (is_open old.core.state) old.handshake new.handshake
    pub core : IsCoreTimedOut now old.core new.core
    pub up : is_open new.core.state ≡ true
    pub rest_is : new ≡ record old { handshake = new.handshake; core = new.core }

  -- memory is wanting for a 1-RTT packet that is to be sent
  pub record IsDataUnsent (old new : Connection S) : Type 0 where
    pub core : (new.core ≡ old.core) ⊎ IsFailedBy old.core new.core
    pub queue : IsQueueStill old.control.queue new.control.queue
    pub rest_is : new ≡ record old { core = new.core; control = record old.control { queue = new.control.queue } }

  -- memory is wanting for a datagram that is to be sent: before the handshake is complete for an Initial packet, or for one with a close
  pub data IsUnsent (now : Moment) (old new : Connection S) : Type 0 where
    initial : old.is_connected ≡ false → is_open old.core.state ≡ true → IsInitialUnsent now old.handshake new.handshake → new ≡ record old { handshake = new.handshake } → IsUnsent now old new
    close : old.is_connected ≡ false → is_open old.core.state ≡ false → IsCloseUnsent old.handshake new.handshake → new ≡ record old { handshake = new.handshake } → IsUnsent now old new
    data_packet : old.is_connected ≡ true → IsDataUnsent old new → IsUnsent now old new

  -- Want of memory for a datagram that is to be sent ends the connection, unless it was over before the handshake was complete: its close stays
  -- due then.
  abbrev pub EndsUnsent : Connection S → Type 0
  EndsUnsent c = (is_open c.core.state ≡ true) ⊎ (c.is_connected ≡ true)
