-- When something of a connection is due, and what it tells (RFC 9000, section 10.1; RFC 9002, section 6).
use Rattle.std.specs.Prelude.{◌≡◌, ℕ, ◌≤◌, Bool, true, false, [], ◌∷◌, Option, Some, is_some, MatchBool}
use Rattle.std.specs.Option.{option_map}
use Rattle.qh_conn.specs.declared.connection.Connection.{Connection}
use Rattle.qh_conn.specs.declared.event.Event.{Event}
use Rattle.qh_conn.specs.declared.event.Event.TheVariants as event
use Rattle.qh_control.specs.Queue.{AreLost}
use Rattle.qh_control.specs.declared.event.EndpointEvent.{EndpointEvent}
use Rattle.qh_control.specs.declared.event.EndpointEvent.TheVariants as endpoint_event
use Rattle.qh_core.specs.Event.{IsDrainedTold, IsPolledEvent}
use Rattle.qh_core.specs.Inner.{is_open}
use Rattle.qh_core.specs.Timers.{IsDueAt as IsCoreDueAt, IsTimedOut as IsCoreTimedOut}
use Rattle.qh_core.specs.declared.event.EndpointEvent.{EndpointEvent as CoreEndpointEvent}
use Rattle.qh_core.specs.declared.event.Event.{Event as CoreEvent}
use Rattle.qh_core.specs.declared.event.Event.TheVariants as core_event
use Rattle.qh_handshake.specs.Moments.{IsDueAt as IsHandshakeDueAt, IsTimedOut as IsHandshakeTimedOut}
use Rattle.qh_handshake.specs.declared.handshake.Handshake.{Handshake}
use Rattle.qh_recovery.specs.SentPackets.{packet_at}

-- what the handshake of an end that is open does, and of no other
pub data IsHandshakeTimed (now : ℕ) (is_open : Bool) (old new : Handshake) : Type 0 where
  lives : is_open ≡ true → IsHandshakeTimedOut now old new → IsHandshakeTimed now is_open old new
  shut : is_open ≡ false → new ≡ old → IsHandshakeTimed now is_open old new

-- an event of the end of the 1-RTT packets
abbrev pub event_of : CoreEvent → Event
event_of (core_event.ConnectionLost reason) = event.ConnectionLost reason
event_of (core_event.Stream e) = event.Stream e

module _ {S : Type 0} where
  -- ---- moments

  -- something is due then: of the end of the 1-RTT packets, with the idle time, or of the handshake of an end that is open
  pub data IsDueAt (c : Connection S) (moment : ℕ) : Type 0 where
    core : IsCoreDueAt c.core moment → IsDueAt c moment
    handshake : is_open c.core.state ≡ true → IsHandshakeDueAt c.handshake moment → IsDueAt c moment

  pub record IsFirstDue (c : Connection S) (moment : ℕ) : Type 0 where
    pub is : IsDueAt c moment
    pub first : (other : ℕ) → IsDueAt c other → moment ≤ other

  -- What is due is done, and frames that were lost by it wait again, of an end that is open then.
  pub record IsTimedOut (now : ℕ) (old new : Connection S) : Type 0 where
    pub handshake : IsHandshakeTimed now (is_open old.core.state) old.handshake new.handshake
    pub core : IsCoreTimedOut now old.core new.core
    pub lost : MatchBool (is_open new.core.state) (AreLost (λ (number : ℕ). is_some (packet_at new.core.space.sent number)) old.control.queue new.control.queue) (new.control.queue ≡ old.control.queue)
    pub rest_is : new ≡ record old { handshake = new.handshake; core = new.core; control = record old.control { queue = new.control.queue } }

  -- ---- events

  -- what is told next: first that the handshake data are there, that the handshake is complete, that a datagram can be read, that there is
  -- room for datagrams again; then what happened to streams, and that the connection is lost
  pub data IsTold (old new : Connection S) : Option Event → Type 0 where
    handshake_data : old.is_data_due ≡ true → new ≡ record old { is_data_due = false } → IsTold old new (Some event.HandshakeDataReady)
    connected : old.is_data_due ≡ false → old.is_connected_due ≡ true → new ≡ record old { is_connected_due = false } → IsTold old new (Some event.Connected)
    received : old.is_data_due ≡ false → old.is_connected_due ≡ false → old.control.is_datagram_due ≡ true → new ≡ record old { control = record old.control { is_datagram_due = false } }
        → IsTold old new (Some event.DatagramReceived)
    unblocked : old.is_data_due ≡ false → old.is_connected_due ≡ false → old.control.is_datagram_due ≡ false → old.control.is_unblocked_due ≡ true
        → new ≡ record old { control = record old.control { is_unblocked_due = false } } → IsTold old new (Some event.DatagramsUnblocked)
    of_core : (told : Option CoreEvent) → old.is_data_due ≡ false → old.is_connected_due ≡ false → old.control.is_datagram_due ≡ false → old.control.is_unblocked_due ≡ false
        → IsPolledEvent old.core new.core told → new ≡ record old { core = new.core } → IsTold old new (option_map event_of told)

  -- what the endpoint is told next: of ids and tokens, then that the connection is drained
  pub data IsEndpointTold (old new : Connection S) : Option EndpointEvent → Type 0 where
    control : (told : EndpointEvent) → old.control.endpoint_events ≡ told ∷ new.control.endpoint_events
        → new ≡ record old { control = record old.control { endpoint_events = new.control.endpoint_events } } → IsEndpointTold old new (Some told)
    of_core : (told : Option CoreEndpointEvent) → old.control.endpoint_events ≡ [] → IsDrainedTold old.core new.core told → new ≡ record old { core = new.core }
        → IsEndpointTold old new (option_map (λ _. endpoint_event.Drained) told)
