-- Which datagrams a connection sends (RFC 9000, sections 8.1, 10.2.3, 12.2, 13.3 and 14).
use Rattle.std.specs.Prelude.{◌≡◌, ◌⊎◌, ℕ, ◌<◌, true, false, ◌||◌, List, [], ◌∷◌, ◌++◌, length, drop, take, map, Option, Some, None, Result, Ok, Err, if◌then◌else◌}
use Rattle.qh_base.specs.declared.connection_error.ConnectionClose.{ConnectionClose}
use Rattle.qh_base.specs.declared.memory.Memory.{Memory as OutOfMemory}
use Rattle.qh_base.specs.declared.path.Transmit.{Transmit}
use Rattle.qh_base.specs.declared.time.Moment.{Moment}
use Rattle.qh_conn.specs.Items.{streams_taken}
use Rattle.qh_conn.specs.declared.connection.Connection.{Connection}
use Rattle.qh_control.specs.Items.{logged, streamed}
use Rattle.qh_control.specs.Queue.{PlainQueue, sent_in}
use Rattle.qh_control.specs.declared.control.ControlState.{ControlState}
use Rattle.qh_control.specs.declared.items.ConnectionItem.TheVariants as item
use Rattle.qh_core.specs.Inner.{counted, is_open}
use Rattle.qh_core.specs.Sending.{BearsNoControl, IsControlKept, IsControlSent, IsDatagramMade as IsCoreMade, IsSilent as IsCoreSilent, is_close_due, without_close_due}
use Rattle.qh_core.specs.Timers.{sent_at}
use Rattle.qh_core.specs.declared.control.ControlFrame.{ControlFrame}
use Rattle.qh_core.specs.declared.control.ControlFrame.TheVariants as sending
use Rattle.qh_core.specs.declared.control.ControlSent.{ControlSent}
use Rattle.qh_core.specs.declared.inner.Inner.{Inner}
use Rattle.qh_core.specs.declared.state.Close.{Close}
use Rattle.qh_core.specs.declared.state.Close.TheVariants.{Connection as OfTransport, Application}
use Rattle.qh_core.specs.declared.state.State.TheVariants.{Closed}
use Rattle.qh_handshake.specs.Outgoing.{IsCloseKept, IsCloseMade, IsDatagramMade, IsSilent as IsSilentHandshake}
use Rattle.qh_packet.specs.Session.{SealsTag}
use Rattle.qh_spec.specs.Codes as codes
use Rattle.qh_spec.specs.Transcript.{Act, HandedOut}

-- what an Initial packet says of a close: of the application's only that it is one (section 10.2.3)
abbrev pub IsInitialClose : Close → ConnectionClose → Type 0
IsInitialClose (OfTransport close) said = said ≡ close
IsInitialClose (Application close) said = (said.code.0 ≡ codes.application_error) × (said.frame ≡ None) × (said.reason ≡ [])

-- DATAGRAM frames of the oldest payloads that are queued, one at least if there is one
pub record AreOutgoing (s : ControlState) (frames : List ControlFrame) : Type 0 where
  pub count : ℕ
  pub some : (s.datagrams.outgoing ≡ [] → ⊥) → 0 < count
  pub are : frames ≡ map (λ (payload : List ℕ). sending.Datagram payload) (take count s.datagrams.outgoing)

-- what poll_transmit adds to all that was done where it answers so, with the buffer before and after it
abbrev pub made_acts : List ℕ → List ℕ → Result (Option Transmit) OutOfMemory → List Act
made_acts before after (Ok (Some transmit)) = HandedOut (drop (length before) after) ∷ []
made_acts before after (Ok None) = []
made_acts before after (Err e) = []

-- nothing changed of the queue but for how many more frames that are out memory is there
pub record IsQueueStill (old new : PlainQueue) : Type 0 where
  pub waiting : new.waiting ≡ old.waiting
  pub sent : new.sent ≡ old.sent

module _ {S : Type 0} where
  -- a datagram of so many bytes more went out
  abbrev pub handed_on : (size : ℕ) → Connection S → Connection S
  handed_on size c = record c { udp_tx = counted size c.udp_tx }

  -- it is counted, and goes to the peer
  pub record GoesToPeer (old new : Connection S) (t : Transmit) : Type 0 where
    pub counted_is : new.udp_tx ≡ counted t.size old.udp_tx
    pub destination : t.destination ≡ old.core.addresses.remote
    pub source : t.src_ip ≡ old.core.addresses.local_ip

  -- A 1-RTT packet of an end that is connected was appended to a buffer: one of what its streams and acknowledgements have to send, or of its
  -- close; or one of the frames of its own that wait, or if none does of datagrams of the application's, which is logged behind what came to the
  -- streams by then.
  pub data IsDataTransmitted (sealed : SealsTag) (now : Moment) (old new : Connection S) (before after : List ℕ) (t : Transmit) : Type 0 where
    of_core : IsCoreMade sealed now old.core new.core before after t → BearsNoControl sealed now old.core new.core before after → IsQueueStill old.control.queue new.control.queue
        → new ≡ record old {
          core = new.core;
          control = record old.control { queue = new.control.queue };
          is_control_next = (if is_open old.core.state then true else old.is_control_next);
          udp_tx = counted t.size old.udp_tx;
        } → IsDataTransmitted sealed now old new before after t
    control : (sent : ControlSent) → IsControlSent sealed now old.core new.core before after old.control.queue.waiting sent → t ≡ sent.transmit
        → new.control.queue.waiting ≡ drop sent.count old.control.queue.waiting
        → new.control.queue.sent ≡ old.control.queue.sent ++ map (sent_in sent.number) (take sent.count old.control.queue.waiting)
        → new ≡ record old { core = new.core; control = record old.control { queue = new.control.queue }; is_control_next = false; udp_tx = counted t.size old.udp_tx }
        → IsDataTransmitted sealed now old new before after t
    datagrams : (sent : ControlSent) (frames : List ControlFrame) (core : Inner S) → old.control.queue.waiting ≡ [] → AreOutgoing old.control frames
        → IsControlSent sealed now old.core core before after frames sent → t ≡ sent.transmit → IsQueueStill old.control.queue new.control.queue
        → new ≡ record old {
          core = streams_taken old.control.log core;
          control = record old.control {
            queue = new.control.queue;
            datagrams = record { incoming = old.control.datagrams.incoming; outgoing = drop sent.count old.control.datagrams.outgoing; is_send_blocked = false };
            is_unblocked_due = old.control.datagrams.is_send_blocked || old.control.is_unblocked_due;
            log = logged old.control.log (streamed core.space.log ++ item.DatagramsSent sent.count ∷ []);
          };
          is_control_next = false;
          udp_tx = counted t.size old.udp_tx;
        } → IsDataTransmitted sealed now old new before after t

  -- no frame of its own waits, nor a datagram, or none may be sent
  pub data IsControlHeld (c : Connection S) : Type 0 where
    none : c.control.queue.waiting ≡ [] → c.control.datagrams.outgoing ≡ [] → IsControlHeld c
    waiting : (c.control.queue.waiting ≡ [] → ⊥) → IsControlKept c.core c.control.queue.waiting → IsControlHeld c
    outgoing : (frames : List ControlFrame) → c.control.queue.waiting ≡ [] → AreOutgoing c.control frames → IsControlKept c.core frames → IsControlHeld c

  -- The 1-RTT packets of an open end take turns: one of frames of its own, or of datagrams, goes next if it is its turn and one may go; and one of
  -- the others goes next behind it, if one may go.
  pub record TakesTurns (old new : Connection S) : Type 0 where
    pub own : old.is_control_next ≡ true → (new.is_control_next ≡ false) ⊎ IsControlHeld old
    pub others : old.is_control_next ≡ false → (new.is_control_next ≡ true) ⊎ IsCoreSilent old.core

  -- A datagram was appended to a buffer: an Initial packet of the handshake; before the handshake is complete one with the close that is due;
  -- a 1-RTT packet of an end that is connected.
  pub data IsTransmitted (sealed : SealsTag) (now : Moment) (old new : Connection S) (before after : List ℕ) (t : Transmit) : Type 0 where
    initial : is_open old.core.state ≡ true → (made : IsDatagramMade sealed now old.handshake new.handshake before after t.size)
        → new ≡ record old { handshake = new.handshake; core = record old.core { idle = (if made.is_eliciting then sent_at now old.core.idle else old.core.idle) }; udp_tx = new.udp_tx }
        → GoesToPeer old new t → IsTransmitted sealed now old new before after t
    close : (reason : Close) (until : Moment) (said : ConnectionClose) → old.is_connected ≡ false → old.core.state ≡ Closed reason true until → IsInitialClose reason said
        → IsCloseMade sealed said old.handshake new.handshake before after t.size
        → new ≡ record old { handshake = new.handshake; core = record old.core { state = without_close_due old.core.state }; udp_tx = new.udp_tx }
        → GoesToPeer old new t → IsTransmitted sealed now old new before after t
    data_packet : old.is_connected ≡ true → (is_open old.core.state ≡ true → TakesTurns old new) → IsDataTransmitted sealed now old new before after t → IsTransmitted sealed now old new before after t

  -- Why nothing is sent. Before the handshake is complete: its Initial space has nothing to send, or may not; or a close was told, or may not
  -- be. Of an end that is connected: the end of its 1-RTT packets has nothing to send that may be sent, and no frame of its own waits, nor a
  -- datagram, or none may be sent.
  pub data IsSilent (c : Connection S) : Type 0 where
    handshaking : c.is_connected ≡ false → is_open c.core.state ≡ true → IsSilentHandshake c.handshake → IsSilent c
    told : c.is_connected ≡ false → is_open c.core.state ≡ false → (is_close_due c.core.state ≡ false) ⊎ IsCloseKept c.handshake → IsSilent c
    connected : c.is_connected ≡ true → IsCoreSilent c.core → IsControlHeld c → IsSilent c
    closed : c.is_connected ≡ true → is_open c.core.state ≡ false → IsCoreSilent c.core → IsSilent c

  -- nothing changed but for how many more frames that are out memory is there
  pub record IsStill (old new : Connection S) : Type 0 where
    pub queue : IsQueueStill old.control.queue new.control.queue
    pub rest_is : new ≡ record old { control = record old.control { queue = new.control.queue } }
