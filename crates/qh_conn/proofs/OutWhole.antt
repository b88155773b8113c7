-- What holds of a connection at every moment holds after a datagram of it.
use Rattle.std.proofs.Common.{◌≡◌, ◌⊎◌, ℕ, Bool, true, false, List, length, Option, None, sym, ap, subst, refl, ◌∙◌, inl, inr}
use Rattle.std.specs.Prelude.{is_some}
use Rattle.qh_conn.proofs.LogKept.{current_by}
use Rattle.qh_conn.specs.Whole.{IsSound, IsWhole}
use Rattle.qh_conn.specs.declared.connection.Connection.{Connection}
use Rattle.qh_control.specs.Control.{IsSendable}
use Rattle.qh_control.specs.Queue.{AreSendable, PlainQueue}
use Rattle.qh_control.specs.declared.control.ControlState.{ControlState}
use Rattle.qh_core.specs.Inner.{IsSameEnd, is_open}
use Rattle.qh_core.specs.declared.config.ConnConfig.{ConnConfig}
use Rattle.qh_core.specs.declared.inner.Inner.{Inner}
use Rattle.qh_handshake.specs.Handshake.{IsHandshake}
use Rattle.qh_handshake.specs.declared.handshake.Handshake.{Handshake}
use Rattle.qh_hello.specs.declared.transport_parameters.TransportParameters.{TransportParameters}
use Rattle.qh_spec.specs.declared.sides.Side.{Side}

-- what waits may be sent if it might before
pub queue_sendable : (side : Side) (peer_datagram : Option ℕ) (s : ControlState) (q : PlainQueue) → AreSendable side peer_datagram q → IsSendable side peer_datagram s
    → IsSendable side peer_datagram (record s { queue = q })
queue_sendable side peer_datagram s q frames is = record { frames = frames; peer = is.peer; bounded = is.bounded; payloads = is.payloads }

pub same_queue : (side : Side) (peer_datagram : Option ℕ) (old new : PlainQueue) → new ≡ record old { room = new.room } → AreSendable side peer_datagram old → AreSendable side peer_datagram new
same_queue side peer_datagram old new is a =
    subst (λ (z : PlainQueue). AreSendable side peer_datagram z) (sym is) (record { waiting = a.waiting; sent = a.sent })

same_sendable : {S : Type 0} (s : ControlState) (old new : Inner S) → IsSameEnd old new → IsSendable old.side old.config.peer_datagram s → IsSendable new.side new.config.peer_datagram s
same_sendable s old new same is =
    subst (λ (z : Side). IsSendable z new.config.peer_datagram s) (sym same.side) (subst (λ (z : ConnConfig). IsSendable old.side z.peer_datagram s) (sym same.config) is)

-- what is open was
pub still_open : (a b : Bool) → (a ≡ false → b ≡ false) → b ≡ true → a ≡ true
still_open true b shuts up = refl
still_open false b shuts up = let z : true ≡ false = sym up ∙ shuts refl in cc

-- the connected, or the closed
kept_open : (k a b : Bool) → (a ≡ false → b ≡ false) → (k ≡ true) ⊎ (a ≡ false) → (k ≡ true) ⊎ (b ≡ false)
kept_open k a b shuts (inl e) = inl e
kept_open k a b shuts (inr e) = inr (shuts e)

module _ {S : Type 0} where
  -- after a packet of the handshake's
  pub handshake_whole : (old : Connection S) (h : Handshake) (core : Inner S) → IsWhole old → IsHandshake h → h.side ≡ old.handshake.side → h.local_id ≡ old.handshake.local_id
      → h.peer ≡ old.handshake.peer → (old.handshake.space ≡ None → h.space ≡ None) → IsSameEnd old.core core → (is_open old.core.state ≡ false → is_open core.state ≡ false)
      → core.space.log ≡ old.core.space.log → IsWhole (record old { handshake = h; core = core })
  handshake_whole old h core w whole side id peer space same shuts log = record {
    sound = record {
      handshake = whole;
      side_is = same.side ∙ w.sound.side_is ∙ sym side;
      id_is = same.local_id ∙ w.sound.id_is ∙ sym id;
      as_long = same.remote_length ∙ w.sound.as_long;
      sendable = same_sendable old.control old.core core same w.sound.sendable;
      ungreeted = λ none. ap (λ (z : ConnConfig). z.peer_datagram) same.config ∙ w.sound.ungreeted (sym peer ∙ none);
      connected = λ k. (ap (λ (o : Option TransportParameters). is_some o) peer ∙ (w.sound.connected k).0, space (w.sound.connected k).1);
    };
    current = current_by old (record old { handshake = h; core = core }) (λ on. on) peer log w.current;
    client = λ client greeted. kept_open old.is_connected (is_open old.core.state) (is_open core.state) shuts
        (w.client (sym side ∙ client) (sym (ap (λ (o : Option TransportParameters). is_some o) peer) ∙ greeted));
  }

  -- after a 1-RTT packet of an end that is connected
  pub data_sound : (old : Connection S) (core : Inner S) (control : ControlState) (next : Bool) → IsWhole old → IsSameEnd old.core core
      → IsSendable old.core.side old.core.config.peer_datagram control → control.ids.active.id ≡ old.control.ids.active.id
      → IsSound (record old { core = core; control = control; is_control_next = next })
  data_sound old core control next w same sendable ids = record {
    handshake = w.sound.handshake;
    side_is = same.side ∙ w.sound.side_is;
    id_is = same.local_id ∙ w.sound.id_is;
    as_long = same.remote_length ∙ w.sound.as_long ∙ sym (ap (λ (z : List ℕ). length z) ids);
    sendable = same_sendable control old.core core same sendable;
    ungreeted = λ none. ap (λ (z : ConnConfig). z.peer_datagram) same.config ∙ w.sound.ungreeted none;
    connected = w.sound.connected;
  }

  -- the same, if memory wasn't wanting for it
  pub data_whole : (old : Connection S) (core : Inner S) (control : ControlState) (next : Bool) → IsWhole old → old.is_connected ≡ true → IsSameEnd old.core core
      → IsSendable old.core.side old.core.config.peer_datagram control → control.ids.active.id ≡ old.control.ids.active.id
      → (is_some control.log ≡ true → is_some old.control.log ≡ true) → core.space.log ≡ old.core.space.log
      → IsWhole (record old { core = core; control = control; is_control_next = next })
  data_whole old core control next w connected same sendable ids on log = record {
    sound = data_sound old core control next w same sendable ids;
    current = current_by old (record old { core = core; control = control; is_control_next = next }) on refl log w.current;
    client = λ _ _. inl connected;
  }
