-- Only a Retry packet that is taken changes from which id one came.
use Rattle.std.proofs.Common.{◌≡◌, ℕ, Bool, List, Option, Some, None, is_some, refl, ap, ◌∙◌}
use Rattle.qh_base.specs.declared.connection_error.ConnectionError.{ConnectionError}
use Rattle.qh_base.specs.declared.path.Transmit.{Transmit}
use Rattle.qh_base.specs.declared.time.Moment.{Moment}
use Rattle.qh_conn.specs.Incoming.{AreIdsIssued, IsClosingHeard, IsDatagramHandled, IsShutConnected}
use Rattle.qh_conn.specs.Outgoing.{IsDataTransmitted, IsTransmitted}
use Rattle.qh_conn.specs.Telling.{IsEndpointTold, IsHandshakeTimed, IsTimedOut, IsTold}
use Rattle.qh_conn.specs.declared.connection.Connection.{Connection}
use Rattle.qh_conn.specs.declared.event.Event.{Event}
use Rattle.qh_control.specs.declared.event.EndpointEvent.{EndpointEvent}
use Rattle.qh_control.specs.declared.event.IssuedCid.{IssuedCid}
use Rattle.qh_core.specs.Inner.{is_open}
use Rattle.qh_handshake.specs.Incoming.{ArePacketsTaken, Form, IsDatagramTaken, IsHelloRead, IsInitialTaken, IsRetryFor, MayRetry, SessionView}
use Rattle.qh_handshake.specs.Moments.{IsTimedOut as IsHandshakeTimedOut}
use Rattle.qh_handshake.specs.declared.handshake.Handshake.{Handshake}
use Rattle.qh_handshake.specs.declared.initial_space.InitialSpace.{InitialSpace}
use Rattle.qh_packet.specs.Session.{AcceptsTag, SealsTag}
use Rattle.qh_peers.proofs.EndErrors.{steps_know}

read_retry : (old new : Handshake) (learned : Option (List ℕ)) (end : Option ConnectionError) → IsHelloRead old new learned end → new.retry_id ≡ old.retry_id
read_retry old new _ _ (IsHelloRead.gone _ e) = ap (λ (z : Handshake). z.retry_id) e
read_retry old new _ _ (IsHelloRead.known _ _ e) = ap (λ (z : Handshake). z.retry_id) e
read_retry old new _ _ (IsHelloRead.cut _ _ _ e) = ap (λ (z : Handshake). z.retry_id) e
read_retry old new _ _ (IsHelloRead.refused _ _ _ _ _ _ _ _ _ _ _ e) = ap (λ (z : Handshake). z.retry_id) e
read_retry old new _ _ (IsHelloRead.at_client _ _ _ _ e) = ap (λ (z : Handshake). z.retry_id) e
read_retry old new _ _ (IsHelloRead.at_server _ _ _ _ _ _ e) = ap (λ (z : Handshake). z.retry_id) e

module _ (accepts : AcceptsTag) (now : Moment) where
  initial_retry : (f : Form) (old new : Handshake) (learned : Option (List ℕ)) (end : Option ConnectionError) → IsInitialTaken accepts now f old new learned end → new.retry_id ≡ old.retry_id
  initial_retry f old new _ _ (IsInitialTaken.gone _ e) = ap (λ (z : Handshake). z.retry_id) e
  initial_retry f old new _ _ (IsInitialTaken.dropped _ _ _ e) = ap (λ (z : Handshake). z.retry_id) e
  initial_retry f old new _ _ (IsInitialTaken.ended _ _ _ _ _ _ _ _ e) = ap (λ (z : Handshake). z.retry_id) e
  initial_retry f old new _ _ (IsInitialTaken.handled _ _ _ _ learned end _ _ _ read) = read_retry _ new learned end read

  packets_retry : (bytes rest : List ℕ) (old new : Handshake) (learned : Option (List ℕ)) (end : Option ConnectionError) → ArePacketsTaken accepts now bytes rest old new learned end → new.retry_id ≡ old.retry_id
  packets_retry bytes _ old _ _ _ (ArePacketsTaken.done _ _ _) = refl
  packets_retry bytes rest old new _ end (ArePacketsTaken.more _ _ behind _ f _ mid _ first later _ _ one others) =
      packets_retry behind rest mid new later end others ∙ initial_retry f old mid first None one
  packets_retry bytes _ old new learned _ (ArePacketsTaken.ended _ _ _ f _ _ _ e _ one) = initial_retry f old new learned (Some e) one

  pub taken_retry : (d rest : List ℕ) (old new : Handshake) (retried learned : Option (List ℕ)) (end : Option ConnectionError) → ((s : InitialSpace) (source token : List ℕ) → MayRetry old s → IsRetryFor old d source token → ⊥)
      → IsDatagramTaken accepts now d old new rest retried learned end → new.retry_id ≡ old.retry_id
  taken_retry d _ old new _ _ _ none (IsDatagramTaken.retry space source token may is _) = absurd (none space source token may is)
  taken_retry d _ old new _ _ _ none (IsDatagramTaken.mismatch _ e) = ap (λ (z : Handshake). z.retry_id) e
  taken_retry d _ old new _ _ _ none (IsDatagramTaken.packets rest learned end _ _ taken) = packets_retry d rest _ new learned end taken

-- ---- a datagram

module _ {S : Type 0} where
  shut_retry : (accepts : AcceptsTag) (rest : List ℕ) (old new : Connection S) → IsShutConnected accepts rest old new → new.handshake.retry_id ≡ old.handshake.retry_id
  shut_retry accepts rest old new (IsShutConnected.brought _ e) = ap (λ (z : Connection S). z.handshake.retry_id) e
  shut_retry accepts rest old new (IsShutConnected.still _ e) = ap (λ (z : Connection S). z.handshake.retry_id) e

  closing_retry : (v : SessionView S) (now : Moment) (d : List ℕ) (old new : Connection S) → IsClosingHeard v now d old new → new.handshake.retry_id ≡ old.handshake.retry_id
  closing_retry v now d old new (IsClosingHeard.initial _ _ e) = ap (λ (z : Connection S). z.handshake.retry_id) e
  closing_retry v now d old new (IsClosingHeard.ungreeted _ _ _ e) = ap (λ (z : Connection S). z.handshake.retry_id) e
  closing_retry v now d old new (IsClosingHeard.greeted rest mid _ _ _ _ shut _ e) = ap (λ (z : Connection S). z.handshake.retry_id) e ∙ shut_retry (v.accepts old.core.session) rest _ mid shut

  pub passed_retry : (v : SessionView S) (now : Moment) (d : List ℕ) (old new : Connection S) → ((s : InitialSpace) (source token : List ℕ) → MayRetry old.handshake s → IsRetryFor old.handshake d source token → ⊥)
      → IsDatagramHandled v now d old new → new.handshake.retry_id ≡ old.handshake.retry_id
  passed_retry v now d old new none (IsDatagramHandled.closing _ heard) = closing_retry v now d _ new heard
  passed_retry v now d old new none (IsDatagramHandled.ended mid rest e _ fed _ is) =
      ap (λ (z : Connection S). z.handshake.retry_id) is ∙ ap (λ (z : Connection S). z.handshake.retry_id) fed.new_is
      ∙ taken_retry (v.accepts old.core.session) now d rest old.handshake fed.handshake fed.retried fed.learned (Some e) none fed.taken
  passed_retry v now d old new none (IsDatagramHandled.taken fed restarted met rest _ is again meets takes) =
      (steps_know (v.accepts met.core.session) now old.handshake (is_some old.handshake.peer) d rest fed restarted met new again meets takes).retry_id
      ∙ ap (λ (z : Connection S). z.handshake.retry_id) is.new_is ∙ taken_retry (v.accepts old.core.session) now d rest old.handshake is.handshake is.retried is.learned None none is.taken

-- ---- the calls of this end

pub hand_timed_retry : (now : ℕ) (up : Bool) (old new : Handshake) → IsHandshakeTimed now up old new → new.retry_id ≡ old.retry_id
hand_timed_retry now up old new (IsHandshakeTimed.lives _ (IsHandshakeTimedOut.gone _ e)) = ap (λ (z : Handshake). z.retry_id) e
hand_timed_retry now up old new (IsHandshakeTimed.lives _ (IsHandshakeTimedOut.recovery _ _ _ _ _ _ e)) = ap (λ (z : Handshake). z.retry_id) e
hand_timed_retry now up old new (IsHandshakeTimed.shut _ e) = ap (λ (z : Handshake). z.retry_id) e

module _ {S : Type 0} where
  data_retry : (sealed : SealsTag) (now : Moment) (old new : Connection S) (before after : List ℕ) (t : Transmit) → IsDataTransmitted sealed now old new before after t → new.handshake.retry_id ≡ old.handshake.retry_id
  data_retry sealed now old new before after t (IsDataTransmitted.of_core _ _ _ e) = ap (λ (z : Connection S). z.handshake.retry_id) e
  data_retry sealed now old new before after t (IsDataTransmitted.control _ _ _ _ _ e) = ap (λ (z : Connection S). z.handshake.retry_id) e
  data_retry sealed now old new before after t (IsDataTransmitted.datagrams _ _ _ _ _ _ _ _ e) = ap (λ (z : Connection S). z.handshake.retry_id) e

  pub sent_retry : (sealed : SealsTag) (now : Moment) (old new : Connection S) (before after : List ℕ) (t : Transmit) → IsTransmitted sealed now old new before after t → new.handshake.retry_id ≡ old.handshake.retry_id
  sent_retry sealed now old new before after t (IsTransmitted.initial _ made _ _) = ap (λ (z : Handshake). z.retry_id) made.new_is
  sent_retry sealed now old new before after t (IsTransmitted.close _ _ _ _ _ _ made _ _) = ap (λ (z : Handshake). z.retry_id) made.new_is
  sent_retry sealed now old new before after t (IsTransmitted.data_packet _ _ sent) = data_retry sealed now old new before after t sent

  pub timed_retry : (now : ℕ) (old new : Connection S) → IsTimedOut now old new → new.handshake.retry_id ≡ old.handshake.retry_id
  timed_retry now old new is = hand_timed_retry now (is_open old.core.state) old.handshake new.handshake is.handshake

  pub told_retry : (old new : Connection S) (event : Option Event) → IsTold old new event → new.handshake.retry_id ≡ old.handshake.retry_id
  told_retry old new _ (IsTold.handshake_data _ e) = ap (λ (z : Connection S). z.handshake.retry_id) e
  told_retry old new _ (IsTold.connected _ _ e) = ap (λ (z : Connection S). z.handshake.retry_id) e
  told_retry old new _ (IsTold.received _ _ _ e) = ap (λ (z : Connection S). z.handshake.retry_id) e
  told_retry old new _ (IsTold.unblocked _ _ _ _ e) = ap (λ (z : Connection S). z.handshake.retry_id) e
  told_retry old new _ (IsTold.of_core _ _ _ _ _ _ e) = ap (λ (z : Connection S). z.handshake.retry_id) e

  pub endpoint_retry : (old new : Connection S) (event : Option EndpointEvent) → IsEndpointTold old new event → new.handshake.retry_id ≡ old.handshake.retry_id
  endpoint_retry old new _ (IsEndpointTold.control _ _ e) = ap (λ (z : Connection S). z.handshake.retry_id) e
  endpoint_retry old new _ (IsEndpointTold.of_core _ _ _ e) = ap (λ (z : Connection S). z.handshake.retry_id) e

  pub issued_retry : (ids : List IssuedCid) (old new : Connection S) → AreIdsIssued ids old new → new.handshake.retry_id ≡ old.handshake.retry_id
  issued_retry ids old new (AreIdsIssued.announced _ e) = ap (λ (z : Connection S). z.handshake.retry_id) e
  issued_retry ids old new (AreIdsIssued.late _ e) = ap (λ (z : Connection S). z.handshake.retry_id) e
