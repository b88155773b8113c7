-- An end stays one that its honest peer can greet.
use Rattle.std.proofs.Common.{◌≡◌, ℕ, Bool, true, false, List, length, Option, None, Some, is_some, refl, sym, ap, subst, ◌∙◌, inl, inr}
use Rattle.std.proofs.lemmas.Option.{none-some}
use Rattle.qh_arrival.specs.Accord.{AreTags}
use Rattle.qh_base.specs.declared.connection_error.ConnectionError.{ConnectionError}
use Rattle.qh_base.specs.declared.path.Transmit.{Transmit}
use Rattle.qh_base.specs.declared.time.Moment.{Moment}
use Rattle.qh_conn.specs.Incoming.{AreIdsIssued, IsDatagramHandled, IsMet, IsRestTaken, IsRestarted}
use Rattle.qh_conn.specs.Outgoing.{IsDataTransmitted, IsTransmitted}
use Rattle.qh_conn.specs.Telling.{IsEndpointTold, IsHandshakeTimed, IsTimedOut, IsTold}
use Rattle.qh_conn.specs.declared.connection.Connection.{Connection}
use Rattle.qh_conn.specs.declared.event.Event.{Event}
use Rattle.qh_control.specs.declared.event.EndpointEvent.{EndpointEvent}
use Rattle.qh_control.specs.declared.event.IssuedCid.{IssuedCid}
use Rattle.qh_core.specs.Inner.{is_open}
use Rattle.qh_handshake.specs.Follows.{IsFresh}
use Rattle.qh_handshake.specs.Incoming.{ArePacketsTaken, Form, IsDatagramTaken, IsHelloRead, IsInitialTaken, SessionView, knowing, received}
use Rattle.qh_handshake.specs.Incoming.ArePacketsTaken.{done, more as one_more, ended as ended_by}
use Rattle.qh_handshake.specs.Incoming.IsDatagramTaken.{retry, mismatch, packets}
use Rattle.qh_handshake.specs.Incoming.IsHelloRead.{gone as gone_before, known, cut, refused, at_client, at_server}
use Rattle.qh_handshake.specs.Incoming.IsInitialTaken.{gone, dropped, ended, handled}
use Rattle.qh_handshake.specs.Moments.{IsTimedOut as IsHandshakeTimedOut}
use Rattle.qh_handshake.specs.declared.handshake.Handshake.{Handshake}
use Rattle.qh_handshake.specs.declared.initial_space.InitialSpace.{InitialSpace}
use Rattle.qh_hello.specs.declared.transport_parameters.TransportParameters.{TransportParameters}
use Rattle.qh_packet.specs.Initial.{BeginsWithInitial}
use Rattle.qh_packet.specs.Session.{AcceptsTag, NamesTags, SealsTag}
use Rattle.qh_peers.proofs.EndErrors.{steps_know}
use Rattle.qh_peers.proofs.EndFed.{nothing_taken, short_passed}
use Rattle.qh_peers.proofs.EndFedPeers.{unended, unretried}
use Rattle.qh_peers.proofs.EndKinds.{greeted_or, kind, nothing_behind, where_out}
use Rattle.qh_peers.proofs.EndPeers.{known as known_peer}
use Rattle.qh_peers.proofs.EndSteps.{given_so}
use Rattle.qh_peers.specs.Ends.{AreTwoEnds}
use Rattle.qh_peers.specs.Greets.{CanBeGreeted}
use Rattle.qh_spec.specs.Lists.{In}
use Rattle.qh_spec.specs.Parted.{IsInitialAlone}
use Rattle.qh_spec.specs.Transcript.{Act, handed_out}

-- ---- the handshake

kept : (own new peer : Handshake) → new.knows_peer ≡ own.knows_peer → new.remote_id ≡ own.remote_id → new.peer ≡ own.peer → (is_some own.space ≡ true → is_some new.space ≡ true) → CanBeGreeted own peer → CanBeGreeted new peer
kept own new peer knows remote same space can = record { source = λ k. remote ∙ can.source (sym knows ∙ k); space = λ none. space (can.space (sym same ∙ none)) }

same_can : (own new peer : Handshake) → new ≡ own → CanBeGreeted own peer → CanBeGreeted new peer
same_can own new peer is can = subst (λ (h : Handshake). CanBeGreeted h peer) (sym is) can

pub fresh_can : (hello : List ℕ) (own peer : Handshake) → IsFresh hello own → (own.knows_peer ≡ true → own.remote_id ≡ peer.local_id) → CanBeGreeted own peer
fresh_can hello own peer fresh source = record { source = source; space = λ none. ap is_some fresh.space_is }

pub peer_can : (own peer new : Handshake) → new.local_id ≡ peer.local_id → CanBeGreeted own peer → CanBeGreeted own new
peer_can own peer new same can = record { source = λ knows. can.source knows ∙ sym same; space = can.space }

-- once a space is known by this id, what is read leaves it so
read_can : (old new peer : Handshake) (mid : InitialSpace) (learned : Option (List ℕ)) (end : Option ConnectionError) → old.space ≡ Some mid → old.remote_id ≡ peer.local_id → IsHelloRead old new learned end
    → CanBeGreeted new peer
read_can old new peer mid learned end there source (gone_before none e) = absurd (none-some mid (sym none ∙ there))
read_can old new peer mid learned end there source (known p is e) = same_can old new peer e (record { source = λ k. source; space = λ none. ap is_some there })
read_can old new peer mid learned end there source (cut s is is_cut e) = same_can old new peer e (record { source = λ k. source; space = λ none. ap is_some there })
read_can old new peer mid learned end there source (refused s front rest fault error is unread whole its has code e) = same_can old new peer e (record { source = λ k. source; space = λ none. ap is_some there })
read_can old new peer mid learned end there source (at_client name p is client e) =
    subst (λ (h : Handshake). CanBeGreeted h peer) (sym e) (record { source = λ k. source; space = λ none. absurd (none-some p (sym none)) })
read_can old new peer mid learned end there source (at_server s name p is server has e) =
    subst (λ (h : Handshake). CanBeGreeted h peer) (sym e) (record { source = λ k. source; space = λ none. refl })

initial_can : (accepts : AcceptsTag) (now : Moment) (f : Form) (old new peer : Handshake) (learned : Option (List ℕ)) (end : Option ConnectionError) → f.source ≡ peer.local_id
    → IsInitialTaken accepts now f old new learned end → CanBeGreeted old peer → CanBeGreeted new peer
initial_can accepts now f old new peer learned end source (gone none e) can = same_can old new peer e can
initial_can accepts now f old new peer learned end source (dropped space is none e) can = same_can old new peer e can
initial_can accepts now f old new peer learned end source (ended space mid number frames error is o h e) can =
    subst (λ (h : Handshake). CanBeGreeted h peer) (sym e) (record { source = λ k. source; space = λ none. refl })
initial_can accepts now f old new peer learned end source (handled space mid number frames _ _ is o h read) can = read_can (knowing old f.source mid) new peer mid learned end refl source read

-- of one Initial packet, which comes from that id
packets_can : (accepts : AcceptsTag) (now : Moment) (d rest : List ℕ) (old new peer : Handshake) (learned : Option (List ℕ)) (end : Option ConnectionError) → IsInitialAlone d
    → ((f : Form) (destination behind : List ℕ) → BeginsWithInitial d f.first destination f.source f.token f.body behind → f.source ≡ peer.local_id)
    → ArePacketsTaken accepts now d rest old new learned end → CanBeGreeted old peer → CanBeGreeted new peer
packets_can accepts now d rest old new peer learned end alone from (done _ _ none) can = can
packets_can accepts now d rest old new peer learned end alone from (one_more _ destination behind _ f _ mid _ first others _ b one later) can =
    let none = nothing_behind d b.front behind alone.first f.first alone.body f.body alone.is b.form b.whole in
    same_can mid new peer (nothing_taken accepts now behind rest mid new others end none later) (initial_can accepts now f old mid peer first None (from f destination behind b) one can)
packets_can accepts now d rest old new peer learned end alone from (ended_by _ destination behind f _ _ _ error b one) can =
    initial_can accepts now f old new peer learned (Some error) (from f destination behind b) one can

taken_can : (accepts : AcceptsTag) (now : Moment) (d rest : List ℕ) (old new peer : Handshake) (retried learned : Option (List ℕ)) (end : Option ConnectionError) → IsInitialAlone d
    → ((f : Form) (destination behind : List ℕ) → BeginsWithInitial d f.first destination f.source f.token f.body behind → f.source ≡ peer.local_id)
    → IsDatagramTaken accepts now d old new rest retried learned end → retried ≡ None → CanBeGreeted old peer → CanBeGreeted new peer
taken_can accepts now d rest old new peer retried learned end alone from (retry _ source _ _ _ _) none can = absurd (none-some source (sym none))
taken_can accepts now d rest old new peer retried learned end alone from (mismatch is e) none can = kept old new peer (ap (λ (h : Handshake). h.knows_peer) e) (ap (λ (h : Handshake). h.remote_id) e) (ap (λ (h : Handshake). h.peer) e)
    (λ some. ap (λ (h : Handshake). is_some h.space) e ∙ some) can
taken_can accepts now d rest old new peer retried learned end alone from (packets _ _ _ _ _ all) none can =
    packets_can accepts now d rest (received (length d) old) new peer learned end alone from all (record { source = can.source; space = can.space })

-- ---- the calls of this end

hand_timed_can : (now : ℕ) (up : Bool) (old new peer : Handshake) → IsHandshakeTimed now up old new → CanBeGreeted old peer → CanBeGreeted new peer
hand_timed_can now up old new peer (IsHandshakeTimed.lives _ (IsHandshakeTimedOut.gone _ e)) can = same_can old new peer e can
hand_timed_can now up old new peer (IsHandshakeTimed.lives _ (IsHandshakeTimedOut.recovery _ _ _ _ _ _ e)) can =
    kept old new peer (ap (λ (h : Handshake). h.knows_peer) e) (ap (λ (h : Handshake). h.remote_id) e) (ap (λ (h : Handshake). h.peer) e) (λ some. ap (λ (h : Handshake). is_some h.space) e) can
hand_timed_can now up old new peer (IsHandshakeTimed.shut _ e) can = same_can old new peer e can

never_some : (o : Option TransportParameters) → o ≡ None → is_some o ≡ true → ⊥
never_some o none some = let z : false ≡ true = sym (ap is_some none) ∙ some in cc

module _ {S : Type 0} where
  as_before : (old new : Connection S) (peer : Handshake) → new.handshake ≡ old.handshake → CanBeGreeted old.handshake peer → CanBeGreeted new.handshake peer
  as_before old new peer is can = same_can old.handshake new.handshake peer is can

  data_same : (sealed : SealsTag) (now : Moment) (old new : Connection S) (before after : List ℕ) (t : Transmit) → IsDataTransmitted sealed now old new before after t → new.handshake ≡ old.handshake
  data_same sealed now old new before after t (IsDataTransmitted.of_core _ _ _ e) = ap (λ (z : Connection S). z.handshake) e
  data_same sealed now old new before after t (IsDataTransmitted.control _ _ _ _ _ e) = ap (λ (z : Connection S). z.handshake) e
  data_same sealed now old new before after t (IsDataTransmitted.datagrams _ _ _ _ _ _ _ _ e) = ap (λ (z : Connection S). z.handshake) e

  pub sent_can : (sealed : SealsTag) (now : Moment) (old new : Connection S) (before after : List ℕ) (t : Transmit) (peer : Handshake) → IsTransmitted sealed now old new before after t → CanBeGreeted old.handshake peer
      → CanBeGreeted new.handshake peer
  sent_can sealed now old new before after t peer (IsTransmitted.initial _ made _ _) can =
      kept old.handshake new.handshake peer (ap (λ (h : Handshake). h.knows_peer) made.new_is) (ap (λ (h : Handshake). h.remote_id) made.new_is) (ap (λ (h : Handshake). h.peer) made.new_is)
      (λ some. ap (λ (h : Handshake). is_some h.space) made.new_is) can
  sent_can sealed now old new before after t peer (IsTransmitted.close _ _ _ _ _ _ made _ _) can =
      kept old.handshake new.handshake peer (ap (λ (h : Handshake). h.knows_peer) made.new_is) (ap (λ (h : Handshake). h.remote_id) made.new_is) (ap (λ (h : Handshake). h.peer) made.new_is)
      (λ some. ap (λ (h : Handshake). is_some h.space) made.new_is) can
  sent_can sealed now old new before after t peer (IsTransmitted.data_packet _ _ sent) can = as_before old new peer (data_same sealed now old new before after t sent) can

  pub timed_can : (now : ℕ) (old new : Connection S) (peer : Handshake) → IsTimedOut now old new → CanBeGreeted old.handshake peer → CanBeGreeted new.handshake peer
  timed_can now old new peer is can = hand_timed_can now (is_open old.core.state) old.handshake new.handshake peer is.handshake can

  pub told_can : (old new : Connection S) (event : Option Event) (peer : Handshake) → IsTold old new event → CanBeGreeted old.handshake peer → CanBeGreeted new.handshake peer
  told_can old new _ peer (IsTold.handshake_data _ e) can = as_before old new peer (ap (λ (z : Connection S). z.handshake) e) can
  told_can old new _ peer (IsTold.connected _ _ e) can = as_before old new peer (ap (λ (z : Connection S). z.handshake) e) can
  told_can old new _ peer (IsTold.received _ _ _ e) can = as_before old new peer (ap (λ (z : Connection S). z.handshake) e) can
  told_can old new _ peer (IsTold.unblocked _ _ _ _ e) can = as_before old new peer (ap (λ (z : Connection S). z.handshake) e) can
  told_can old new _ peer (IsTold.of_core _ _ _ _ _ _ e) can = as_before old new peer (ap (λ (z : Connection S). z.handshake) e) can

  pub endpoint_can : (old new : Connection S) (event : Option EndpointEvent) (peer : Handshake) → IsEndpointTold old new event → CanBeGreeted old.handshake peer → CanBeGreeted new.handshake peer
  endpoint_can old new _ peer (IsEndpointTold.control _ _ e) can = as_before old new peer (ap (λ (z : Connection S). z.handshake) e) can
  endpoint_can old new _ peer (IsEndpointTold.of_core _ _ _ e) can = as_before old new peer (ap (λ (z : Connection S). z.handshake) e) can

  pub issued_can : (ids : List IssuedCid) (old new : Connection S) (peer : Handshake) → AreIdsIssued ids old new → CanBeGreeted old.handshake peer → CanBeGreeted new.handshake peer
  issued_can ids old new peer (AreIdsIssued.announced _ e) can = as_before old new peer (ap (λ (z : Connection S). z.handshake) e) can
  issued_can ids old new peer (AreIdsIssued.late _ e) can = as_before old new peer (ap (λ (z : Connection S). z.handshake) e) can

  -- ---- behind the Initial packets of a datagram by which an end isn't greeted nothing of its handshake changes

  met_same : (now : Moment) (was : Bool) (old new : Connection S) → old.handshake.peer ≡ None → IsMet now was old new → new.handshake ≡ old.handshake
  met_same now was old new none (IsMet.before _ e) = ap (λ (z : Connection S). z.handshake) e
  met_same now was old new none (IsMet.not_yet _ _ e) = ap (λ (z : Connection S). z.handshake) e
  met_same now was old new none (IsMet.greeted _ g) = absurd (none-some g.peer (sym none ∙ g.peer_is))

  restarted_same : (now : Moment) (before : Handshake) (old new : Connection S) → IsRestarted now before old new → new.handshake ≡ old.handshake
  restarted_same now before old new (IsRestarted.heard _ e) = ap (λ (z : Connection S). z.handshake) e
  restarted_same now before old new (IsRestarted.quiet _ e) = ap (λ (z : Connection S). z.handshake) e

  rest_same : (accepts : AcceptsTag) (now : Moment) (d rest : List ℕ) (old new : Connection S) → old.handshake.peer ≡ None → IsRestTaken accepts now d rest old new → new.handshake ≡ old.handshake
  rest_same accepts now d rest old new none (IsRestTaken.nothing _ e) = ap (λ (z : Connection S). z.handshake) e
  rest_same accepts now d rest old new none (IsRestTaken.ungreeted _ e) = ap (λ (z : Connection S). z.handshake) e
  rest_same accepts now d rest old new none (IsRestTaken.unheard _ _ _ _ _ e) = ap (λ (z : Connection S). z.handshake) e
  rest_same accepts now d rest old new none (IsRestTaken.reset _ _ _ _ _ _ e) = ap (λ (z : Connection S). z.handshake) e
  rest_same accepts now d rest old new none (IsRestTaken.accepted _ _ _ some _ _ _ _) = absurd (never_some old.handshake.peer none some)

  steps_same : (accepts : AcceptsTag) (now : Moment) (before : Handshake) (was : Bool) (d rest : List ℕ) (fed restarted met new : Connection S) → fed.handshake.peer ≡ None → IsRestarted now before fed restarted
      → IsMet now was restarted met → IsRestTaken accepts now d rest met new → new.handshake ≡ fed.handshake
  steps_same accepts now before was d rest fed restarted met new none again meets takes =
      let first = restarted_same now before fed restarted again in
      let unmet : restarted.handshake.peer ≡ None = ap (λ (h : Handshake). h.peer) first ∙ none in
      let second = met_same now was restarted met unmet meets in
      let still : met.handshake.peer ≡ None = ap (λ (h : Handshake). h.peer) second ∙ unmet in
      rest_same accepts now d rest met new still takes ∙ second ∙ first

  -- ---- a datagram of its honest peer's

  module _ (v : SessionView S) (own_hello peer_hello : List ℕ) (c q : Connection S) (tc tq : List Act) (e : AreTwoEnds v.accepts v.sealed v.key own_hello peer_hello c q tc tq)
      (named : NamesTags (v.accepts c.core.session)) (tags : AreTags (v.accepts q.core.session) (v.sealed q.core.session)) (now : Moment) (d : List ℕ) (among : In d (handed_out tq)) where
    retried_not : (h : Handshake) (rest : List ℕ) (retried learned : Option (List ℕ)) (end : Option ConnectionError) → IsDatagramTaken (v.accepts c.core.session) now d c.handshake h rest retried learned end → retried ≡ None
    retried_not h rest retried learned end (retry _ source token may for_it _) =
        absurd (unretried v.accepts v.sealed v.key own_hello peer_hello c q tc tq e named tags d among c.handshake source token for_it)
    retried_not h rest retried learned end (mismatch _ _) = refl
    retried_not h rest retried learned end (packets _ _ _ _ _ _) = refl

    shake_can : (h : Handshake) (rest : List ℕ) (retried learned : Option (List ℕ)) → IsDatagramTaken (v.accepts c.core.session) now d c.handshake h rest retried learned None → CanBeGreeted c.handshake q.handshake
        → CanBeGreeted h q.handshake
    shake_can h rest retried learned taken can = elim (kind v.accepts v.sealed v.key peer_hello q tq e.peer d among) [
      | inl (alone, there) ↦
          let at = where_out e.peer.stands.shake d there in
          let honest = e.peer.stands.sends.each at.0 at.1 d at.2 in
          taken_can (v.accepts c.core.session) now d rest c.handshake h q.handshake retried learned None alone (λ f destination behind b. (honest.from f.first destination f.source f.token f.body behind b).0) taken
          (retried_not h rest retried learned None taken) can
      | inr (short, _) ↦
          let passed = short_passed (v.accepts c.core.session) now d rest c.handshake h retried learned short taken in
          same_can (received (length d) c.handshake) h q.handshake passed.new_is (record { source = can.source; space = can.space })
    ]

    pub given_can : (new : Connection S) → IsDatagramHandled v now d c new → CanBeGreeted c.handshake q.handshake → CanBeGreeted new.handshake q.handshake
    given_can new (IsDatagramHandled.closing shut _) can = let z : true ≡ false = sym e.own.up ∙ shut in cc
    given_can new (IsDatagramHandled.ended mid rest error _ fed _ _) can =
        absurd (unended v.accepts v.sealed v.key own_hello peer_hello c q tc tq e named tags d among now fed.handshake rest fed.retried fed.learned error fed.taken)
    given_can new (IsDatagramHandled.taken fed restarted met rest up is again meets takes) can =
        let same = steps_know (v.accepts met.core.session) now c.handshake (is_some c.handshake.peer) d rest fed restarted met new again meets takes in
        elim (greeted_or new.handshake.peer) [
          | inl some ↦
              let p = known_peer new.handshake.peer some in
              let so = given_so v own_hello peer_hello c q tc tq e named tags now d among new (IsDatagramHandled.taken fed restarted met rest up is again meets takes) in
              record { source = λ k. (so.known p.0 p.1).1; space = λ none. absurd (never_some new.handshake.peer none some) }
          | inr none ↦
              let still = steps_same (v.accepts met.core.session) now c.handshake (is_some c.handshake.peer) d rest fed restarted met new (sym same.peer ∙ none) again meets takes in
              same_can is.handshake new.handshake q.handshake (still ∙ ap (λ (z : Connection S). z.handshake) is.new_is) (shake_can is.handshake rest is.retried is.learned is.taken can)
        ]
