-- Two honest ends know of each other what the other says.
use Rattle.std.proofs.Common.{◌≡◌, ℕ, ◌-◌, ◌≤◌, min, nat_lt, Bool, true, false, List, length, Option, None, Some, is_some, if◌then◌else◌, refl, sym, ap, subst, ◌∙◌, arith}
use Rattle.std.proofs.lemmas.Option.{same_Some}
use Rattle.std.specs.Option.{option_map}
use Rattle.std.specs.Prelude.{IsSomeAnd}
use Rattle.qh_conduct.specs.Peers.{ArePeers, TakesFrom}
use Rattle.qh_conn.specs.declared.connection.Connection.{Connection}
use Rattle.qh_converse.proofs.Steps.{are_peers}
use Rattle.qh_converse.specs.Settled.{datagram_of, idle_of, milliseconds, peer_limits}
use Rattle.qh_core.specs.Made.{AcceptsTags, MakesTagsOf}
use Rattle.qh_core.specs.declared.config.ConnConfig.{ConnConfig as CoreConfig}
use Rattle.qh_handshake.proofs.PeerKnown.{same_said, same_source}
use Rattle.qh_handshake.specs.Peers.{IsPeer, KnowsIds}
use Rattle.qh_hello.specs.declared.transport_parameters.TransportParameters.{TransportParameters}
use Rattle.qh_peers.proofs.RetryPackets.{retry_comes}
use Rattle.qh_peers.specs.Ends.{AreTwoEnds}
use Rattle.qh_spec.proofs.Bridge.{other_twice}
use Rattle.qh_spec.specs.Link.{other}
use Rattle.qh_spec.specs.Transcript.{Act}
use Rattle.qh_spec.specs.declared.sides.Side.{Side}

pub known : (o : Option TransportParameters) → is_some o ≡ true → (p : TransportParameters) × (o ≡ Some p)
known None some = let z : false ≡ true = some in cc
known (Some p) some = (p, refl)

-- ---- which DATAGRAM frames are taken

fits_most : (b : Bool) (m n : ℕ) → (if b then None else Some (min (min m 1200 - 3) 1140)) ≡ Some n → n ≤ m
fits_most true m n is = let z : None ≡ Some n = is in cc
fits_most false m n is = let z = same_Some (min (min m 1200 - 3) 1140) n is in omega (arith, z)

taken_by : (o : Option ℕ) (n : ℕ) → datagram_of (option_map (λ (most : ℕ). min most 1200) o) ≡ Some n → IsSomeAnd o (λ m. n ≤ m)
taken_by None n is = let z : None ≡ Some n = is in cc
taken_by (Some m) n is = fits_most (nat_lt (min m 1200) 2) m n is

takes_from : (taker sender : CoreConfig) (size : Option ℕ) → sender.peer_datagram ≡ datagram_of size → size ≡ option_map (λ (most : ℕ). min most 1200) taker.datagram_receive → TakesFrom taker sender
takes_from taker sender size known_is said n is = taken_by taker.datagram_receive n (ap datagram_of (sym said) ∙ sym known_is ∙ is)

module _ {S : Type 0} (accepts : AcceptsTags S) (sealed : MakesTagsOf S) (key : S → List ℕ) (own_hello peer_hello : List ℕ) (c q : Connection S) (tc tq : List Act) (e : AreTwoEnds accepts sealed key own_hello peer_hello c q tc tq) where
  own_side : c.core.side ≡ c.handshake.side
  own_side = e.own.stands.begun.side_is

  peer_side : q.core.side ≡ q.handshake.side
  peer_side = e.peer.stands.begun.side_is

  pub sides : q.handshake.side ≡ other c.handshake.side
  sides = sym peer_side ∙ e.sides ∙ ap other own_side

  pub sides_back : c.handshake.side ≡ other q.handshake.side
  sides_back = sym (other_twice c.handshake.side) ∙ ap other (sym sides)

  pub ids : KnowsIds c.handshake q.handshake c.handshake.side
  ids = subst (λ (s : Side). KnowsIds c.handshake q.handshake s) own_side e.ids

  pub ids_back : KnowsIds q.handshake c.handshake q.handshake.side
  ids_back = subst (λ (s : Side). KnowsIds q.handshake c.handshake s) peer_side e.ids_back

  -- their handshakes are those of two ends
  pub shakes : IsPeer own_hello peer_hello c.handshake q.handshake e.own.stands.shake e.peer.stands.shake
  shakes = are_peers accepts sealed own_hello peer_hello c.handshake q.handshake c.core q.core c.is_connected q.is_connected tc tq e.own.stands e.peer.stands sides e.peer.whole.sound.handshake ids
      (retry_comes tc tq e.came) (retry_comes tq tc e.went)

  pub shakes_back : IsPeer peer_hello own_hello q.handshake c.handshake e.peer.stands.shake e.own.stands.shake
  shakes_back = are_peers accepts sealed peer_hello own_hello q.handshake c.handshake q.core c.core q.is_connected c.is_connected tq tc e.peer.stands e.own.stands sides_back e.own.whole.sound.handshake ids_back
      (retry_comes tq tc e.went) (retry_comes tc tq e.came)

  pub turned : AreTwoEnds accepts sealed key peer_hello own_hello q c tq tc
  turned = record {
    own = e.peer;
    peer = e.own;
    sides = own_side ∙ sides_back ∙ ap other (sym peer_side);
    ids = e.ids_back;
    ids_back = e.ids;
    key_is = sym e.key_is;
    came = e.went;
    went = e.came;
  }

  -- the ends of their 1-RTT packets are each other's peers, if they know of each other what each says
  pub are_joined : (p r : TransportParameters) → c.handshake.peer ≡ Some p → q.handshake.peer ≡ Some r → p ≡ q.handshake.parameters → r ≡ c.handshake.parameters
      → q.handshake.parameters.initial_source_connection_id ≡ c.handshake.remote_id → c.handshake.parameters.initial_source_connection_id ≡ q.handshake.remote_id → ArePeers c.core q.core
  are_joined p r is_p is_r says_p says_r source source_back =
      let mine = e.own.stands.begun.settled p is_p e.own.up in
      let its = e.peer.stands.begun.settled r is_r e.peer.up in
      record {
        sides = e.sides;
        there = its.there ∙ ap (λ (z : List ℕ). length z) (sym source_back ∙ e.own.whole.sound.handshake.source ∙ sym e.own.stands.begun.id_is);
        back = mine.there ∙ ap (λ (z : List ℕ). length z) (sym source ∙ e.peer.whole.sound.handshake.source ∙ sym e.peer.stands.begun.id_is);
        known = its.limits ∙ ap peer_limits says_r ∙ e.own.says.limits;
        knows = mine.limits ∙ ap peer_limits says_p ∙ e.peer.says.limits;
        fits = e.own.says.fits;
        fits_back = e.peer.says.fits;
        datagrams = takes_from c.core.config q.core.config r.max_datagram_frame_size its.datagrams (ap (λ (z : TransportParameters). z.max_datagram_frame_size) says_r ∙ e.own.says.datagrams);
        datagrams_back = takes_from q.core.config c.core.config p.max_datagram_frame_size mine.datagrams (ap (λ (z : TransportParameters). z.max_datagram_frame_size) says_p ∙ e.peer.says.datagrams);
      }

  pub joined_ends : is_some c.handshake.peer ≡ true → is_some q.handshake.peer ≡ true → ArePeers c.core q.core
  joined_ends greeted peer_greeted =
      let p = known c.handshake.peer greeted in
      let r = known q.handshake.peer peer_greeted in
      are_joined p.0 r.0 p.1 r.1 (same_said own_hello peer_hello c.handshake q.handshake p.0 e.own.stands.shake e.peer.stands.shake shakes p.1)
      (same_said peer_hello own_hello q.handshake c.handshake r.0 e.peer.stands.shake e.own.stands.shake shakes_back r.1)
      (same_source own_hello peer_hello c.handshake q.handshake p.0 e.own.stands.shake e.peer.stands.shake shakes p.1)
      (same_source peer_hello own_hello q.handshake c.handshake r.0 e.peer.stands.shake e.own.stands.shake shakes_back r.1)

  -- the hello that came is the other's, from its id
  pub known_of : (p : TransportParameters) → c.handshake.peer ≡ Some p → (p ≡ q.handshake.parameters) × (c.handshake.remote_id ≡ q.handshake.local_id)
  known_of p is = (
    same_said own_hello peer_hello c.handshake q.handshake p e.own.stands.shake e.peer.stands.shake shakes is,
    sym (same_source own_hello peer_hello c.handshake q.handshake p e.own.stands.shake e.peer.stands.shake shakes is) ∙ e.peer.whole.sound.handshake.source,
  )

  -- the idle time in force
  pub idle_is : is_some c.handshake.peer ≡ true → c.core.idle.timeout ≡ idle_of (milliseconds c.config.idle) (milliseconds q.config.idle)
  idle_is greeted =
      let p = known c.handshake.peer greeted in
      e.own.stands.begun.runs e.own.up ∙ (e.own.stands.begun.settled p.0 p.1 e.own.up).idle ∙ ap (λ (n : ℕ). idle_of n p.0.max_idle_timeout) e.own.says.idle
      ∙ ap (λ (n : ℕ). idle_of (milliseconds c.config.idle) n) (ap (λ (z : TransportParameters). z.max_idle_timeout) (known_of p.0 p.1).0 ∙ e.peer.says.idle)

  pub peer_length_back : is_some q.handshake.peer ≡ true → length c.core.local_id ≡ length q.handshake.remote_id
  peer_length_back peer_greeted =
      let r = known q.handshake.peer peer_greeted in
      let source = same_source peer_hello own_hello q.handshake c.handshake r.0 e.peer.stands.shake e.own.stands.shake shakes_back r.1 in
      ap (λ (z : List ℕ). length z) (e.own.stands.begun.id_is ∙ sym e.own.whole.sound.handshake.source ∙ source)

  -- a peer that was greeted sends to ids as long as this end's
  pub length_back : is_some q.handshake.peer ≡ true → length q.core.remote_id ≡ length c.core.local_id
  length_back peer_greeted =
      let r = known q.handshake.peer peer_greeted in
      let source = same_source peer_hello own_hello q.handshake c.handshake r.0 e.peer.stands.shake e.own.stands.shake shakes_back r.1 in
      (e.peer.stands.begun.settled r.0 r.1 e.peer.up).there ∙ ap (λ (z : List ℕ). length z) (sym source ∙ e.own.whole.sound.handshake.source ∙ sym e.own.stands.begun.id_is)
