-- The steps of a handshake carry on how the end stands to all that was done with it.
use Rattle.std.proofs.Common.{◌≡◌, ℕ, Bool, false, List, [], ◌∷◌, ◌++◌, length, Some, None, refl, ap, subst}
use Rattle.std.specs.Prelude.{is_some}
use Rattle.qh_converse.proofs.HandshakeDatagrams.{IsStill, honest_alone}
use Rattle.qh_converse.proofs.LinkedParts.{shake_comes}
use Rattle.qh_converse.proofs.ShakeLaws.{shake_in}
use Rattle.qh_converse.proofs.StateKept.{alone_order, came_order, greeted_order, same_begun, same_order, shut_begun}
use Rattle.qh_converse.specs.Converses.{Converses, Hears}
use Rattle.qh_converse.specs.Linked.{ComesFrom}
use Rattle.qh_converse.specs.Parts.IsShakeOf.{came, went}
use Rattle.qh_core.specs.Inner.{is_open}
use Rattle.qh_core.specs.Made.{AcceptsTags, MakesTagsOf}
use Rattle.qh_core.specs.declared.inner.Inner.{Inner}
use Rattle.qh_handshake.specs.Follows.{Follows}
use Rattle.qh_handshake.specs.Handshake.{IsHandshake}
use Rattle.qh_handshake.specs.Peers.{IsPeer, KnowsIds}
use Rattle.qh_handshake.specs.Sends.{Sends}
use Rattle.qh_handshake.specs.declared.handshake.Handshake.{Handshake}
use Rattle.qh_hello.specs.declared.transport_parameters.TransportParameters.{TransportParameters}
use Rattle.qh_spec.specs.Greeted.{IsGreeted}
use Rattle.qh_spec.specs.Link.{other}
use Rattle.qh_spec.specs.Parted.IsPartOf.{initial as alone_act}
use Rattle.qh_spec.specs.Transcript.{Act, HandedIn, HandedOut, handed_in}

module _ {S : Type 0} (accepts : AcceptsTags S) (sealed : MakesTagsOf S) where
  -- a datagram came, by which the end isn't greeted
  pub comes : (hello : List ℕ) (old new : Handshake) (c : Inner S) (k : Bool) (t : List Act) (d : List ℕ) → IsStill old new → (p : Converses accepts sealed hello old c k t) → Follows hello new (p.shake ++ HandedIn d ∷ []) → Sends hello new (p.shake ++ HandedIn d ∷ []) → Hears accepts sealed hello new c k t d
  comes hello old new c k t d s p follows sends = record {
    shake = p.shake ++ HandedIn d ∷ [];
    is_shake = came p.shake t d p.is_shake;
    follows = follows;
    sends = sends;
    part = p.part;
    is_part = p.is_part;
    begun = same_begun accepts sealed old new c p.part s p.begun;
    orders = came_order old new c k t d s p.orders;
  }

  -- a datagram came, by which the end is greeted as its connection ends
  pub ends : (hello : List ℕ) (old new : Handshake) (c : Inner S) (t : List Act) (d : List ℕ) (r : TransportParameters) → new.side ≡ old.side → new.local_id ≡ old.local_id → old.peer ≡ None
      → new.peer ≡ Some r → is_open c.state ≡ false → (p : Converses accepts sealed hello old c false t) → Follows hello new (p.shake ++ HandedIn d ∷ []) → Sends hello new (p.shake ++ HandedIn d ∷ [])
      → Hears accepts sealed hello new c false t d
  ends hello old new c t d r side id none some shut p follows sends =
      let is_shake = came p.shake t d p.is_shake in
      let with = follows.greeted r (length c.local_id) some in
      let greeted : IsGreeted (length c.local_id) (handed_in (t ++ HandedIn d ∷ [])) (other new.side) =
      subst (λ (z : List (List ℕ)). IsGreeted (length c.local_id) z (other new.side)) (shake_in (p.shake ++ HandedIn d ∷ []) (t ++ HandedIn d ∷ []) is_shake) (with.hello, with.carried) in
      record {
        shake = p.shake ++ HandedIn d ∷ [];
        is_shake = is_shake;
        follows = follows;
        sends = sends;
        part = p.part;
        is_part = p.is_part;
        begun = shut_begun accepts sealed old new c p.part side id shut (ap is_some some) p.begun;
        orders = greeted_order old new c c false false t d side none (λ e. cc) refl greeted p.orders;
      }

  -- the handshake handed out a datagram
  pub goes : (hello : List ℕ) (old new : Handshake) (c : Inner S) (k : Bool) (t : List Act) (d : List ℕ) → IsStill old new → (p : Converses accepts sealed hello old c k t) → Follows hello new (p.shake ++ HandedOut d ∷ []) → Sends hello new (p.shake ++ HandedOut d ∷ []) → Converses accepts sealed hello new c k (t ++ HandedOut d ∷ [])
  goes hello old new c k t d s p follows sends =
      let alone = honest_alone hello _ new d (sends.each p.shake [] d refl) in
      record {
        shake = p.shake ++ HandedOut d ∷ [];
        is_shake = went p.shake t d alone p.is_shake;
        follows = follows;
        sends = sends;
        part = p.part;
        is_part = alone_act p.part t d alone p.is_part;
        begun = same_begun accepts sealed old new c p.part s p.begun;
        orders = alone_order hello old new c k p.shake t d s alone p.is_shake follows p.orders;
      }

  -- nothing came or went
  pub stays : (hello : List ℕ) (old new : Handshake) (c : Inner S) (k : Bool) (t : List Act) → IsStill old new → (p : Converses accepts sealed hello old c k t) → Follows hello new p.shake → Sends hello new p.shake → Converses accepts sealed hello new c k t
  stays hello old new c k t s p follows sends = record {
    shake = p.shake;
    is_shake = p.is_shake;
    follows = follows;
    sends = sends;
    part = p.part;
    is_part = p.is_part;
    begun = same_begun accepts sealed old new c p.part s p.begun;
    orders = same_order old new c c k t s refl p.orders;
  }

  -- over a link that gives each end only what the other handed out, and what no end hands out, their handshakes are those of two ends
  pub are_peers : (own_hello peer_hello : List ℕ) (own peer : Handshake) (c q : Inner S) (k m : Bool) (tc tp : List Act) (mine : Converses accepts sealed own_hello own c k tc) (theirs : Converses accepts sealed peer_hello peer q m tp)
      → peer.side ≡ other own.side → IsHandshake peer → KnowsIds own peer own.side → ComesFrom tc tp → ComesFrom tp tc → IsPeer own_hello peer_hello own peer mine.shake theirs.shake
  are_peers own_hello peer_hello own peer c q k m tc tp mine theirs sides whole ids to back = record {
    side_is = sides;
    peer_whole = whole;
    own_follows = mine.follows;
    peer_follows = theirs.follows;
    peer_sends = theirs.sends;
    ids = ids;
    came = shake_comes mine.shake tc theirs.shake tp mine.is_shake theirs.is_shake to;
    went = shake_comes theirs.shake tp mine.shake tc theirs.is_shake mine.is_shake back;
  }
