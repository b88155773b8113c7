-- An end in the middle of a datagram, and calls of its 1-RTT packets that leave how it stands to all that was done.
use Rattle.std.proofs.Common.{◌≡◌, ℕ, Bool, true, false, List, [], ◌∷◌, ◌++◌, length, Option, Some, None, refl, sym, ap, subst, ◌∙◌, inl, inr}
use Rattle.std.proofs.lemmas.List.{append-nil}
use Rattle.std.specs.Prelude.{is_some}
use Rattle.qh_base.specs.declared.connection_error.ConnectionError.{ConnectionError}
use Rattle.qh_base.specs.declared.time.Moment.{Moment}
use Rattle.qh_conduct.proofs.AnnouncedCalls.{aside_announced}
use Rattle.qh_conduct.proofs.BehavingEnds.{fresh_behaves, still_filled}
use Rattle.qh_conduct.proofs.BehavingMade.{made_on}
use Rattle.qh_conduct.proofs.GrantedCalls.{aside_granted}
use Rattle.qh_conduct.proofs.ReachConnections.{aside_law}
use Rattle.qh_conduct.proofs.SizedCalls.{aside_sized}
use Rattle.qh_conduct.proofs.TurnedAside.{IsAside}
use Rattle.qh_conduct.specs.Behaves.{Behaves}
use Rattle.qh_conduct.specs.Reached.{AreNamed}
use Rattle.qh_converse.proofs.AccordKept.{IsBeside, came_any, fresh_accorded, keys, makes_all}
use Rattle.qh_converse.proofs.HandshakeDatagrams.{IsStill, goes_still, same_still}
use Rattle.qh_converse.proofs.ShakeLaws.{shake_in, short_in}
use Rattle.qh_converse.proofs.StateKept.{acted_begun, beside_begun, called_begun, greeted_begun, greeted_order, same_begun, same_order}
use Rattle.qh_converse.proofs.Steps.{comes, ends}
use Rattle.qh_converse.specs.Converses.{Converses, Hears, IsBegun, progress_of}
use Rattle.qh_converse.specs.Parts.IsShakeOf.{none as no_shake, came}
use Rattle.qh_converse.specs.Settled.{IsSettledBy, milliseconds}
use Rattle.qh_core.proofs.Followed.{unchanged}
use Rattle.qh_core.proofs.MadeTogether.{one_step}
use Rattle.qh_core.specs.Follows.{Follows}
use Rattle.qh_core.specs.Inner.{IsNewSpace, IsSameEnd, is_open}
use Rattle.qh_core.specs.Made.{AcceptsTags, IsMade, IsMadeLocally, MakesTagsOf}
use Rattle.qh_core.specs.declared.inner.Inner.{Inner}
use Rattle.qh_handshake.proofs.FollowsIn.{heard_follows, lost_follows, taken_follows}
use Rattle.qh_handshake.proofs.FollowsOn.{discarded_follows, dropped_follows, fresh_follows}
use Rattle.qh_handshake.proofs.GoingOn.{lost_goes, taken_goes}
use Rattle.qh_handshake.proofs.SendsIn.{lost_sends, taken_sends}
use Rattle.qh_handshake.proofs.SendsOn.{discarded_sends, dropped_sends, fresh_sends}
use Rattle.qh_handshake.specs.Follows.{Follows as FollowsShake, IsFresh}
use Rattle.qh_handshake.specs.Handshake.{dropping}
use Rattle.qh_handshake.specs.Incoming.{IsDatagramTaken, received}
use Rattle.qh_handshake.specs.Lost.{IsLost}
use Rattle.qh_handshake.specs.Sends.{Sends}
use Rattle.qh_handshake.specs.declared.handshake.Handshake.{Handshake}
use Rattle.qh_hello.specs.declared.transport_parameters.TransportParameters.{TransportParameters}
use Rattle.qh_packet.specs.Session.{AcceptsTag, NamesTags, plain_sealed}
use Rattle.qh_spec.proofs.HandshakeOrderLaws.{fresh_orders}
use Rattle.qh_spec.proofs.Members.{in_left}
use Rattle.qh_spec.proofs.PartLaws.{last_or_before}
use Rattle.qh_spec.proofs.TranscriptLaws.{handed_in-append}
use Rattle.qh_spec.specs.Greeted.{HasPacketOf, IsGreeted}
use Rattle.qh_spec.specs.Link.{other}
use Rattle.qh_spec.specs.Lists.{In}
use Rattle.qh_spec.specs.Parted.{AreShort, EndsWith, IsPartOf, IsShort}
use Rattle.qh_spec.specs.Parted.IsPartOf.{none as no_part, rest as rest_act, unheard as unheard_act}
use Rattle.qh_spec.specs.Transcript.{Act, HandedIn, HandedOut, handed_in}
use Rattle.qh_spec.specs.declared.sides.Side.TheVariants.{Client}
use Rattle.qh_spec.specs.declared.sides.Space.TheVariants.{Data}

-- ---- a datagram that is counted alone

came_before : (t : List Act) (d x : List ℕ) → In x (handed_in t) → In x (handed_in (t ++ HandedIn d ∷ []))
came_before t d x is = subst (λ (z : List (List ℕ)). In x z) (sym (handed_in-append t (HandedIn d ∷ []))) (in_left x (handed_in t) (d ∷ []) is)

not_out : (d e : List ℕ) → HandedIn d ≡ HandedOut e → ⊥
not_out d e same = cc

counted_sends : (hello : List ℕ) (h : Handshake) (t : List Act) (d : List ℕ) → Sends hello h t → Sends hello (received (length d) h) (t ++ HandedIn d ∷ [])
counted_sends hello h t d p = record {
  each = λ before after datagram e. elim (last_or_before t before after (HandedIn d) (HandedOut datagram) e) [
    | inl last ↦ absurd (not_out d datagram last.1)
    | inr earlier ↦ let o = p.each before earlier.0 datagram earlier.1 in record { has_one = o.has_one; from = o.from; packets = o.packets; some = o.some }
  ];
  acked = λ s number id_length is there.
      let has = p.acked s number id_length is there in
      record {
        datagram = has.datagram;
        among = came_before t d has.datagram has.among;
        packet = has.packet;
        has = has.has;
        space_is = has.space_is;
        sender_is = has.sender_is;
        number_is = has.number_is;
      };
}

-- ---- the end of the 1-RTT packets is the same but for its session, its counts and how far it is

module _ {S : Type 0} where
  same_beside : (old new : Inner S) → IsBeside old new → IsSameEnd old new
  same_beside old new a = record {
    side = ap (λ (z : Inner S). z.side) a.rest_is;
    local_id = ap (λ (z : Inner S). z.local_id) a.rest_is;
    remote_length = ap (λ (z : Inner S). length z.remote_id) a.rest_is;
    config = ap (λ (z : Inner S). z.config) a.rest_is;
  }

  is_aside : (old new : Inner S) → IsBeside old new → IsAside old new
  is_aside old new a = record {
    same = same_beside old new a;
    log = old.space.log;
    space = ap (λ (z : Inner S). z.space) a.rest_is;
    opens = a.opens;
    drained = λ is. (a.drained is, ap (λ (z : Inner S). z.error) a.rest_is);
  }

same_count : (h : Handshake) (size : ℕ) → IsStill h (received size h)
same_count h size = record { side = refl; id = refl; parameters = refl; peer = refl; remote = λ _. refl }

dropped_still : (h : Handshake) → IsStill h (dropping h)
dropped_still h = record { side = refl; id = refl; parameters = refl; peer = refl; remote = λ _. refl }

discarded_still : (h : Handshake) → IsStill h (record (dropping h) { is_validated = true })
discarded_still h = record { side = refl; id = refl; parameters = refl; peer = refl; remote = λ _. refl }

module _ {S : Type 0} (accepts : AcceptsTags S) (sealed : MakesTagsOf S) where
  pub counts : (hello d : List ℕ) (h : Handshake) (c : Inner S) (k : Bool) (t : List Act) → Converses accepts sealed hello h c k t → Hears accepts sealed hello (received (length d) h) c k t d
  counts hello d h c k t p = comes accepts sealed hello h (received (length d) h) c k t d (same_count h (length d)) p (heard_follows hello h p.shake d p.follows) (counted_sends hello h p.shake d p.sends)

  -- ---- a datagram comes

  pub fresh : (hello : List ℕ) (h : Handshake) (c : Inner S) → IsFresh hello h → c.side ≡ h.side → c.local_id ≡ h.local_id → IsNewSpace c.config c.side c.space → Follows c []
      → milliseconds c.config.idle ≡ h.parameters.max_idle_timeout → (is_open c.state ≡ true → c.idle.timeout ≡ c.config.idle) → Converses accepts sealed hello h c false []
  fresh hello h c new side id space follows unsettled runs = record {
    shake = [];
    is_shake = no_shake;
    follows = fresh_follows hello h new;
    sends = fresh_sends hello h new;
    part = [];
    is_part = no_part;
    begun = record {
      side_is = side;
      id_is = id;
      behaves = fresh_behaves c space follows;
      accords = fresh_accorded accepts sealed h c space follows;
      short = λ d i. absurd i;
      not_yet = λ _. refl;
      settled = λ p e up. let z : None ≡ Some p = sym new.ungreeted ∙ e in cc;
      unsettled = λ _. unsettled;
      runs = runs;
    };
    orders = λ n _. fresh_orders (length c.local_id) n (progress_of h false) (ap is_some new.ungreeted) refl;
  }

  module _ (takes : AcceptsTag) (now : Moment) where
    pub hears_it : (d rest hello : List ℕ) (old new : Handshake) (retried learned : Option (List ℕ)) (end : Option ConnectionError) (c : Inner S) (k : Bool) (t : List Act) → NamesTags takes
        → IsDatagramTaken takes now d old new rest retried learned end → new.peer ≡ old.peer → Converses accepts sealed hello old c k t → Hears accepts sealed hello new c k t d
    hears_it d rest hello old new retried learned end c k t named taken peer p =
        let on = taken_goes takes now d rest old new retried learned end taken in
        comes accepts sealed hello old new c k t d (goes_still hello old new p.shake p.follows on peer) p (taken_follows takes now d rest hello old new retried learned end p.shake named taken p.follows)
        (taken_sends takes now d rest hello old new retried learned end p.shake named taken p.sends)

    pub greets : (d rest hello : List ℕ) (old new : Handshake) (retried learned : Option (List ℕ)) (end : Option ConnectionError) (c next : Inner S) (k m : Bool) (t : List Act) (p : TransportParameters)
        → NamesTags takes → IsDatagramTaken takes now d old new rest retried learned end → old.peer ≡ None → new.peer ≡ Some p → IsNewSpace next.config next.side next.space → Follows next []
        → IsSettledBy new p next → next.idle.timeout ≡ next.config.idle → next.side ≡ c.side → next.local_id ≡ c.local_id → (m ≡ true → new.side ≡ Client) → Converses accepts sealed hello old c k t → Hears accepts sealed hello new next m t d
    greets d rest hello old new retried learned end c next k m t p named taken none some space core settled runs side id client q =
        let on = taken_goes takes now d rest old new retried learned end taken in
        let follows : FollowsShake hello new (q.shake ++ HandedIn d ∷ []) = taken_follows takes now d rest hello old new retried learned end q.shake named taken q.follows in
        let is_shake = came q.shake t d q.is_shake in
        let with = follows.greeted p (length next.local_id) some in
        let greeted : IsGreeted (length next.local_id) (handed_in (t ++ HandedIn d ∷ [])) (other new.side) =
        subst (λ (z : List (List ℕ)). IsGreeted (length next.local_id) z (other new.side)) (shake_in (q.shake ++ HandedIn d ∷ []) (t ++ HandedIn d ∷ []) is_shake) (with.hello, with.carried) in
        record {
          shake = q.shake ++ HandedIn d ∷ [];
          is_shake = is_shake;
          follows = follows;
          sends = taken_sends takes now d rest hello old new retried learned end q.shake named taken q.sends;
          part = [];
          is_part = subst (λ (z : List Act). IsPartOf z t) (q.begun.not_yet none) q.is_part;
          begun = greeted_begun accepts sealed new next p (side ∙ q.begun.side_is ∙ sym on.side) (id ∙ q.begun.id_is ∙ sym on.local_id) some settled runs space core;
          orders = greeted_order old new c next k m t d on.side none client id greeted q.orders;
        }

    pub lost : (d hello : List ℕ) (old new : Handshake) (learned : Option (List ℕ)) (c : Inner S) (k : Bool) (t : List Act) → NamesTags takes → IsLost takes now d old new learned → new.peer ≡ old.peer
        → Converses accepts sealed hello old c k t → Hears accepts sealed hello (dropping new) c k t d
    lost d hello old new learned c k t named taken peer p =
        let on = lost_goes takes now d old new learned taken in
        comes accepts sealed hello old (dropping new) c k t d (goes_still hello old (dropping new) p.shake p.follows on peer) p (lost_follows takes now d hello old new learned p.shake named taken p.follows)
        (lost_sends takes now d hello old new learned p.shake named taken p.sends)

    -- the connection ends as it is greeted
    pub ends_it : (d rest hello : List ℕ) (old new : Handshake) (retried learned : Option (List ℕ)) (end : Option ConnectionError) (c : Inner S) (t : List Act) (p : TransportParameters) → NamesTags takes
        → IsDatagramTaken takes now d old new rest retried learned end → old.peer ≡ None → new.peer ≡ Some p → is_open c.state ≡ false → Converses accepts sealed hello old c false t → Hears accepts sealed hello new c false t d
    ends_it d rest hello old new retried learned end c t p named taken none some shut q =
        let on = taken_goes takes now d rest old new retried learned end taken in
        ends accepts sealed hello old new c t d p on.side on.local_id none some shut q (taken_follows takes now d rest hello old new retried learned end q.shake named taken q.follows)
        (taken_sends takes now d rest hello old new retried learned end q.shake named taken q.sends)

    pub ends_lost : (d hello : List ℕ) (old new : Handshake) (learned : Option (List ℕ)) (c : Inner S) (t : List Act) (p : TransportParameters) → NamesTags takes → IsLost takes now d old new learned
        → old.peer ≡ None → new.peer ≡ Some p → is_open c.state ≡ false → Converses accepts sealed hello old c false t → Hears accepts sealed hello (dropping new) c false t d
    ends_lost d hello old new learned c t p named taken none some shut q =
        let on = lost_goes takes now d old new learned taken in
        ends accepts sealed hello old (dropping new) c t d p on.side on.local_id none some shut q (lost_follows takes now d hello old new learned q.shake named taken q.follows)
        (lost_sends takes now d hello old new learned q.shake named taken q.sends)

  -- ---- the Initial space is given up

  left : (hello d : List ℕ) (h new : Handshake) (c : Inner S) (k : Bool) (t : List Act) → IsStill h new → (p : Hears accepts sealed hello h c k t d)
      → FollowsShake hello new p.shake → Sends hello new p.shake → Hears accepts sealed hello new c k t d
  left hello d h new c k t s p follows sends = record {
    shake = p.shake;
    is_shake = p.is_shake;
    follows = follows;
    sends = sends;
    part = p.part;
    is_part = p.is_part;
    begun = same_begun accepts sealed h new c p.part s p.begun;
    orders = same_order h new c c k (t ++ HandedIn d ∷ []) s refl p.orders;
  }

  pub drops : (hello d : List ℕ) (h : Handshake) (c : Inner S) (k : Bool) (t : List Act) → Hears accepts sealed hello h c k t d → Hears accepts sealed hello (dropping h) c k t d
  drops hello d h c k t p = left hello d h (dropping h) c k t (dropped_still h) p (dropped_follows hello h p.shake p.follows) (dropped_sends hello h p.shake p.sends)

  pub discards : (hello d : List ℕ) (h : Handshake) (c : Inner S) (k : Bool) (t : List Act) → Hears accepts sealed hello h c k t d → Hears accepts sealed hello (record (dropping h) { is_validated = true }) c k t d
  discards hello d h c k t p =
      left hello d h (record (dropping h) { is_validated = true }) c k t (discarded_still h) p (discarded_follows hello h p.shake p.follows) (discarded_sends hello h p.shake p.sends)

  pub dropped : (hello : List ℕ) (h : Handshake) (c : Inner S) (k : Bool) (t : List Act) → Converses accepts sealed hello h c k t → Converses accepts sealed hello (dropping h) c k t
  dropped hello h c k t p = record {
    shake = p.shake;
    is_shake = p.is_shake;
    follows = dropped_follows hello h p.shake p.follows;
    sends = dropped_sends hello h p.shake p.sends;
    part = p.part;
    is_part = p.is_part;
    begun = same_begun accepts sealed h (dropping h) c p.part (dropped_still h) p.begun;
    orders = same_order h (dropping h) c c k t (dropped_still h) refl p.orders;
  }

  -- a server is connected by a 1-RTT packet of the client's
  pub connects : (hello : List ℕ) (h : Handshake) (c : Inner S) (k : Bool) (t : List Act) → HasPacketOf (length c.local_id) (handed_in t) (other h.side) Data → Converses accepts sealed hello h c k t
      → Converses accepts sealed hello (record (dropping h) { is_validated = true }) c true t
  connects hello h c k t has p = record {
    shake = p.shake;
    is_shake = p.is_shake;
    follows = discarded_follows hello h p.shake p.follows;
    sends = discarded_sends hello h p.shake p.sends;
    part = p.part;
    is_part = p.is_part;
    begun = same_begun accepts sealed h (record (dropping h) { is_validated = true }) c p.part (discarded_still h) p.begun;
    orders = λ n is. let o = p.orders n is in record { greeted = o.greeted; heard = λ _. has; order = o.order };
  }

  -- ---- what is behind the Initial packets

  pub unheard : (hello d : List ℕ) (h : Handshake) (c : Inner S) (k : Bool) (t : List Act) → Hears accepts sealed hello h c k t d → Converses accepts sealed hello h c k (t ++ HandedIn d ∷ [])
  unheard hello d h c k t p = record {
    shake = p.shake;
    is_shake = p.is_shake;
    follows = p.follows;
    sends = p.sends;
    part = p.part;
    is_part = unheard_act p.part t d p.is_part;
    begun = p.begun;
    orders = p.orders;
  }

  pub heard : (hello tail d : List ℕ) (h : Handshake) (c new : Inner S) (k : Bool) (t : List Act) → AreNamed (accepts c.session) → EndsWith tail d → IsShort tail → is_some h.peer ≡ true
      → IsMade accepts sealed c new (HandedIn tail ∷ []) → Hears accepts sealed hello h c k t d → Converses accepts sealed hello h new k (t ++ HandedIn d ∷ [])
  heard hello tail d h c new k t named ends short greeted made p =
      let same = made.1.same_end in
      let plain : MakesTagsOf S = λ _. plain_sealed keys in
      let by_plain : IsMade accepts plain c new (HandedIn tail ∷ []) = (came_any accepts sealed plain c new tail made.0, made.1) in
      let behaves = made_on accepts plain c new (HandedIn tail ∷ []) p.part named (λ from number bound. makes_all from Data number bound)
      (one_step (IsMade accepts plain) c new (HandedIn tail ∷ []) by_plain) p.begun.behaves in
      record {
        shake = p.shake;
        is_shake = p.is_shake;
        follows = p.follows;
        sends = p.sends;
        part = p.part ++ HandedIn tail ∷ [];
        is_part = rest_act p.part t tail d ends short p.is_part;
        begun = acted_begun accepts sealed h c new p.part (HandedIn tail) greeted made behaves (short_in p.part tail p.begun.short) p.begun;
        orders = same_order h h c new k (t ++ HandedIn d ∷ []) (same_still h h refl) same.local_id p.orders;
      }

  -- ---- another session, other counters, or a close that is to be told again

  apart_follows : (old new : Inner S) (t : List Act) → IsBeside old new → Follows old t → Follows new t
  unfolding Follows
  apart_follows old new t a f = unchanged old new t (same_beside old new a) (ap (λ (z : Inner S). z.space) a.rest_is) (λ memory. ap (λ (z : Inner S). z.error) a.rest_is ∙ memory) f

  apart_behaves : (old new : Inner S) (t : List Act) → IsBeside old new → Behaves old t → Behaves new t
  apart_behaves old new t a b = record {
    follows = apart_follows old new t a b.follows;
    reached = aside_law old new t (is_aside old new a) b.reached;
    announced = aside_announced old new t (is_aside old new a) b.announced;
    granted = aside_granted old new (is_aside old new a) b.granted;
    sized = aside_sized old new t (is_aside old new a) b.sized;
    filled = still_filled old new t (same_beside old new a) b.filled;
  }

  pub apart : (hello : List ℕ) (h : Handshake) (old new : Inner S) (k : Bool) (t : List Act) → IsBeside old new
      → (is_some h.peer ≡ true → (accepts new.session ≡ accepts old.session) × (sealed new.session ≡ sealed old.session)) → Converses accepts sealed hello h old k t
      → Converses accepts sealed hello h new k t
  apart hello h old new k t a tags p =
      let same = same_beside old new a in
      record {
        shake = p.shake;
        is_shake = p.is_shake;
        follows = p.follows;
        sends = p.sends;
        part = p.part;
        is_part = p.is_part;
        begun = beside_begun accepts sealed h old new p.part a tags (apart_behaves old new p.part a p.begun.behaves) p.begun;
        orders = same_order h h old new k t (same_still h h refl) same.local_id p.orders;
      }

  -- ---- a call that hands no datagram in or out

  still_begun : (h : Handshake) (c new : Inner S) (part : List Act) → IsMadeLocally c new [] → IsBegun accepts sealed h c part → IsBegun accepts sealed h new part
  still_begun h c new part made b =
      subst (λ (z : List Act). IsBegun accepts sealed h new z) (append-nil part)
      (called_begun accepts sealed h c new part [] (one_step IsMadeLocally c new [] made) (subst (λ (z : List Act). AreShort z) (sym (append-nil part)) b.short) (λ _. refl) b)

  pub calls : (hello d : List ℕ) (h : Handshake) (c new : Inner S) (k : Bool) (t : List Act) → IsMadeLocally c new [] → Hears accepts sealed hello h c k t d → Hears accepts sealed hello h new k t d
  calls hello d h c new k t made p = record {
    shake = p.shake;
    is_shake = p.is_shake;
    follows = p.follows;
    sends = p.sends;
    part = p.part;
    is_part = p.is_part;
    begun = still_begun h c new p.part made p.begun;
    orders = same_order h h c new k (t ++ HandedIn d ∷ []) (same_still h h refl) made.1.same_end.local_id p.orders;
  }

  pub stays : (hello : List ℕ) (h : Handshake) (c new : Inner S) (k : Bool) (t : List Act) → IsMadeLocally c new [] → Converses accepts sealed hello h c k t → Converses accepts sealed hello h new k t
  stays hello h c new k t made p = record {
    shake = p.shake;
    is_shake = p.is_shake;
    follows = p.follows;
    sends = p.sends;
    part = p.part;
    is_part = p.is_part;
    begun = still_begun h c new p.part made p.begun;
    orders = same_order h h c new k t (same_still h h refl) made.1.same_end.local_id p.orders;
  }
