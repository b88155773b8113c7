-- The steps of a datagram that an honest peer handed out, at an end that is open.
use Rattle.std.proofs.Common.{◌≡◌, ℕ, true, false, List, [], ◌∷◌, length, Option, None, Some, is_some, refl, sym, ap, subst, ◌∙◌, inl, inr}
use Rattle.qh_arrival.specs.Accord.{AreTags}
use Rattle.qh_base.specs.declared.shared.ResetToken.{ResetToken}
use Rattle.qh_base.specs.declared.time.Moment.{Moment}
use Rattle.qh_conn.specs.Incoming.{IsDatagramHandled, IsFed, IsMet, IsRestTaken, IsRestarted, counted_at, is_reset_by}
use Rattle.qh_conn.specs.declared.connection.Connection.{Connection}
use Rattle.qh_control.specs.declared.control.ControlState.{ControlState}
use Rattle.qh_core.specs.Inner.{is_open}
use Rattle.qh_core.specs.Receiving.{IsDatagramTaken as IsCoreTaken, counted_in}
use Rattle.qh_core.specs.declared.inner.Inner.{Inner}
use Rattle.qh_handshake.specs.Incoming.{SessionView}
use Rattle.qh_handshake.specs.declared.handshake.Handshake.{Handshake}
use Rattle.qh_hello.specs.declared.transport_parameters.TransportParameters.{TransportParameters}
use Rattle.qh_packet.specs.Session.{NamesTags}
use Rattle.qh_peers.proofs.EndFed.{alone_rest, counted_twice, fed_same, met_same, restarted_same}
use Rattle.qh_peers.proofs.EndErrors.{steps_error, steps_know}
use Rattle.qh_peers.proofs.EndFedPeers.{fed_token, unended, unreset, unretried}
use Rattle.qh_peers.proofs.EndKinds.{kind}
use Rattle.qh_peers.proofs.EndOpen.{HasTokenOf, data_open, data_since, met_open, met_token, no_bytes, nothing_more, restarted_open, whole_open}
use Rattle.qh_peers.proofs.EndPeers.{known, length_back, turned}
use Rattle.qh_peers.proofs.EndRetry.{passed_retry}
use Rattle.qh_peers.specs.Ends.{AreTwoEnds}
use Rattle.qh_peers.specs.Ids.{BelongsTo, NoneIsRefusedBehind, NoneIsRefusedIn, SayFewIds, SaysOwnToken}
use Rattle.qh_spec.specs.Link.{other}
use Rattle.qh_spec.specs.Lists.{In}
use Rattle.qh_spec.specs.Parted.{IsShort}
use Rattle.qh_spec.specs.Transcript.{Act, handed_out}

module _ {S : Type 0} (v : SessionView S) (own_hello peer_hello : List ℕ) (c q : Connection S) (tc tq : List Act) (e : AreTwoEnds v.accepts v.sealed v.key own_hello peer_hello c q tc tq)
    (named : NamesTags (v.accepts c.core.session)) (tags : AreTags (v.accepts q.core.session) (v.sealed q.core.session)) (now : Moment) (d : List ℕ) (among : In d (handed_out tq)) where
  -- the connection with the datagram counted
  abbrev base : Connection S
  base = counted_at (length d) c

  restarted_control : (fed restarted : Connection S) → IsRestarted now c.handshake fed restarted → restarted.control ≡ fed.control
  restarted_control fed restarted (IsRestarted.heard _ is) = ap (λ (z : Connection S). z.control) is
  restarted_control fed restarted (IsRestarted.quiet _ is) = ap (λ (z : Connection S). z.control) is

  restarted_peer : (fed restarted : Connection S) → IsRestarted now c.handshake fed restarted → restarted.handshake.peer ≡ fed.handshake.peer
  restarted_peer fed restarted (IsRestarted.heard _ is) = ap (λ (z : Connection S). z.handshake.peer) is
  restarted_peer fed restarted (IsRestarted.quiet _ is) = ap (λ (z : Connection S). z.handshake.peer) is

  token_unreset : (fed restarted met : Connection S) (rest : List ℕ) → IsFed v now d base fed rest None → IsRestarted now c.handshake fed restarted
      → HasTokenOf met.control.ids.active.reset_token restarted → is_reset_by met.control.ids.active.reset_token d → ⊥
  token_unreset fed restarted met rest is again t = elim t.is [
    | inl same ↦
        let own = (e.own.few.holds e.own.up).peers.active.token in
        let same_control : restarted.control ≡ c.control = restarted_control fed restarted again ∙ ap (λ (z : Connection S). z.control) is.new_is in
        subst (λ (o : Option ResetToken). is_reset_by o d → ⊥) (sym (same ∙ ap (λ (s : ControlState). s.ids.active.reset_token) same_control))
        (unreset v.accepts v.sealed v.key own_hello peer_hello c q tc tq e named tags d among c.control.ids.active.reset_token c.control.ids.active.id own)
    | inr (p, known, same) ↦
        let there : is.handshake.peer ≡ Some p = sym (ap (λ (z : Connection S). z.handshake.peer) is.new_is) ∙ sym (restarted_peer fed restarted again) ∙ known in
        let its = (fed_token v.accepts v.sealed v.key own_hello peer_hello c q tc tq e named tags d among now rest is.handshake is.retried is.learned None is.taken p there).0 in
        subst (λ (o : Option ResetToken). is_reset_by o d → ⊥) (sym same) (unreset v.accepts v.sealed v.key own_hello peer_hello c q tc tq e named tags d among p.stateless_reset_token q.handshake.local_id its)
  ]

  -- what the end of the 1-RTT packets is behind the Initial packets of a datagram that begins with a short header
  short_met : (fed restarted met : Connection S) (rest : List ℕ) → IsShort d → IsFed v now d base fed rest None → IsRestarted now c.handshake fed restarted → IsMet now (is_some c.handshake.peer) restarted met
      → (rest ≡ d) × (met ≡ counted_twice (length d) base)
  short_met fed restarted met rest short is again meets =
      let same = fed_same v now d rest base fed short is in
      (same.0, met_same now (length d) base restarted met (restarted_same now (length d) base fed restarted same.1 again) meets)

  abbrev pub CoreOpens : Type 0
  CoreOpens = IsShort d → In d (handed_out e.peer.stands.part) → is_some c.handshake.peer ≡ true → (core : Inner S) → IsCoreTaken (v.accepts c.core.session) now d (counted_in (length d) c.core) core → is_open core.state ≡ true

  behind_open : (new : Connection S) → CoreOpens → (fed restarted met : Connection S) (rest : List ℕ) → IsFed v now d base fed rest None → IsRestarted now c.handshake fed restarted
      → IsMet now (is_some c.handshake.peer) restarted met → is_open met.core.state ≡ true → (t : IsRestTaken (v.accepts met.core.session) now d rest met new) → NoneIsRefusedBehind t → is_open new.core.state ≡ true
  behind_open new opens fed restarted met rest is again meets up takes ok =
      let unreset_now = token_unreset fed restarted met rest is again (met_token now (is_some c.handshake.peer) restarted met meets) in
      elim (kind v.accepts v.sealed v.key peer_hello q tq e.peer d among) [
        | inl (alone, _) ↦ nothing_more (v.accepts met.core.session) now d rest met new
            (alone_rest (v.accepts c.core.session) now d rest c.handshake is.handshake is.retried is.learned None alone is.taken) up unreset_now takes
        | inr (short, there) ↦
            let s = short_met fed restarted met rest short is again meets in
            data_open (v.accepts met.core.session) now d rest met new up unreset_now
            (λ greeted core taken. opens short there (ap (λ (z : Connection S). is_some z.handshake.peer) (sym s.1) ∙ greeted) core
            (subst (λ (z : List ℕ). IsCoreTaken (v.accepts c.core.session) now z (counted_in (length z) c.core) core) s.0
            (subst (λ (z : Connection S). IsCoreTaken (v.accepts z.core.session) now rest (counted_in (length rest) z.core) core) s.1 taken))) takes ok
      ]

  pub stays_open : (new : Connection S) → CoreOpens → (h : IsDatagramHandled v now d c new) → NoneIsRefusedIn h → is_open new.core.state ≡ true
  stays_open new opens h ok =
      whole_open v now d c new e.own.up (λ shake rest retried learned error taken. unended v.accepts v.sealed v.key own_hello peer_hello c q tc tq e named tags d among now shake rest retried learned error taken)
      (behind_open new opens) h ok

  -- ---- what it leaves

  -- why it would be lost, and what it knows of the peer: its id, the token that it says, and whether a Retry packet came
  pub record IsGivenSo (new : Connection S) : Type 0 where
    pub error : is_open new.core.state ≡ true → new.core.error ≡ c.core.error
    pub retry_id : new.handshake.retry_id ≡ c.handshake.retry_id
    pub known : (p : TransportParameters) → new.handshake.peer ≡ Some p → BelongsTo q.handshake.local_id p.stateless_reset_token × (new.handshake.remote_id ≡ q.handshake.local_id)

  pub given_so : (new : Connection S) → IsDatagramHandled v now d c new → IsGivenSo new
  given_so new (IsDatagramHandled.closing shut _) = let z : true ≡ false = sym e.own.up ∙ shut in cc
  given_so new (IsDatagramHandled.ended mid rest error _ fed _ _) =
      absurd (unended v.accepts v.sealed v.key own_hello peer_hello c q tc tq e named tags d among now fed.handshake rest fed.retried fed.learned error fed.taken)
  given_so new (IsDatagramHandled.taken fed restarted met rest was is again meets takes) =
      let still : is_open met.core.state ≡ true = met_open now (is_some c.handshake.peer) restarted met meets ∙ restarted_open now c fed restarted again ∙ ap (λ (z : Connection S). is_open z.core.state) is.new_is ∙ e.own.up in
      let same = steps_know (v.accepts met.core.session) now c.handshake (is_some c.handshake.peer) d rest fed restarted met new again meets takes in
      let shake : fed.handshake ≡ is.handshake = ap (λ (z : Connection S). z.handshake) is.new_is in
      record {
        error = λ up.
            steps_error (v.accepts met.core.session) now c.handshake (is_some c.handshake.peer) d rest c fed restarted met new (ap (λ (z : Connection S). z.core.error) is.new_is) still up again meets takes;
        retry_id = passed_retry v now d c new (λ _ source token _. unretried v.accepts v.sealed v.key own_hello peer_hello c q tc tq e named tags d among c.handshake source token)
            (IsDatagramHandled.taken fed restarted met rest was is again meets takes);
        known = λ p some.
            let k = fed_token v.accepts v.sealed v.key own_hello peer_hello c q tc tq e named tags d among now rest is.handshake is.retried is.learned None is.taken p
            (sym (ap (λ (h : Handshake). h.peer) shake) ∙ sym same.peer ∙ some) in
            (k.0, same.remote_id ∙ ap (λ (h : Handshake). h.remote_id) shake ∙ k.1);
      }

  says_token : (id : List ℕ) (o : Option TransportParameters) → ((p : TransportParameters) → o ≡ Some p → BelongsTo id p.stateless_reset_token) → SaysOwnToken id o
  says_token id None known = tt
  says_token id (Some p) known = known p refl

  pub own_token : (new : Connection S) → IsGivenSo new → SaysOwnToken new.handshake.remote_id new.handshake.peer
  own_token new g =
      says_token new.handshake.remote_id new.handshake.peer
      (λ p some. let k = g.known p some in subst (λ (id : List ℕ). BelongsTo id p.stateless_reset_token) (sym k.1) k.0)

  -- the peer's ids are as long as those that this end sends to, once it was greeted
  pub there_before : is_some c.handshake.peer ≡ true → length q.core.local_id ≡ length c.core.remote_id
  there_before greeted = sym (length_back v.accepts v.sealed v.key peer_hello own_hello q c tq tc (turned v.accepts v.sealed v.key own_hello peer_hello c q tc tq e) greeted)

  pub there_now : (new : Connection S) → IsGivenSo new → c.handshake.peer ≡ None → is_some new.handshake.peer ≡ true → length q.core.local_id ≡ length new.handshake.remote_id
  there_now new g none greeted =
      let p = known new.handshake.peer greeted in
      ap (λ (id : List ℕ). length id) (e.peer.stands.begun.id_is ∙ sym (g.known p.0 p.1).1)

  -- what came says few ids
  pub says_few : SayFewIds (length q.core.local_id) (length c.core.local_id) (d ∷ []) (other c.core.side)
  says_few f has =
      let all = e.peer.few.said (length c.core.local_id) (λ greeted. sym (length_back v.accepts v.sealed v.key own_hello peer_hello c q tc tq e greeted)) f in
      all (record {
        datagram = has.datagram;
        among = elim has.among [ inl same ↦ subst (λ (z : List ℕ). In z (handed_out tq)) same among | inr none ↦ absurd none ];
        packet = has.packet;
        has = has.has;
        space_is = has.space_is;
        sender_is = has.sender_is ∙ sym e.sides;
        frame_among = has.frame_among;
      })

  -- ---- the idle time runs anew

  abbrev pub CoreRuns : Type 0
  CoreRuns = (core : Inner S) → IsCoreTaken (v.accepts c.core.session) now d (counted_in (length d) c.core) core → (is_open core.state ≡ true) × (core.idle.since ≡ now)

  some_bytes : IsShort d → d ≡ [] → ⊥
  some_bytes short none = no_bytes (subst (λ (x : List ℕ). IsShort x) none short)

  pub runs_anew : (new : Connection S) → IsShort d → is_some c.handshake.peer ≡ true → CoreRuns → (h : IsDatagramHandled v now d c new) → NoneIsRefusedIn h → new.core.idle.since ≡ now
  runs_anew new short greeted runs (IsDatagramHandled.closing shut _) ok = let z : true ≡ _ = sym e.own.up ∙ shut in cc
  runs_anew new short greeted runs (IsDatagramHandled.ended mid rest error _ fed _ _) ok =
      absurd (unended v.accepts v.sealed v.key own_hello peer_hello c q tc tq e named tags d among now fed.handshake rest fed.retried fed.learned error fed.taken)
  runs_anew new short greeted runs (IsDatagramHandled.taken fed restarted met rest _ is again meets takes) ok =
      let s = short_met fed restarted met rest short is again meets in
      let unreset_now = token_unreset fed restarted met rest is again (met_token now (is_some c.handshake.peer) restarted met meets) in
      data_since (v.accepts met.core.session) now d rest met new (λ none. some_bytes short (sym s.0 ∙ none)) (ap (λ (z : Connection S). is_some z.handshake.peer) s.1 ∙ greeted) unreset_now
      (λ core taken. runs core (subst (λ (z : List ℕ). IsCoreTaken (v.accepts c.core.session) now z (counted_in (length z) c.core) core) s.0
      (subst (λ (z : Connection S). IsCoreTaken (v.accepts z.core.session) now rest (counted_in (length rest) z.core) core) s.1 taken))) takes ok
