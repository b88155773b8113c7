-- An end goes on owing what it owes: whatever its handshake does, by calls, and where nothing changes that its packets tell.
use Rattle.std.proofs.Common.{◌≡◌, ℕ, true, false, List, [], ◌∷◌, ◌++◌, length, drop, refl, sym, ap, subst, ◌∙◌, inl, inr, arith}
use Rattle.std.proofs.lemmas.Bool.{both_ways, cases_Bool}
use Rattle.std.specs.Prelude.{is_some}
use Rattle.qh_arrival.proofs.AccordsOn.{fresh_accords, made_accords}
use Rattle.qh_arrival.specs.Accord.{Accords, AreTags}
use Rattle.qh_arrival.specs.Asked.{HasAsked}
use Rattle.qh_arrival.specs.Heard.{HasHeard}
use Rattle.qh_arrival.specs.Said.{HasSaid}
use Rattle.qh_core.specs.declared.stats.UdpStats.{UdpStats}
use Rattle.qh_conduct.proofs.BehavingMade.{made_on}
use Rattle.qh_conduct.specs.Behaves.{Behaves}
use Rattle.qh_converse.specs.Converses.{AccordsByTags}
use Rattle.qh_core.proofs.MadeTogether.{all_same, local_all}
use Rattle.qh_core.specs.Follows.{Follows}
use Rattle.qh_core.specs.Inner.{IsNewSpace, is_open}
use Rattle.qh_core.specs.Made.{AcceptsTags, AreMade, AreMadeLocally, IsAnyCall, MakesTagsOf}
use Rattle.qh_core.specs.Made.IsAnyCall.{handed_in, lost, handed_out as handed_out_so, control_out, nothing_sent, unsent, local}
use Rattle.qh_core.specs.Progress.{NumberedPacket}
use Rattle.qh_core.specs.declared.inner.Inner.{Inner}
use Rattle.qh_core.specs.declared.state.State.{State}
use Rattle.qh_core.specs.declared.state.State.TheVariants.{Drained}
use Rattle.qh_handshake.specs.declared.handshake.Handshake.{Handshake}
use Rattle.qh_owing.specs.Ledger.{HasLedger, IsLedger}
use Rattle.qh_owing.specs.Owing.{Owes}
use Rattle.qh_packet.proofs.Sessions.{plain_makes, plain_names}
use Rattle.qh_packet.specs.Session.{AcceptsTag, MakesTags, NamesTags, PlainKeys, SealsTag, plain_accepts, plain_sealed}
use Rattle.qh_spec.specs.Transcript.{Act, HandedIn, handed_out}
use Rattle.qh_spec.specs.declared.sides.Space.TheVariants.{Data}

-- ---- tags of a session that has no part in what is done

abbrev pub keys : PlainKeys
keys = record { key_id = []; server_name = []; knows_name = false }

pub names_all : NamesTags (plain_accepts keys)
names_all = plain_names keys (omega arith)

pub makes_all : MakesTags (plain_sealed keys)
makes_all = plain_makes keys (omega arith)

no_datagram : (d : List ℕ) → d ∷ [] ≡ [] → ⊥
no_datagram d none = cc

-- ---- an end that is the same but for its session, its counts and how far it is

-- it is open only if it was, and drained if it was
pub record IsBeside {S : Type 0} (old new : Inner S) : Type 0 where
  pub rest_is : new ≡ record old { session = new.session; udp_rx = new.udp_rx; state = new.state }
  pub opens : is_open new.state ≡ true → is_open old.state ≡ true
  pub drained : old.state ≡ Drained → new.state ≡ Drained

module _ {S : Type 0} (takes : AcceptsTag) (makes : SealsTag) (old : Inner S) (session : S) (came : UdpStats) (state : State) (t : List Act) (opens : is_open state ≡ true → is_open old.state ≡ true)
    (drained : old.state ≡ Drained → state ≡ Drained) where
  abbrev moved : Inner S
  moved = record old { session = session; udp_rx = came; state = state }

  moved_owes : Owes takes old t → Owes takes moved t
  unfolding Owes
  moved_owes (accepted, o) = (accepted, record { come = o.come; once = o.once; are = λ up. o.are (opens up); remembers = λ up. o.remembers (opens up); space = λ up. o.space (opens up) })

  moved_packets : (sent accepted : List NumberedPacket) → IsLedger takes makes old sent accepted t → IsLedger takes makes moved sent accepted t
  moved_packets sent accepted l = record {
    accepted_are = let a = l.accepted_are in record { packets = a.packets; noted = a.noted; are = a.are; remembers = a.remembers };
    progress = let p = l.progress in record { next = p.next; numbers = p.numbers; out = p.out; acks_below = p.acks_below; owes = p.owes; kept = p.kept; apart = p.apart };
    came = l.came;
  }

  moved_ledger : HasLedger takes makes old t → HasLedger takes makes moved t
  unfolding HasLedger
  moved_ledger k = record {
    sent = k.sent;
    sent_are = k.sent_are;
    next = elim k.next [ inl gone ↦ inl (drained gone) | inr is ↦ inr is ];
    ledger = elim (cases_Bool (is_open state)) [
      | inl up ↦ elim k.ledger [ inl shut ↦ absurd (both_ways (is_open old.state) shut (opens up)) | inr l ↦ inr (l.0, moved_packets k.sent l.0 l.1) ]
      | inr down ↦ inl down
    ];
  }

  moved_asked : HasAsked old t → HasAsked moved t
  unfolding HasAsked
  moved_asked a = record { were = record { resets = a.were.resets; stops = a.were.stops }; streams = λ up. a.streams (opens up) }

  moved_said : HasSaid old t → HasSaid moved t
  unfolding HasSaid
  moved_said says up = let s = says (opens up) in record { limits = record { shared = s.limits.shared; counts = s.limits.counts; streams = s.limits.streams }; window = s.window }

  moved_heard : HasHeard takes old t → HasHeard takes moved t
  unfolding HasHeard
  moved_heard hears up =
      let h = hears (opens up) in
      record {
        accepted = h.accepted;
        are = h.are;
        remembers = h.remembers;
        limits = record { shared = h.limits.shared; counts = h.limits.counts; streams = h.limits.streams };
        side = h.side;
        peer = h.peer;
      }

  moved_accords : Behaves moved t → Accords takes makes old t → Accords takes makes moved t
  moved_accords behaves a = record {
    behaves = behaves;
    owes = moved_owes a.owes;
    ledger = moved_ledger a.ledger;
    asked = moved_asked a.asked;
    said = moved_said a.said;
    heard = moved_heard a.heard;
    tagged = a.tagged;
  }

module _ {S : Type 0} where
  -- ---- calls, by tags of whatever session

  -- a call that hands a datagram in is the same whatever tags the session makes
  came_so : (accepts : AcceptsTags S) (sealed other : MakesTagsOf S) (c new : Inner S) (acts : List Act) → handed_out acts ≡ [] → IsAnyCall accepts sealed c new acts → IsAnyCall accepts other c new acts
  came_so accepts sealed other c new _ none (handed_in event taken undisturbed) = handed_in event taken undisturbed
  came_so accepts sealed other c new _ none (lost event f wanting) = lost event f wanting
  came_so accepts sealed other c new _ none (handed_out_so now before after transmit made back undisturbed) = absurd (no_datagram (drop (length before) after) none)
  came_so accepts sealed other c new _ none (control_out now before after frames sent is undisturbed) = absurd (no_datagram (drop (length before) after) none)
  came_so accepts sealed other c new _ none (nothing_sent nothing) = nothing_sent nothing
  came_so accepts sealed other c new _ none (unsent f) = unsent f
  came_so accepts sealed other c new _ none (local acts call) = local acts call

  pub came_any : (accepts : AcceptsTags S) (sealed other : MakesTagsOf S) (c new : Inner S) (d : List ℕ) → IsAnyCall accepts sealed c new (HandedIn d ∷ []) → IsAnyCall accepts other c new (HandedIn d ∷ [])
  came_any accepts sealed other c new d call = came_so accepts sealed other c new (HandedIn d ∷ []) refl call

  pub locally_behaves : (c new : Inner S) (acts part : List Act) → AreMadeLocally c new acts → Behaves c part → Behaves new (part ++ acts)
  locally_behaves c new acts part made b =
      made_on (λ _. plain_accepts keys) (λ _. plain_sealed keys) c new acts part names_all (λ from number bound. makes_all from Data number bound)
      (local_all (λ _. plain_accepts keys) (λ _. plain_sealed keys) c new acts made) b

module _ {S : Type 0} (accepts : AcceptsTags S) (sealed : MakesTagsOf S) where
  -- ---- what an end owes

  pub fresh_accorded : (h : Handshake) (c : Inner S) → IsNewSpace c.config c.side c.space → Follows c [] → AccordsByTags accepts sealed h c []
  fresh_accorded h c space follows takes makes is tags = fresh_accords takes makes c space follows

  -- whatever its handshake does
  pub shake_accorded : (old new : Handshake) (c : Inner S) (part : List Act) → (is_some old.peer ≡ true → is_some new.peer ≡ true) → AccordsByTags accepts sealed old c part
      → AccordsByTags accepts sealed new c part
  shake_accorded old new c part still a takes makes is tags = a takes makes (λ greeted. is (still greeted)) tags

  -- by calls that hand no datagram in or out, whatever the tags are
  pub locally_accorded : (h : Handshake) (c new : Inner S) (acts part : List Act) → AreMadeLocally c new acts → AccordsByTags accepts sealed h c part
      → AccordsByTags accepts sealed h new (part ++ acts)
  locally_accorded h c new acts part made a takes makes is tags =
      let all = local_all (λ _. takes) (λ _. makes) c new acts made in
      let session = (all_same (λ _. takes) (λ _. makes) c new acts all).1 in
      made_accords (λ _. takes) (λ _. makes) c new acts part tags all (a takes makes (λ greeted. let both = is greeted in (both.0 ∙ ap accepts session, both.1 ∙ ap sealed session)) tags)

  -- by calls, once it was greeted
  pub made_accorded : (h : Handshake) (c new : Inner S) (acts part : List Act) → is_some h.peer ≡ true → AreMade accepts sealed c new acts → AccordsByTags accepts sealed h c part
      → AccordsByTags accepts sealed h new (part ++ acts)
  made_accorded h c new acts part greeted made a takes makes is tags =
      let session = (all_same accepts sealed c new acts made).1 in
      let both = is greeted in
      let takes_is : takes ≡ accepts c.session = both.0 ∙ ap accepts session in
      let makes_is : makes ≡ sealed c.session = both.1 ∙ ap sealed session in
      let own : AreTags (accepts c.session) (sealed c.session) =
      subst (λ (z : AcceptsTag). AreTags z (sealed c.session)) takes_is (subst (λ (z : SealsTag). AreTags takes z) makes_is tags) in
      subst (λ (z : AcceptsTag). Accords z makes new (part ++ acts)) (sym takes_is)
      (subst (λ (z : SealsTag). Accords (accepts c.session) z new (part ++ acts)) (sym makes_is)
      (made_accords accepts sealed c new acts part own made (a (accepts c.session) (sealed c.session) (λ _. (refl, refl)) own)))

  -- where nothing else changes, and since it was greeted its session takes and makes the same tags
  pub beside_accorded : (h : Handshake) (old new : Inner S) (part : List Act) → IsBeside old new → (is_some h.peer ≡ true → (accepts new.session ≡ accepts old.session) × (sealed new.session ≡ sealed old.session))
      → Behaves new part → AccordsByTags accepts sealed h old part → AccordsByTags accepts sealed h new part
  beside_accorded h old new part b same behaves a takes makes is tags =
      subst (λ (z : Inner S). Accords takes makes z part) (sym b.rest_is)
      (moved_accords takes makes old new.session new.udp_rx new.state part b.opens b.drained (subst (λ (z : Inner S). Behaves z part) b.rest_is behaves)
      (a takes makes (λ greeted. let both = is greeted in let kept = same greeted in (both.0 ∙ kept.0, both.1 ∙ kept.1)) tags))
