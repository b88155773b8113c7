-- A datagram of an honest peer's leaves an end open.
use Rattle.std.proofs.Common.{◌≡◌, ◌⊎◌, ℕ, Bool, true, false, List, [], length, Option, None, Some, is_some, if◌then◌else◌, refl, sym, ap, subst, ◌∙◌, inl, inr, arith}
use Rattle.qh_base.specs.declared.connection_error.ConnectionError.{ConnectionError}
use Rattle.qh_base.specs.declared.shared.ResetToken.{ResetToken}
use Rattle.qh_base.specs.declared.time.Moment.{Moment}
use Rattle.qh_cids.specs.CidQueue.{PlainCids}
use Rattle.qh_conn.proofs.InHears.{opened_short}
use Rattle.qh_conn.specs.Greeting.{connected, ids_asked, with_core}
use Rattle.qh_conn.specs.Incoming.{AreFramesHandled, IsDatagramHandled, IsFed, IsMet, IsRestTaken, IsRestarted, connected_if, counted_at, is_reset_by}
use Rattle.qh_conn.specs.Items.{noted, streams_taken}
use Rattle.qh_conn.specs.declared.connection.Connection.{Connection}
use Rattle.qh_control.specs.declared.control.ControlState.{ControlState}
use Rattle.qh_control.specs.declared.items.ConnectionItem.{ConnectionItem}
use Rattle.qh_core.specs.Inner.{is_client, is_open}
use Rattle.qh_core.specs.Receiving.{BringsPacket, IsDatagramTaken, IsPacketHandled, counted_in}
use Rattle.qh_core.specs.declared.idle.IdleTimer.{IdleTimer}
use Rattle.qh_core.specs.declared.inner.Inner.{Inner}
use Rattle.qh_core.specs.declared.state.State.{State}
use Rattle.qh_handshake.specs.Incoming.{IsDatagramTaken as IsShakeTaken, SessionView}
use Rattle.qh_handshake.specs.declared.handshake.Handshake.{Handshake}
use Rattle.qh_hello.specs.declared.transport_parameters.TransportParameters.{TransportParameters}
use Rattle.qh_frame.specs.declared.frame.Frame.{Frame}
use Rattle.qh_packet.specs.Session.{AcceptsTag}
use Rattle.qh_peers.specs.Ids.{NoneIsRefused, NoneIsRefusedBehind, NoneIsRefusedIn}
use Rattle.qh_spec.specs.Parted.{IsShort}

asked_ids : (now : Moment) (b : Bool) (s : ControlState) → (if b then ids_asked now s else s).ids ≡ s.ids
asked_ids now true s = refl
asked_ids now false s = refl

pub no_bytes : IsShort [] → ⊥
no_bytes s = let n = s.0 in absurd (omega (arith, n))

module _ {S : Type 0} where
  -- ---- what leaves an end open

  pub taken_open : (log : Option (List ConnectionItem)) (c : Inner S) → (streams_taken log c).state ≡ c.state
  taken_open None c = refl
  taken_open (Some items) c = refl

  connected_when : (now : Moment) (b : Bool) (c : Connection S) → is_open (if b then noted [] c else connected now c).core.state ≡ is_open c.core.state
  connected_when now true c = ap (λ z. is_open z) (taken_open c.control.log c.core)
  connected_when now false c = ap (λ z. is_open z) (taken_open c.control.log c.core)

  pub connected_open : (now : Moment) (c : Connection S) → is_open (connected_if now c).core.state ≡ is_open c.core.state
  connected_open now c = connected_when now c.is_connected c

  taken_since : (log : Option (List ConnectionItem)) (c : Inner S) → (streams_taken log c).idle ≡ c.idle
  taken_since None c = refl
  taken_since (Some items) c = refl

  connected_idle : (now : Moment) (b : Bool) (c : Connection S) → (if b then noted [] c else connected now c).core.idle ≡ c.core.idle
  connected_idle now true c = taken_since c.control.log c.core
  connected_idle now false c = taken_since c.control.log c.core

  pub connected_since : (now : Moment) (c : Connection S) → (connected_if now c).core.idle ≡ c.core.idle
  connected_since now c = connected_idle now c.is_connected c

  greeted_when : (now : Moment) (b : Bool) (c : Connection S) → is_open (if b then connected now c else c).core.state ≡ is_open c.core.state
  greeted_when now true c = ap (λ z. is_open z) (taken_open c.control.log c.core)
  greeted_when now false c = refl

  pub met_open : (now : Moment) (was : Bool) (old new : Connection S) → IsMet now was old new → is_open new.core.state ≡ is_open old.core.state
  met_open now was old new (IsMet.before _ e) = ap (λ (z : Connection S). is_open z.core.state) e
  met_open now was old new (IsMet.not_yet _ _ e) = ap (λ (z : Connection S). is_open z.core.state) e
  met_open now was old new (IsMet.greeted _ g) =
      ap (λ (z : Connection S). is_open z.core.state) g.new_is ∙ greeted_when now (is_client old.handshake.side) (with_core old g.core g.peer) ∙ ap (λ (z : Inner S). is_open z.state) g.core_is.rest_is

  pub restarted_open : (now : Moment) (old fed restarted : Connection S) → IsRestarted now old.handshake fed restarted → is_open restarted.core.state ≡ is_open fed.core.state
  restarted_open now old fed restarted (IsRestarted.heard _ e) = ap (λ (z : Connection S). is_open z.core.state) e
  restarted_open now old fed restarted (IsRestarted.quiet _ e) = ap (λ (z : Connection S). is_open z.core.state) e

  -- ---- the token of a stateless reset

  -- it is the one that was known, or that of a hello that was read now
  pub record HasTokenOf (o : Option ResetToken) (old : Connection S) : Type 0 where
    pub is : (o ≡ old.control.ids.active.reset_token) ⊎ ((p : TransportParameters) × (old.handshake.peer ≡ Some p) × (o ≡ p.stateless_reset_token))

  greeted_ids : (now : Moment) (b : Bool) (c : Connection S) → (if b then connected now c else c).control.ids ≡ c.control.ids
  greeted_ids now true c = asked_ids now (is_open c.core.state) c.control
  greeted_ids now false c = refl

  pub met_token : (now : Moment) (was : Bool) (old new : Connection S) → IsMet now was old new → HasTokenOf new.control.ids.active.reset_token old
  met_token now was old new (IsMet.before _ e) = record { is = inl (ap (λ (z : Connection S). z.control.ids.active.reset_token) e) }
  met_token now was old new (IsMet.not_yet _ _ e) = record { is = inl (ap (λ (z : Connection S). z.control.ids.active.reset_token) e) }
  met_token now was old new (IsMet.greeted _ g) = record {
    is = inr (
      g.peer,
      g.peer_is,
      ap (λ (z : Connection S). z.control.ids.active.reset_token) g.new_is
          ∙ ap (λ (q : PlainCids). q.active.reset_token) (greeted_ids now (is_client old.handshake.side) (with_core old g.core g.peer)),
    );
  }

  -- ---- nothing is behind the Initial packets

  core_passes : (accepts : AcceptsTag) (now : Moment) (old core : Inner S) → is_open old.state ≡ true → IsDatagramTaken accepts now [] old core → is_open core.state ≡ true
  core_passes accepts now old core up (IsDatagramTaken.dropped _ _ e) = ap (λ (z : Inner S). is_open z.state) e ∙ up
  core_passes accepts now old core up (IsDatagramTaken.handled number frames _ o _) = absurd (no_bytes (opened_short accepts _ _ _ [] number frames o.is))
  core_passes accepts now old core up (IsDatagramTaken.told_again _ _ _ was _ _) = let z : true ≡ false = sym up ∙ ap (λ (z : State). is_open z) was in cc
  core_passes accepts now old core up (IsDatagramTaken.closed_too _ _ _ was _ _) = let z : true ≡ false = sym up ∙ ap (λ (z : State). is_open z) was in cc
  core_passes accepts now old core up (IsDatagramTaken.draining _ was _) = let z : true ≡ false = sym up ∙ ap (λ (z : State). is_open z) was in cc
  core_passes accepts now old core up (IsDatagramTaken.drained was _) = let z : true ≡ false = sym up ∙ ap (λ (z : State). is_open z) was in cc

  pub nothing_more : (accepts : AcceptsTag) (now : Moment) (d rest : List ℕ) (old new : Connection S) → rest ≡ [] → is_open old.core.state ≡ true → (is_reset_by old.control.ids.active.reset_token d → ⊥)
      → IsRestTaken accepts now d rest old new → is_open new.core.state ≡ true
  nothing_more accepts now d rest old new none up unreset (IsRestTaken.nothing _ e) = ap (λ (z : Connection S). is_open z.core.state) e ∙ up
  nothing_more accepts now d rest old new none up unreset (IsRestTaken.ungreeted _ e) = ap (λ (z : Connection S). is_open z.core.state) e ∙ up
  nothing_more accepts now d rest old new none up unreset (IsRestTaken.unheard core _ taken _ _ e) =
      ap (λ (z : Connection S). is_open z.core.state) e
      ∙ core_passes accepts now (counted_in (length rest) old.core) core up (subst (λ (z : List ℕ). IsDatagramTaken accepts now z (counted_in (length rest) old.core) core) none taken)
  nothing_more accepts now d rest old new none up unreset (IsRestTaken.reset _ _ _ _ is _ _) = absurd (unreset is)
  nothing_more accepts now d rest old new none up unreset (IsRestTaken.accepted core frames read _ b _ _ _) =
      absurd (no_bytes (subst (λ (z : List ℕ). IsShort z) none (opened_short accepts _ _ _ rest b.number frames b.is.is)))

  -- ---- a 1-RTT packet

  pub frames_open : (now : Moment) (read : List Frame) (mid new : Connection S) → is_open mid.core.state ≡ true → (h : AreFramesHandled now read mid new) → NoneIsRefused h
      → (is_open new.core.state ≡ true) × (new.core.idle ≡ mid.core.idle)
  frames_open now read mid new up (AreFramesHandled.taken _ _ _ _ e) ok = (ap (λ (z : Connection S). is_open z.core.state) e ∙ up, ap (λ (z : Connection S). z.core.idle) e)
  frames_open now read mid new up (AreFramesHandled.ended _ shut _) ok = let z : true ≡ false = sym up ∙ shut in cc
  frames_open now read mid new up (AreFramesHandled.refused _ _ _ _) ok = absurd ok
  frames_open now read mid new up (AreFramesHandled.cut _ shut _) ok = let z : true ≡ false = sym up ∙ shut in cc

  pub brought : (accepts : AcceptsTag) (now : Moment) (d frames : List ℕ) (old core : Inner S) → BringsPacket accepts now d frames old core → IsDatagramTaken accepts now d old core
  brought accepts now d frames old core b = IsDatagramTaken.handled b.number frames b.opened b.is (IsPacketHandled.taken b.is_new b.taken)

  -- what the end of the 1-RTT packets does with it leaves it open, and its idle time as it is then
  pub data_open : (accepts : AcceptsTag) (now : Moment) (d rest : List ℕ) (old new : Connection S) → is_open old.core.state ≡ true → (is_reset_by old.control.ids.active.reset_token d → ⊥)
      → (is_some old.handshake.peer ≡ true → (core : Inner S) → IsDatagramTaken accepts now rest (counted_in (length rest) old.core) core → is_open core.state ≡ true)
      → (t : IsRestTaken accepts now d rest old new) → NoneIsRefusedBehind t → is_open new.core.state ≡ true
  data_open accepts now d rest old new up unreset opens (IsRestTaken.nothing _ e) ok = ap (λ (z : Connection S). is_open z.core.state) e ∙ up
  data_open accepts now d rest old new up unreset opens (IsRestTaken.ungreeted _ e) ok = ap (λ (z : Connection S). is_open z.core.state) e ∙ up
  data_open accepts now d rest old new up unreset opens (IsRestTaken.unheard core greeted taken _ _ e) ok = ap (λ (z : Connection S). is_open z.core.state) e ∙ opens greeted core taken
  data_open accepts now d rest old new up unreset opens (IsRestTaken.reset _ _ _ _ is _ _) ok = absurd (unreset is)
  data_open accepts now d rest old new up unreset opens (IsRestTaken.accepted core frames read greeted b _ _ handled) ok =
      (frames_open now read (connected_if now (record old { core = core })) new
      (connected_open now (record old { core = core }) ∙ opens greeted core (brought accepts now rest frames (counted_in (length rest) old.core) core b)) handled ok).0

  pub data_since : (accepts : AcceptsTag) (now : Moment) (d rest : List ℕ) (old new : Connection S) → (rest ≡ [] → ⊥) → is_some old.handshake.peer ≡ true → (is_reset_by old.control.ids.active.reset_token d → ⊥)
      → ((core : Inner S) → IsDatagramTaken accepts now rest (counted_in (length rest) old.core) core → (is_open core.state ≡ true) × (core.idle.since ≡ now))
      → (t : IsRestTaken accepts now d rest old new) → NoneIsRefusedBehind t → new.core.idle.since ≡ now
  data_since accepts now d rest old new some greeted unreset does (IsRestTaken.nothing none _) ok = absurd (some none)
  data_since accepts now d rest old new some greeted unreset does (IsRestTaken.ungreeted none _) ok = let z : true ≡ false = sym greeted ∙ ap is_some none in cc
  data_since accepts now d rest old new some greeted unreset does (IsRestTaken.unheard core _ taken _ _ e) ok = ap (λ (z : Connection S). z.core.idle.since) e ∙ (does core taken).1
  data_since accepts now d rest old new some greeted unreset does (IsRestTaken.reset _ _ _ _ is _ _) ok = absurd (unreset is)
  data_since accepts now d rest old new some greeted unreset does (IsRestTaken.accepted core frames read _ b _ _ handled) ok =
      let done = does core (brought accepts now rest frames (counted_in (length rest) old.core) core b) in
      let mid = connected_if now (record old { core = core }) in
      let behind = frames_open now read mid new (connected_open now (record old { core = core }) ∙ done.0) handled ok in
      ap (λ (z : IdleTimer). z.since) (behind.1 ∙ connected_since now (record old { core = core })) ∙ done.1

  -- ---- the whole datagram

  -- the steps of a datagram that comes to an end that is open, and none of whose frames is refused
  pub whole_open : (v : SessionView S) (now : Moment) (d : List ℕ) (old new : Connection S) → is_open old.core.state ≡ true
      → ((h : Handshake) (rest : List ℕ) (retried learned : Option (List ℕ)) (e : ConnectionError) → IsShakeTaken (v.accepts old.core.session) now d old.handshake h rest retried learned (Some e) → ⊥)
      → ((fed restarted met : Connection S) (rest : List ℕ) → IsFed v now d (counted_at (length d) old) fed rest None → IsRestarted now old.handshake fed restarted → IsMet now (is_some old.handshake.peer) restarted met
      → is_open met.core.state ≡ true → (t : IsRestTaken (v.accepts met.core.session) now d rest met new) → NoneIsRefusedBehind t → is_open new.core.state ≡ true)
      → (h : IsDatagramHandled v now d old new) → NoneIsRefusedIn h → is_open new.core.state ≡ true
  whole_open v now d old new up unended behind (IsDatagramHandled.closing shut _) ok = let z : true ≡ false = sym up ∙ shut in cc
  whole_open v now d old new up unended behind (IsDatagramHandled.ended mid rest e _ fed _ _) ok = absurd (unended fed.handshake rest fed.retried fed.learned e fed.taken)
  whole_open v now d old new up unended behind (IsDatagramHandled.taken fed restarted met rest _ is again meets takes) ok =
      behind fed restarted met rest is again meets
      (met_open now (is_some old.handshake.peer) restarted met meets ∙ restarted_open now old fed restarted again ∙ ap (λ (z : Connection S). is_open z.core.state) is.new_is ∙ up) takes ok
