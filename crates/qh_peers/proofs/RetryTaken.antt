-- A Retry packet leaves of a connection what its end keeps of ids, whether and why it is closed, and what it knows of its peer's hello.
use Rattle.std.proofs.Common.{◌≡◌, ℕ, Bool, true, false, List, length, Option, None, Some, is_some, refl, sym, ap, subst, ◌∙◌}
use Rattle.qh_base.specs.declared.connection_error.ConnectionError.{ConnectionError}
use Rattle.qh_base.specs.declared.time.Moment.{Moment}
use Rattle.qh_conn.proofs.InHears.{opened_short}
use Rattle.qh_conn.specs.Incoming.{IsClosingHeard, IsDatagramHandled, IsFed, IsMet, IsRestTaken, IsRestarted, IsShutConnected, counted_at, heard_at, is_reset_by}
use Rattle.qh_conn.specs.declared.connection.Connection.{Connection}
use Rattle.qh_control.specs.declared.control.ControlState.{ControlState}
use Rattle.qh_converse.proofs.LinkedParts.{ends_in_none}
use Rattle.qh_core.specs.Inner.{is_open}
use Rattle.qh_core.specs.Receiving.{IsDatagramTaken as IsCoreTaken, counted_in}
use Rattle.qh_core.specs.declared.inner.Inner.{Inner}
use Rattle.qh_core.specs.declared.state.State.{State}
use Rattle.qh_handshake.specs.Incoming.{SessionView}
use Rattle.qh_handshake.specs.declared.handshake.Handshake.{Handshake}
use Rattle.qh_packet.specs.Session.{AcceptsTag}
use Rattle.qh_peers.proofs.RetryPackets.{IsRetryPassed, retry_of_none, retry_passes}
use Rattle.qh_peers.specs.Ends.{IsRetry}
use Rattle.qh_peers.specs.Greets.{CanBeGreeted}
use Rattle.qh_peers.specs.Ids.{HasSameIds}
use Rattle.qh_spec.specs.Parted.{EndsWith, IsShort}

module _ {S : Type 0} where
  pub record IsLeft (old new : Connection S) : Type 0 where
    pub peer : new.handshake.peer ≡ old.handshake.peer
    pub control : new.control ≡ old.control
    pub side : new.core.side ≡ old.core.side
    pub local_id : new.core.local_id ≡ old.core.local_id
    pub remote_id : new.core.remote_id ≡ old.core.remote_id
    pub state : new.core.state ≡ old.core.state
    pub error : new.core.error ≡ old.core.error

  left_by : (old new to : Connection S) → new ≡ to → IsLeft old to → IsLeft old new
  left_by old new to is left = subst (λ (c : Connection S). IsLeft old c) (sym is) left

  both_left : (old mid new : Connection S) → IsLeft old mid → IsLeft mid new → IsLeft old new
  both_left old mid new a b = record {
    peer = b.peer ∙ a.peer;
    control = b.control ∙ a.control;
    side = b.side ∙ a.side;
    local_id = b.local_id ∙ a.local_id;
    remote_id = b.remote_id ∙ a.remote_id;
    state = b.state ∙ a.state;
    error = b.error ∙ a.error;
  }

  same_left : (c : Connection S) → IsLeft c c
  same_left c = record { peer = refl; control = refl; side = refl; local_id = refl; remote_id = refl; state = refl; error = refl }

  pub left_ids : (old new : Connection S) → IsLeft old new → HasSameIds old new
  left_ids old new left = record {
    greeted = λ was. ap is_some left.peer ∙ was;
    side = left.side;
    local_id = left.local_id;
    remote_length = ap (λ (id : List ℕ). length id) left.remote_id;
    state = left.state;
    ids = ap (λ (s : ControlState). s.ids) left.control;
    own_ids = ap (λ (s : ControlState). s.own_ids) left.control;
    id_limit = ap (λ (s : ControlState). s.id_limit) left.control;
    waiting = ap (λ (s : ControlState). s.queue.waiting) left.control;
    sent = ap (λ (s : ControlState). s.queue.sent) left.control;
  }

  -- ---- what is behind it

  -- an end that was greeted before isn't greeted now, nor is one that knows no hello
  unmet : (now : Moment) (was : Bool) (old new : Connection S) → was ≡ is_some old.handshake.peer → IsMet now was old new → new ≡ old
  unmet now was old new same (IsMet.before _ e) = e
  unmet now was old new same (IsMet.not_yet _ _ e) = e
  unmet now was old new same (IsMet.greeted early g) = let z : false ≡ true = sym early ∙ same ∙ ap is_some g.peer_is in cc

  restarted_shake : (now : Moment) (before : Handshake) (old new : Connection S) → IsRestarted now before old new → new.handshake ≡ old.handshake
  restarted_shake now before old new (IsRestarted.heard _ e) = ap (λ (z : Connection S). z.handshake) e
  restarted_shake now before old new (IsRestarted.quiet _ e) = ap (λ (z : Connection S). z.handshake) e

  restarted_left : (now : Moment) (before : Handshake) (old new : Connection S) → IsRestarted now before old new → IsLeft old new
  restarted_left now before old new (IsRestarted.heard _ e) = left_by old new _ e (record { peer = refl; control = refl; side = refl; local_id = refl; remote_id = refl; state = refl; error = refl })
  restarted_left now before old new (IsRestarted.quiet _ e) = left_by old new old e (same_left old)

  rest_shake : (accepts : AcceptsTag) (now : Moment) (d rest : List ℕ) (old new : Connection S) → (IsShort rest → ⊥) → IsRestTaken accepts now d rest old new → new.handshake ≡ old.handshake
  rest_shake accepts now d rest old new long (IsRestTaken.nothing _ e) = ap (λ (z : Connection S). z.handshake) e
  rest_shake accepts now d rest old new long (IsRestTaken.ungreeted _ e) = ap (λ (z : Connection S). z.handshake) e
  rest_shake accepts now d rest old new long (IsRestTaken.unheard _ _ _ _ _ e) = ap (λ (z : Connection S). z.handshake) e
  rest_shake accepts now d rest old new long (IsRestTaken.reset _ _ _ _ _ _ e) = ap (λ (z : Connection S). z.handshake) e
  rest_shake accepts now d rest old new long (IsRestTaken.accepted _ frames _ _ b _ _ _) = absurd (long (opened_short accepts _ _ _ rest b.number frames b.is.is))

  core_drops : (accepts : AcceptsTag) (now : Moment) (rest : List ℕ) (old core : Inner S) → (IsShort rest → ⊥) → is_open old.state ≡ true → IsCoreTaken accepts now rest old core → core ≡ old
  core_drops accepts now rest old core long up (IsCoreTaken.dropped _ _ e) = e
  core_drops accepts now rest old core long up (IsCoreTaken.handled number frames _ o _) = absurd (long (opened_short accepts _ _ _ rest number frames o.is))
  core_drops accepts now rest old core long up (IsCoreTaken.told_again _ _ _ was _ _) = let z : true ≡ false = sym up ∙ ap (λ (s : State). is_open s) was in cc
  core_drops accepts now rest old core long up (IsCoreTaken.closed_too _ _ _ was _ _) = let z : true ≡ false = sym up ∙ ap (λ (s : State). is_open s) was in cc
  core_drops accepts now rest old core long up (IsCoreTaken.draining _ was _) = let z : true ≡ false = sym up ∙ ap (λ (s : State). is_open s) was in cc
  core_drops accepts now rest old core long up (IsCoreTaken.drained was _) = let z : true ≡ false = sym up ∙ ap (λ (s : State). is_open s) was in cc

  rest_left : (accepts : AcceptsTag) (now : Moment) (d rest : List ℕ) (old new : Connection S) → (IsShort rest → ⊥) → is_open old.core.state ≡ true → (is_reset_by old.control.ids.active.reset_token d → ⊥)
      → IsRestTaken accepts now d rest old new → IsLeft old new
  rest_left accepts now d rest old new long up unreset (IsRestTaken.nothing _ e) = left_by old new old e (same_left old)
  rest_left accepts now d rest old new long up unreset (IsRestTaken.ungreeted _ e) = left_by old new old e (same_left old)
  rest_left accepts now d rest old new long up unreset (IsRestTaken.unheard core _ taken _ _ e) =
      left_by old new (record old { core = counted_in (length rest) old.core })
      (e ∙ ap (λ (z : Inner S). record old { core = z }) (core_drops accepts now rest (counted_in (length rest) old.core) core long up taken))
      (record { peer = refl; control = refl; side = refl; local_id = refl; remote_id = refl; state = refl; error = refl })
  rest_left accepts now d rest old new long up unreset (IsRestTaken.reset _ _ _ _ is _ _) = absurd (unreset is)
  rest_left accepts now d rest old new long up unreset (IsRestTaken.accepted _ frames _ _ b _ _ _) = absurd (long (opened_short accepts _ _ _ rest b.number frames b.is.is))

  -- ---- the whole datagram

  module _ (v : SessionView S) (now : Moment) (d : List ℕ) (r : IsRetry d) (c : Connection S) where
    abbrev base : Connection S
    base = counted_at (length d) c

    fed_passes : (fed : Connection S) (rest : List ℕ) (end : Option ConnectionError) → (is : IsFed v now d base fed rest end) → IsRetryPassed rest c.handshake is.handshake end
    fed_passes fed rest end is = retry_passes (v.accepts c.core.session) now d rest c.handshake is.handshake is.retried is.learned end r is.taken

    fed_left : (fed : Connection S) (rest : List ℕ) (end : Option ConnectionError) → IsFed v now d base fed rest end → IsLeft c fed
    fed_left fed rest end is =
        left_by c fed _ is.new_is
        (record { peer = (fed_passes fed rest end is).peer; control = refl; side = refl; local_id = refl; remote_id = refl; state = refl; error = refl })

    met_is : (fed restarted met : Connection S) (rest : List ℕ) → IsFed v now d base fed rest None → IsRestarted now c.handshake fed restarted → IsMet now (is_some c.handshake.peer) restarted met → met ≡ restarted
    met_is fed restarted met rest is again meets =
        let left = both_left c fed restarted (fed_left fed rest None is) (restarted_left now c.handshake fed restarted again) in
        unmet now (is_some c.handshake.peer) restarted met (ap is_some (sym left.peer)) meets

    not_ended : (fed : Connection S) (rest : List ℕ) (e : ConnectionError) → IsFed v now d base fed rest (Some e) → ⊥
    not_ended fed rest e is = let z : Some e ≡ None = (fed_passes fed rest (Some e) is).unended in cc

    -- an open end that isn't reset by it is left as it was
    pub retry_left : (new : Connection S) → is_open c.core.state ≡ true → (is_reset_by c.control.ids.active.reset_token d → ⊥) → IsDatagramHandled v now d c new → IsLeft c new
    retry_left new up unreset (IsDatagramHandled.closing shut _) = let z : true ≡ false = sym up ∙ shut in cc
    retry_left new up unreset (IsDatagramHandled.ended mid rest e _ fed _ _) = absurd (not_ended mid rest e fed)
    retry_left new up unreset (IsDatagramHandled.taken fed restarted met rest _ is again meets takes) =
        let before = both_left c fed restarted (fed_left fed rest None is) (restarted_left now c.handshake fed restarted again) in
        let left = left_by c met restarted (met_is fed restarted met rest is again meets) before in
        both_left c met new left
        (rest_left (v.accepts met.core.session) now d rest met new (fed_passes fed rest None is).long (ap (λ (s : State). is_open s) left.state ∙ up)
        (λ reset. unreset (subst (λ (s : ControlState). is_reset_by s.ids.active.reset_token d) left.control reset)) takes)

    -- ---- whether it can be greeted

    counted_can : (old new peer : Handshake) (n : ℕ) → new ≡ record old { bytes_received = n } → CanBeGreeted old peer → CanBeGreeted new peer
    counted_can old new peer n is can = subst (λ (h : Handshake). CanBeGreeted h peer) (sym is) (record { source = can.source; space = can.space })

    -- an end that closed isn't connected by it
    shut_same : (rest : List ℕ) (old mid : Connection S) → EndsWith rest d → IsShutConnected (v.accepts c.core.session) rest old mid → mid ≡ old
    shut_same rest old mid ends (IsShutConnected.brought b _) = absurd (ends_in_none rest d (retry_of_none d r) (opened_short (v.accepts c.core.session) _ _ _ rest b.number b.frames b.opened) ends)
    shut_same rest old mid ends (IsShutConnected.still _ e) = e

    closing_can : (new : Connection S) (peer : Handshake) → IsClosingHeard v now d base new → CanBeGreeted c.handshake peer → CanBeGreeted new.handshake peer
    closing_can new peer (IsClosingHeard.initial _ _ e) can = counted_can c.handshake new.handshake peer _ (ap (λ (z : Connection S). z.handshake) e) can
    closing_can new peer (IsClosingHeard.ungreeted _ _ _ e) can = counted_can c.handshake new.handshake peer _ (ap (λ (z : Connection S). z.handshake) e) can
    closing_can new peer (IsClosingHeard.greeted rest mid _ _ ends _ shut _ e) can =
        let same = shut_same rest (heard_at (length d) base base.core) mid ends shut in
        counted_can c.handshake new.handshake peer _ (ap (λ (z : Connection S). z.handshake) e ∙ ap (λ (z : Connection S). z.handshake) same) can

    pub retry_can : (new : Connection S) (peer : Handshake) → IsDatagramHandled v now d c new → CanBeGreeted c.handshake peer → CanBeGreeted new.handshake peer
    retry_can new peer (IsDatagramHandled.closing _ heard) can = closing_can new peer heard can
    retry_can new peer (IsDatagramHandled.ended mid rest e _ fed _ _) can = absurd (not_ended mid rest e fed)
    retry_can new peer (IsDatagramHandled.taken fed restarted met rest _ is again meets takes) can =
        let passed = fed_passes fed rest None is in
        let met_same : met.handshake ≡ restarted.handshake = ap (λ (z : Connection S). z.handshake) (met_is fed restarted met rest is again meets) in
        let same : new.handshake ≡ is.handshake =
        rest_shake (v.accepts met.core.session) now d rest met new passed.long takes ∙ met_same ∙ restarted_shake now c.handshake fed restarted again ∙ ap (λ (z : Connection S). z.handshake) is.new_is in
        subst (λ (h : Handshake). CanBeGreeted h peer) (sym same) (passed.can peer can)
