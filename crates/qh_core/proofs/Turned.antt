-- What a handshake beside an end makes of it: the end stays whole, and stands to all that was done as before.
use Rattle.std.proofs.Common.{◌≡◌, ℕ, Bool, true, false, List, length, Option, Some, refl, sym, ap, subst, ◌∙◌, inl, inr}
use Rattle.std.proofs.lemmas.Bool.{both_ways}
use Rattle.std.specs.Prelude.{OnErr, OnOk, Result, Ok, Err}
use Rattle.qh_base.specs.declared.connection_error.ConnectionError.{ConnectionError}
use Rattle.qh_base.specs.declared.connection_error.ConnectionError.TheVariants as error
use Rattle.qh_base.specs.declared.time.Moment.{Moment}
use Rattle.qh_core.proofs.Ends.{ended_whole}
use Rattle.qh_core.proofs.Followed.{carried_on, same_end, same_streams, space_follows, unchanged}
use Rattle.qh_core.proofs.Following.{others_follow, same_follows}
use Rattle.qh_core.proofs.PacketsCome.{failed_end, failed_follows}
use Rattle.qh_core.specs.Event.{is_drained}
use Rattle.qh_core.specs.Follows.{Following, Follows}
use Rattle.qh_core.specs.Inner.{IsConnection, IsFailedBy, IsSameEnd, is_open, with_space}
use Rattle.qh_core.specs.Made.{IsTurned}
use Rattle.qh_core.specs.Made.IsTurned.{faulted, draining, failed, close_told, closed_heard, packet_accepted, packet_sent, renamed, log_started, items_taken}
use Rattle.qh_core.specs.Receiving.{BringsClose, IsClosedHeard, IsDatagramTaken, IsDrainingFrom}
use Rattle.qh_core.specs.Receiving.IsClosedHeard.{told_again as said_again, closed_too as both_closed, draining as still_draining, drained as still_drained}
use Rattle.qh_core.specs.Sending.{without_close_due}
use Rattle.qh_core.specs.declared.idle.IdleTimer.{IdleTimer}
use Rattle.qh_core.specs.declared.inner.Inner.{Inner}
use Rattle.qh_core.specs.declared.state.Close.{Close}
use Rattle.qh_core.specs.declared.state.State.{State}
use Rattle.qh_core.specs.declared.state.State.TheVariants.{Established, Closed, Draining, Drained}
use Rattle.qh_space.specs.declared.data_space.DataSpace.{DataSpace}
use Rattle.qh_spec.specs.Transcript.{Act}
use Rattle.qh_spec.specs.declared.sides.Side.{Side}
use Rattle.qh_spec.specs.declared.sides.Space.{Space}
use Rattle.qh_streams.specs.declared.items.Item.{Item}

-- an end that closed isn't drained
closed_stays : {X : Type 0} (s : State) (reason : Close) (is_due : Bool) (until : Moment) → s ≡ Closed reason is_due until → s ≡ Drained → X
closed_stays s reason is_due until is drained = absurd (let both : Closed reason is_due until ≡ Drained = sym is ∙ drained in cc)

told_open : (s : State) → is_open (without_close_due s) ≡ is_open s
told_open Established = refl
told_open (Closed reason is_due until) = refl
told_open (Draining until) = refl
told_open Drained = refl

module _ {S : Type 0} where
  -- ---- it stays whole

  state_whole : (old : Inner S) (state : State) → is_open state ≡ is_open old.state → (old.state ≡ Drained → state ≡ Drained) → IsConnection old → IsConnection (record old { state = state })
  state_whole old state same drained h = record {
    space = h.space;
    of = h.of;
    not_lost = λ opened. h.not_lost (sym same ∙ opened);
    lost = λ shut. h.lost (sym same ∙ shut);
    drained = λ memory. drained (h.drained memory);
    no_half = h.no_half;
  }

  pub drained_whole : (now : Moment) (e : ConnectionError) (old new : Inner S) → IsConnection old → (e ≡ error.Memory → ⊥) → IsDrainingFrom now e old new → IsConnection new
  drained_whole now e old new h named d = ended_whole old new (Draining d.until) e h refl named d.rest_is

  pub told_whole : (old new : Inner S) → IsConnection old → new ≡ record old { state = without_close_due old.state } → IsConnection new
  told_whole old new h e = subst (λ (c : Inner S). IsConnection c) (sym e) (state_whole old (without_close_due old.state) (told_open old.state) (λ drained. ap without_close_due drained) h)

  pub heard_whole : (brings_close : Bool) (old new : Inner S) → IsConnection old → IsClosedHeard brings_close old new → IsConnection new
  heard_whole brings_close old new h (said_again reason is_due until is no_close e) =
      subst (λ (c : Inner S). IsConnection c) (sym e) (state_whole old (Closed reason true until) (sym (ap is_open is)) (closed_stays old.state reason is_due until is) h)
  heard_whole brings_close old new h (both_closed reason is_due until is closes e) =
      subst (λ (c : Inner S). IsConnection c) (sym e) (state_whole old (Draining until) (sym (ap is_open is)) (closed_stays old.state reason is_due until is) h)
  heard_whole brings_close old new h (still_draining until is e) = subst (λ (c : Inner S). IsConnection c) (sym e) h
  heard_whole brings_close old new h (still_drained is e) = subst (λ (c : Inner S). IsConnection c) (sym e) h

  pub idle_whole : (old new : Inner S) (idle : IdleTimer) → IsConnection old → new ≡ record old { idle = idle } → IsConnection new
  idle_whole old new idle h e = subst (λ (c : Inner S). IsConnection c) (sym e) (record { space = h.space; of = h.of; not_lost = h.not_lost; lost = h.lost; drained = h.drained; no_half = h.no_half })

  pub renamed_whole : (old new : Inner S) (id : List ℕ) → IsConnection old → new ≡ record old { remote_id = id } → IsConnection new
  renamed_whole old new id h e = subst (λ (c : Inner S). IsConnection c) (sym e) (record { space = h.space; of = h.of; not_lost = h.not_lost; lost = h.lost; drained = h.drained; no_half = h.no_half })

  pub log_whole : (old new : Inner S) (log : Option (List Item)) → IsConnection old → new ≡ with_space old (record old.space { log = log }) → IsConnection new
  log_whole old new log h e = subst (λ (c : Inner S). IsConnection c) (sym e) (record {
    space = record { owed = h.space.owed; next = h.space.next; bound = h.space.bound; acked = h.space.acked; in_order = h.space.in_order; due = h.space.due };
    of = h.of;
    not_lost = h.not_lost;
    lost = h.lost;
    drained = h.drained;
    no_half = h.no_half;
  })

  -- ---- a datagram that came to an end that isn't open

  pub heard_taken : (accepts : Side → Space → ℕ → List ℕ → Bool) (now : Moment) (came : List ℕ) (old new : Inner S) (brings_close : Bool)
      → (brings_close ≡ true → BringsClose accepts old came) → (brings_close ≡ false → BringsClose accepts old came → ⊥) → IsClosedHeard brings_close old new → IsDatagramTaken accepts now came old new
  heard_taken accepts now came old new brings_close brings lacks (said_again reason is_due until is no_close e) = IsDatagramTaken.told_again reason is_due until is (lacks no_close) e
  heard_taken accepts now came old new brings_close brings lacks (both_closed reason is_due until is closes e) = IsDatagramTaken.closed_too reason is_due until is (brings closes) e
  heard_taken accepts now came old new brings_close brings lacks (still_draining until is e) = IsDatagramTaken.draining until is e
  heard_taken accepts now came old new brings_close brings lacks (still_drained is e) = IsDatagramTaken.drained is e

  -- ---- it stands to all that was done as before

  -- want of memory drains it
  lives : (c : Inner S) → IsConnection c → is_drained c.state ≡ false → c.error ≡ Some error.Memory → ⊥
  lives c h undrained memory = both_ways (is_drained c.state) undrained (ap is_drained (h.drained memory))

  ended_follows : (c d : Inner S) (state : State) (e : ConnectionError) (t : List Act) → (c.error ≡ Some error.Memory → ⊥) → d ≡ record c { state = state; error = Some e } → Follows c t → Follows d t
  ended_follows c d state e t alive is f = same_follows _ d t is (others_follow c c.idle state (Some e) c.is_lost_told c.is_drained_told c.udp_tx c.udp_rx t (λ memory. absurd (alive memory)) f)

  state_follows : (c d : Inner S) (state : State) (t : List Act) → d ≡ record c { state = state } → Follows c t → Follows d t
  state_follows c d state t is f = same_follows _ d t is (others_follow c c.idle state c.error c.is_lost_told c.is_drained_told c.udp_tx c.udp_rx t (λ memory. memory) f)

  idle_follows : (c d : Inner S) (idle : IdleTimer) (t : List Act) → d ≡ record c { idle = idle } → Follows c t → Follows d t
  idle_follows c d idle t is f = same_follows _ d t is (others_follow c idle c.state c.error c.is_lost_told c.is_drained_told c.udp_tx c.udp_rx t (λ memory. memory) f)

  renamed_follows : (c d : Inner S) (id : List ℕ) (t : List Act) → length id ≡ length c.remote_id → d ≡ record c { remote_id = id } → Follows c t → Follows d t
  unfolding Follows
  renamed_follows c d id t same is f = subst (λ (d : Inner S). Following d t) (sym is) (unchanged c (record c { remote_id = id }) t (same_end refl refl same refl) refl (λ memory. memory) f)

  pub log_follows : (c d : Inner S) (log : Option (List Item)) (t : List Act) → d ≡ with_space c (record c.space { log = log }) → Follows c t → Follows d t
  unfolding Follows
  log_follows c d log t is f =
      let kept = record c.space { log = log } in
      subst (λ (d : Inner S). Following d t) (sym is) (elim f.is_space [
        | inl memory ↦ carried_on c (with_space c kept) t f.space (same_end refl refl refl refl) (inl memory) (space_follows c t f)
        | inr same ↦ carried_on c (with_space c kept) t kept (same_end refl refl refl refl) (inr refl)
            (same_streams c.side (length c.local_id) (length c.remote_id) c.config f.space kept t (ap (λ (s : DataSpace). s.streams) same) (ap (λ (s : DataSpace). s.dedup) same)
            (ap (λ (s : DataSpace). s.datagram_receive) same) (space_follows c t f))
      ])

  pub log_end : (c d : Inner S) (log : Option (List Item)) → d ≡ with_space c (record c.space { log = log }) → IsSameEnd c d
  log_end c d log is = rw is (same_end refl refl refl refl)

  -- a log was started, or memory was wanting for that
  pub started : {E : Type 0} (c d : Inner S) (answer : Result Unit E) (log : Option (List Item)) → OnOk answer (d ≡ with_space c (record c.space { log = log })) → OnErr answer (d ≡ c)
      → (kept : Option (List Item)) × (d ≡ with_space c (record c.space { log = kept }))
  started c d (Ok _) log ok err = (log, ok)
  started c d (Err e) log ok err = (c.space.log, err)

  heard_follows : (brings_close : Bool) (c d : Inner S) (t : List Act) → IsClosedHeard brings_close c d → Follows c t → Follows d t
  heard_follows brings_close c d t (said_again reason is_due until is no_close e) f = state_follows c d (Closed reason true until) t e f
  heard_follows brings_close c d t (both_closed reason is_due until is closes e) f = state_follows c d (Draining until) t e f
  heard_follows brings_close c d t (still_draining until is e) f = same_follows c d t e f
  heard_follows brings_close c d t (still_drained is e) f = same_follows c d t e f

  fail_follows : (c d : Inner S) (t : List Act) → IsFailedBy c d → Follows c t → Follows d t
  unfolding Follows
  fail_follows c d t wanting f = failed_follows c d t wanting f

  pub turned_follows : (c d : Inner S) → IsTurned c d → IsConnection c → (t : List Act) → Follows c t → Follows d t
  turned_follows c d (faulted now e undrained is) h t f = ended_follows c d (Closed is.reason true is.closed.until) (error.TransportError e) t (lives c h undrained) is.closed.rest_is f
  turned_follows c d (draining now e undrained named is) h t f = ended_follows c d (Draining is.until) e t (lives c h undrained) is.rest_is f
  turned_follows c d (failed is lost probes) h t f = fail_follows c d t is f
  turned_follows c d (close_told is) h t f = state_follows c d (without_close_due c.state) t is f
  turned_follows c d (closed_heard brings_close shut is) h t f = heard_follows brings_close c d t is f
  turned_follows c d (packet_accepted now is) h t f = idle_follows c d _ t is f
  turned_follows c d (packet_sent now is) h t f = idle_follows c d _ t is f
  turned_follows c d (renamed id same is) h t f = renamed_follows c d id t same is f
  turned_follows c d (log_started unused arrived off is) h t f = log_follows c d _ t is f
  turned_follows c d (items_taken is) h t f = log_follows c d _ t is f

  heard_end : (brings_close : Bool) (c d : Inner S) → IsClosedHeard brings_close c d → IsSameEnd c d
  heard_end brings_close c d (said_again reason is_due until is no_close e) = rw e (same_end refl refl refl refl)
  heard_end brings_close c d (both_closed reason is_due until is closes e) = rw e (same_end refl refl refl refl)
  heard_end brings_close c d (still_draining until is e) = rw e (same_end refl refl refl refl)
  heard_end brings_close c d (still_drained is e) = rw e (same_end refl refl refl refl)

  pub turned_end : (c d : Inner S) → IsTurned c d → IsSameEnd c d
  turned_end c d (faulted now e undrained is) = rw is.closed.rest_is (same_end refl refl refl refl)
  turned_end c d (draining now e undrained named is) = rw is.rest_is (same_end refl refl refl refl)
  turned_end c d (failed is lost probes) = failed_end c d is
  turned_end c d (close_told is) = rw is (same_end refl refl refl refl)
  turned_end c d (closed_heard brings_close shut is) = heard_end brings_close c d is
  turned_end c d (packet_accepted now is) = rw is (same_end refl refl refl refl)
  turned_end c d (packet_sent now is) = rw is (same_end refl refl refl refl)
  turned_end c d (renamed id same is) = rw is (same_end refl refl same refl)
  turned_end c d (log_started unused arrived off is) = rw is (same_end refl refl refl refl)
  turned_end c d (items_taken is) = rw is (same_end refl refl refl refl)

  -- ---- its session stays

  heard_stays : (brings_close : Bool) (c d : Inner S) → IsClosedHeard brings_close c d → d.session ≡ c.session
  heard_stays brings_close c d (said_again reason is_due until is no_close e) = ap (λ (z : Inner S). z.session) e
  heard_stays brings_close c d (both_closed reason is_due until is closes e) = ap (λ (z : Inner S). z.session) e
  heard_stays brings_close c d (still_draining until is e) = ap (λ (z : Inner S). z.session) e
  heard_stays brings_close c d (still_drained is e) = ap (λ (z : Inner S). z.session) e

  pub turned_stays : (c d : Inner S) → IsTurned c d → d.session ≡ c.session
  turned_stays c d (faulted now e undrained is) = ap (λ (z : Inner S). z.session) is.closed.rest_is
  turned_stays c d (draining now e undrained named is) = ap (λ (z : Inner S). z.session) is.rest_is
  turned_stays c d (failed is lost probes) = ap (λ (z : Inner S). z.session) is.rest_is
  turned_stays c d (close_told is) = ap (λ (z : Inner S). z.session) is
  turned_stays c d (closed_heard brings_close shut is) = heard_stays brings_close c d is
  turned_stays c d (packet_accepted now is) = ap (λ (z : Inner S). z.session) is
  turned_stays c d (packet_sent now is) = ap (λ (z : Inner S). z.session) is
  turned_stays c d (renamed id same is) = ap (λ (z : Inner S). z.session) is
  turned_stays c d (log_started unused arrived off is) = ap (λ (z : Inner S). z.session) is
  turned_stays c d (items_taken is) = ap (λ (z : Inner S). z.session) is

  -- ---- another session

  pub session_follows : (c : Inner S) (s : S) (t : List Act) → Follows c t → Follows (record c { session = s }) t
  unfolding Follows
  session_follows c s t f = unchanged c (record c { session = s }) t (same_end refl refl refl refl) refl (λ memory. memory) f

  pub session_whole : (c : Inner S) (s : S) → IsConnection c → IsConnection (record c { session = s })
  session_whole c s h = record { space = h.space; of = h.of; not_lost = h.not_lost; lost = h.lost; drained = h.drained; no_half = h.no_half }
