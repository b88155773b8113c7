-- What a datagram leaves of an end that no datagram tells.
use Rattle.std.proofs.Common.{◌≡◌, ◌⊎◌, inl, inr, Bool, true, false, List, [], ℕ, Option, Some, None, refl, sym, ◌∙◌, ap, subst, length}
use Rattle.std.specs.Prelude.{Ok, if◌then◌else◌, is_some}
use Rattle.std.proofs.lemmas.Bool.{false≢true}
use Rattle.std.proofs.lemmas.Option.{none-some, same_Some}
use Rattle.qh_base.specs.declared.connection_error.ConnectionError.{ConnectionError}
use Rattle.qh_base.specs.declared.connection_error.ConnectionError.TheVariants as lost
use Rattle.qh_base.specs.declared.time.Moment.{Moment}
use Rattle.qh_conn.specs.Greeting.{IsGreetedNow, connected, with_core}
use Rattle.qh_conn.specs.Incoming.{AreFramesHandled, EndsBy, IsClosingHeard, IsDatagramHandled, IsFed, IsMet, IsRestTaken, IsRestarted, IsShutConnected, connected_if, counted_at, heard_at}
use Rattle.qh_conn.specs.Incoming.{AreFramesHandled as frames_handled}
use Rattle.qh_conn.specs.Incoming.{IsClosingHeard as closing_heard}
use Rattle.qh_conn.specs.Incoming.{IsDatagramHandled as datagram_handled}
use Rattle.qh_conn.specs.Incoming.{IsMet as met_by}
use Rattle.qh_conn.specs.Incoming.{IsRestTaken as rest_taken}
use Rattle.qh_conn.specs.Incoming.{IsRestarted as restarted_by}
use Rattle.qh_conn.specs.Incoming.{IsShutConnected as shut}
use Rattle.qh_conn.specs.Items.{noted, streams_taken}
use Rattle.qh_control.specs.declared.items.ConnectionItem.{ConnectionItem}
use Rattle.qh_converse.specs.Settled.{idle_of, milliseconds}
use Rattle.qh_core.proofs.Undisturbed.{datagram_kept}
use Rattle.qh_core.specs.Inner.{HaveSameCounts, is_client, is_open}
use Rattle.qh_core.specs.Receiving.{IsClosedHeard, IsDatagramTaken as IsCoreTaken, IsDrainingFrom, IsFaulted, counted_in}
use Rattle.qh_core.specs.Receiving.{IsClosedHeard as closed_heard}
use Rattle.qh_core.specs.Receiving.{IsDatagramTaken as core_taken}
use Rattle.qh_core.specs.Receiving.{IsPacketHandled as packet_handled}
use Rattle.qh_core.specs.Timers.{IsUndisturbed, RunsOn}
use Rattle.qh_core.specs.declared.inner.Inner.{Inner}
use Rattle.qh_core.specs.declared.idle.IdleTimer.{IdleTimer}
use Rattle.qh_frame.specs.declared.frame.Frame.{Frame}
use Rattle.qh_space.specs.declared.data_space.DataSpace.{DataSpace}
use Rattle.qh_base.specs.declared.transport_error.TransportError.{TransportError}
use Rattle.qh_handshake.specs.Incoming.{Form}
use Rattle.qh_handshake.specs.GoesOn.{GoesOn}
use Rattle.qh_handshake.specs.Incoming.{AreFramesTaken, ArePacketsTaken, IsDatagramTaken, IsInitialTaken, IsPacketHandled, SessionView}
use Rattle.qh_handshake.specs.Incoming.{AreFramesTaken as hs_frames}
use Rattle.qh_handshake.specs.Incoming.{ArePacketsTaken as hs_packets}
use Rattle.qh_handshake.specs.Incoming.{IsDatagramTaken as hs_datagram}
use Rattle.qh_handshake.specs.Incoming.{IsInitialTaken as hs_initial}
use Rattle.qh_handshake.specs.Incoming.{IsPacketHandled as hs_packet}
use Rattle.qh_handshake.specs.declared.handshake.Handshake.{Handshake}
use Rattle.qh_handshake.specs.declared.initial_space.InitialSpace.{InitialSpace}
use Rattle.qh_handshake.proofs.GoingOn.{taken_goes}
use Rattle.qh_hello.specs.declared.transport_parameters.TransportParameters.{TransportParameters}
use Rattle.qh_packet.specs.Session.{AcceptsTag, PlainKeys}
use Rattle.qh_pair.specs.EndCalls.{IsUndisturbedBy}
use Rattle.qh_pair.specs.Ends.{End}

-- ---- the handshake's errors

frames_untimed : (now : ℕ) (bytes : List ℕ) (old new : InitialSpace) → AreFramesTaken now bytes old new (Some lost.TimedOut) → ⊥
frames_untimed now bytes old new (hs_frames.more _ rest frame _ mid _ _ begins none taken others) = frames_untimed now rest mid new others

packet_untimed : (now : Moment) (number : ℕ) (bytes : List ℕ) (old new : InitialSpace) → IsPacketHandled now number bytes old new (Some lost.TimedOut) → ⊥
packet_untimed now number bytes old new (hs_packet.taken mid eliciting _ fresh valid accepted frames) = frames_untimed now.0 bytes mid new frames

initial_untimed : (accepts : AcceptsTag) (now : Moment) (f : Form) (old new : Handshake) (learned : Option (List ℕ)) → IsInitialTaken accepts now f old new learned (Some lost.TimedOut) → ⊥
initial_untimed accepts now f old new _ (hs_initial.ended s mid number bytes _ is opened handled e) = packet_untimed now number bytes s mid handled
initial_untimed accepts now f old new learned (hs_initial.handled s mid number frames _ _ _ _ _ x) = elim x [ ]

packets_untimed : (accepts : AcceptsTag) (now : Moment) (bytes rest : List ℕ) (old new : Handshake) (learned : Option (List ℕ)) → ArePacketsTaken accepts now bytes rest old new learned (Some lost.TimedOut) → ⊥
packets_untimed accepts now bytes rest old new _ (hs_packets.more _ destination behind _ f _ mid _ one later _ begins taken others) = packets_untimed accepts now behind rest mid new later others
packets_untimed accepts now bytes rest old new learned (hs_packets.ended _ destination _ f _ _ _ _ begins taken) = initial_untimed accepts now f old new learned taken

datagram_untimed : (accepts : AcceptsTag) (now : Moment) (d rest : List ℕ) (old new : Handshake) (retried learned : Option (List ℕ)) → IsDatagramTaken accepts now d old new rest retried learned (Some lost.TimedOut) → ⊥
datagram_untimed accepts now d rest old new _ learned (hs_datagram.packets _ _ _ retry mismatch taken) = packets_untimed accepts now d rest _ new learned taken

-- ---- one end behind another

pub still_by : (now : Moment) (c : End) → IsUndisturbedBy now c c
still_by now c = record { counts = record { opened = λ n h. h; accepted = λ n h. h }; times = λ own h. h; since = inl refl; timed_out = λ e. e; known = λ some. some }

-- what was known still is
known_on : (o p : Option TransportParameters) → (p ≡ None → o ≡ None) → is_some o ≡ true → is_some p ≡ true
known_on o None back some = absurd (false≢true (sym (ap is_some (back refl)) ∙ some))
known_on o (Some p) back some = refl

pub by_trans : (now : Moment) (a b c : End) → IsUndisturbedBy now a b → IsUndisturbedBy now b c → IsUndisturbedBy now a c
by_trans now a b c f g = record {
  counts = record { opened = λ n h. g.counts.opened n (f.counts.opened n h); accepted = λ n h. g.counts.accepted n (f.counts.accepted n h) };
  times = λ own h. g.times own (f.times own h);
  since = elim g.since as (λ _. (c.core.idle.since ≡ a.core.idle.since) ⊎ (c.core.idle.since ≡ now)) [
    | inl e ↦ elim f.since as (λ _. (c.core.idle.since ≡ a.core.idle.since) ⊎ (c.core.idle.since ≡ now)) [ inl h ↦ inl (e ∙ h) | inr h ↦ inr (e ∙ h) ]
    | inr e ↦ inr e
  ];
  timed_out = λ e. f.timed_out (g.timed_out e);
  known = λ some. g.known (f.known some);
}

-- the handshake knows the same of its peer, and the end of the 1-RTT packets is as undisturbed
pub by_core : (now : Moment) (c d : End) → d.handshake.peer ≡ c.handshake.peer → d.handshake.parameters ≡ c.handshake.parameters → (is_open d.core.state ≡ true → is_open c.core.state ≡ true)
    → IsUndisturbed now c.core d.core → IsUndisturbedBy now c d
by_core now c d peer said opens u = record {
  counts = record {
    opened = λ n h. (u.counts.bi_opened ∙ h.0, λ none. h.1 (sym peer ∙ none));
    accepted = λ n h. (u.counts.bi_accepted ∙ h.0, λ none. h.1 (sym peer ∙ none));
  };
  times = λ own h. record {
    said = ap (λ (z : TransportParameters). z.max_idle_timeout) said ∙ h.said;
    ungreeted = λ up none. u.idle.timeout ∙ h.ungreeted (opens up) (sym peer ∙ none);
    greeted = λ p up is. u.idle.timeout ∙ h.greeted p (opens up) (sym peer ∙ is);
  };
  since = u.idle.since;
  timed_out = u.timed_out;
  known = λ some. ap is_some peer ∙ some;
}

-- nothing of that changed but the state, which isn't open, and the error
by_end : (now : Moment) (c d : End) (e : ConnectionError) → (d.handshake.peer ≡ None → c.handshake.peer ≡ None) → d.handshake.parameters ≡ c.handshake.parameters → d.core.space ≡ c.core.space → d.core.idle ≡ c.core.idle
    → is_open d.core.state ≡ false → (d.core.error ≡ c.core.error) ⊎ ((d.core.error ≡ Some e) × (e ≡ lost.TimedOut → ⊥)) → IsUndisturbedBy now c d
by_end now c d e back said space idle shut error = record {
  counts = record {
    opened = λ n h. (ap (λ (z : DataSpace). z.streams.bi.opened) space ∙ h.0, λ none. h.1 (back none));
    accepted = λ n h. (ap (λ (z : DataSpace). z.streams.bi.accepted) space ∙ h.0, λ none. h.1 (back none));
  };
  times = λ own h. record {
    said = ap (λ (z : TransportParameters). z.max_idle_timeout) said ∙ h.said;
    ungreeted = λ up none. absurd (false≢true (sym shut ∙ up));
    greeted = λ p up is. absurd (false≢true (sym shut ∙ up));
  };
  since = inl (ap (λ (z : IdleTimer). z.since) idle);
  timed_out = λ e2. elim error as (λ _. c.core.error ≡ Some lost.TimedOut) [ inl same ↦ sym same ∙ e2 | inr other ↦ absurd (other.1 (same_Some _ _ (sym other.0 ∙ e2))) ];
  known = known_on c.handshake.peer d.handshake.peer back;
}

same_core : (now : Moment) (c : Inner PlainKeys) → IsUndisturbed now c c
same_core now c = record { counts = record { bi_opened = refl; bi_accepted = refl; uni_opened = refl; uni_accepted = refl }; idle = record { timeout = refl; since = inl refl }; timed_out = λ e. e }

drained_by : (now : Moment) (c d : End) (e : ConnectionError) → (e ≡ lost.TimedOut → ⊥) → (d.handshake.peer ≡ None → c.handshake.peer ≡ None) → d.handshake.parameters ≡ c.handshake.parameters
    → IsDrainingFrom now e c.core d.core → IsUndisturbedBy now c d
drained_by now c d e named back said f =
    let r = f.rest_is in
    by_end now c d e back said (ap (λ (z : Inner PlainKeys). z.space) r) (ap (λ (z : Inner PlainKeys). z.idle) r) (ap (λ (z : Inner PlainKeys). is_open z.state) r) (inr (ap (λ (z : Inner PlainKeys). z.error) r, named))

faulted_by : (now : Moment) (c d : End) (x : TransportError) → (d.handshake.peer ≡ None → c.handshake.peer ≡ None) → d.handshake.parameters ≡ c.handshake.parameters
    → IsFaulted now x c.core d.core → IsUndisturbedBy now c d
faulted_by now c d x back said f =
    let r = f.closed.rest_is in
    by_end now c d (lost.TransportError x) back said (ap (λ (z : Inner PlainKeys). z.space) r) (ap (λ (z : Inner PlainKeys). z.idle) r) (ap (λ (z : Inner PlainKeys). is_open z.state) r)
    (inr (ap (λ (z : Inner PlainKeys). z.error) r, λ same. cc))

-- an error ended it
ended_by : (now : Moment) (c d : End) (e : ConnectionError) → (e ≡ lost.TimedOut → ⊥) → (d.handshake.peer ≡ None → c.handshake.peer ≡ None) → d.handshake.parameters ≡ c.handshake.parameters → EndsBy now e c.core d.core
    → IsUndisturbedBy now c d
ended_by now c d (lost.TransportError x) named back said f = faulted_by now c d x back said f
ended_by now c d lost.VersionMismatch named back said f = drained_by now c d lost.VersionMismatch named back said f
ended_by now c d (lost.ConnectionClosed x) named back said f = drained_by now c d (lost.ConnectionClosed x) named back said f
ended_by now c d (lost.ApplicationClosed x) named back said f = drained_by now c d (lost.ApplicationClosed x) named back said f
ended_by now c d lost.Reset named back said f = drained_by now c d lost.Reset named back said f
ended_by now c d lost.TimedOut named back said f = drained_by now c d lost.TimedOut named back said f
ended_by now c d lost.LocallyClosed named back said f = drained_by now c d lost.LocallyClosed named back said f
ended_by now c d lost.CidsExhausted named back said f = drained_by now c d lost.CidsExhausted named back said f
ended_by now c d lost.Memory named back said f = drained_by now c d lost.Memory named back said f

-- it isn't open then
ends_down : (now : Moment) (e : ConnectionError) (old new : Inner PlainKeys) → EndsBy now e old new → is_open new.state ≡ false
ends_down now (lost.TransportError x) old new f = ap (λ (z : Inner PlainKeys). is_open z.state) f.closed.rest_is
ends_down now lost.VersionMismatch old new f = ap (λ (z : Inner PlainKeys). is_open z.state) f.rest_is
ends_down now (lost.ConnectionClosed x) old new f = ap (λ (z : Inner PlainKeys). is_open z.state) f.rest_is
ends_down now (lost.ApplicationClosed x) old new f = ap (λ (z : Inner PlainKeys). is_open z.state) f.rest_is
ends_down now lost.Reset old new f = ap (λ (z : Inner PlainKeys). is_open z.state) f.rest_is
ends_down now lost.TimedOut old new f = ap (λ (z : Inner PlainKeys). is_open z.state) f.rest_is
ends_down now lost.LocallyClosed old new f = ap (λ (z : Inner PlainKeys). is_open z.state) f.rest_is
ends_down now lost.CidsExhausted old new f = ap (λ (z : Inner PlainKeys). is_open z.state) f.rest_is
ends_down now lost.Memory old new f = ap (λ (z : Inner PlainKeys). is_open z.state) f.rest_is

-- ---- a datagram that comes to the end of the 1-RTT packets

core_undisturbed : (accepts : AcceptsTag) (now : Moment) (rest : List ℕ) (old new : Inner PlainKeys) → IsCoreTaken accepts now rest (counted_in (length rest) old) new → IsUndisturbed now old new
core_undisturbed accepts now rest old new taken = datagram_kept {A = Unit {0}} accepts old new now rest _ (Ok tt) taken

-- an end that isn't open doesn't open by it
core_shut : (accepts : AcceptsTag) (now : Moment) (rest : List ℕ) (old new : Inner PlainKeys) → is_open old.state ≡ false → IsCoreTaken accepts now rest old new → is_open new.state ≡ false
core_shut accepts now rest old new shut (core_taken.dropped up none e) = absurd (false≢true (sym shut ∙ up))
core_shut accepts now rest old new shut (core_taken.handled number bytes up opened h) = absurd (false≢true (sym shut ∙ up))
core_shut accepts now rest old new shut (core_taken.told_again reason due until is other e) = ap (λ (z : Inner PlainKeys). is_open z.state) e
core_shut accepts now rest old new shut (core_taken.closed_too reason due until is brings e) = ap (λ (z : Inner PlainKeys). is_open z.state) e
core_shut accepts now rest old new shut (core_taken.draining until is e) = ap (λ (z : Inner PlainKeys). is_open z.state) e ∙ shut
core_shut accepts now rest old new shut (core_taken.drained is e) = ap (λ (z : Inner PlainKeys). is_open z.state) e ∙ shut

-- ---- a connection that is connected

pub taken_streams : (log : Option (List ConnectionItem)) (now : Moment) (core : Inner PlainKeys) → IsUndisturbed now core (streams_taken log core)
taken_streams None now core = record { counts = record { bi_opened = refl; bi_accepted = refl; uni_opened = refl; uni_accepted = refl }; idle = record { timeout = refl; since = inl refl }; timed_out = λ e. e }
taken_streams (Some items) now core = record { counts = record { bi_opened = refl; bi_accepted = refl; uni_opened = refl; uni_accepted = refl }; idle = record { timeout = refl; since = inl refl }; timed_out = λ e. e }

pub taken_state : (log : Option (List ConnectionItem)) (core : Inner PlainKeys) → (streams_taken log core).state ≡ core.state
taken_state None core = refl
taken_state (Some items) core = refl

connected_by : (now : Moment) (c : End) → IsUndisturbedBy now c (connected now c)
connected_by now c = by_core now c (connected now c) refl refl (λ up. ap is_open (sym (taken_state c.control.log c.core)) ∙ up) (taken_streams c.control.log now c.core)

connects_by : (b : Bool) (now : Moment) (c : End) → IsUndisturbedBy now c (if b then noted [] c else connected now c)
connects_by true now c = by_core now c (noted [] c) refl refl (λ up. ap is_open (sym (taken_state c.control.log c.core)) ∙ up) (taken_streams c.control.log now c.core)
connects_by false now c = connected_by now c

-- ---- what is behind the Initial packets

core_as : (now : Moment) (c d : Inner PlainKeys) → d.space ≡ c.space → d.idle ≡ c.idle → d.error ≡ c.error → IsUndisturbed now c d
core_as now c d space idle error = record {
  counts = subst (λ (z : DataSpace). HaveSameCounts c.space.streams z.streams) (sym space) (record { bi_opened = refl; bi_accepted = refl; uni_opened = refl; uni_accepted = refl });
  idle = subst (λ (z : IdleTimer). RunsOn now c.idle z) (sym idle) (record { timeout = refl; since = inl refl });
  timed_out = λ e. sym error ∙ e;
}

frames_by : (now : Moment) (frames : List Frame) (mid new : End) → AreFramesHandled now frames mid new → IsUndisturbedBy now mid new
frames_by now frames mid new (frames_handled.taken control taken up out e) =
    by_core now mid new (ap (λ (z : End). z.handshake.peer) e) (ap (λ (z : End). z.handshake.parameters) e) (λ h. sym (ap (λ (z : End). is_open z.core.state) e) ∙ h)
    (core_as now mid.core new.core (ap (λ (z : End). z.core.space) e) (ap (λ (z : End). z.core.idle) e) (ap (λ (z : End). z.core.error) e))
frames_by now frames mid new (frames_handled.ended taken shut e) = subst (λ (z : End). IsUndisturbedBy now mid z) (sym e) (by_core now mid _ refl refl (λ h. h) (same_core now mid.core))
frames_by now frames mid new (frames_handled.refused x taken f e) =
    subst (λ (z : End). IsUndisturbedBy now mid z) (sym e)
    (by_trans now mid (record mid { core = new.core }) _ (faulted_by now mid (record mid { core = new.core }) x (λ none. none) refl f) (by_core now (record mid { core = new.core }) _ refl refl (λ h. h) (same_core now new.core)))
frames_by now frames mid new (frames_handled.cut taken shut e) = subst (λ (z : End). IsUndisturbedBy now mid z) (sym e) (by_core now mid _ refl refl (λ h. h) (same_core now mid.core))

rest_by : (accepts : AcceptsTag) (now : Moment) (d rest : List ℕ) (old new : End) → is_open old.core.state ≡ true → IsRestTaken accepts now d rest old new → IsUndisturbedBy now old new
rest_by accepts now d rest old new up (rest_taken.nothing none e) = subst (λ (z : End). IsUndisturbedBy now old z) (sym e) (still_by now old)
rest_by accepts now d rest old new up (rest_taken.ungreeted none e) = subst (λ (z : End). IsUndisturbedBy now old z) (sym e) (still_by now old)
rest_by accepts now d rest old new up (rest_taken.unheard core greeted taken space unreset e) =
    subst (λ (z : End). IsUndisturbedBy now old z) (sym e) (by_core now old (record old { core = core }) refl refl (λ h. up) (core_undisturbed accepts now rest old.core core taken))
rest_by accepts now d rest old new up (rest_taken.reset core greeted taken opened by f e) =
    subst (λ (z : End). IsUndisturbedBy now old z) (sym e)
    (by_trans now old (record old { core = core }) (record old { core = new.core }) (by_core now old (record old { core = core }) refl refl (λ h. up) (core_undisturbed accepts now rest old.core core taken))
    (drained_by now (record old { core = core }) (record old { core = new.core }) lost.Reset (λ same. cc) (λ none. none) refl f))
rest_by accepts now d rest old new up (rest_taken.accepted core bytes read greeted brings begins count handled) =
    by_trans now old (record old { core = core }) new
    (by_core now old (record old { core = core }) refl refl (λ h. up)
    (core_undisturbed accepts now rest old.core core (core_taken.handled brings.number bytes brings.opened brings.is (packet_handled.taken brings.is_new brings.taken))))
    (by_trans now (record old { core = core }) (connected_if now (record old { core = core })) new (connects_by old.is_connected now (record old { core = core }))
    (frames_by now read (connected_if now (record old { core = core })) new handled))

-- ---- the hello

by_side : (b : Bool) (now : Moment) (first mid : End) → IsUndisturbedBy now first mid → IsUndisturbedBy now first (if b then connected now mid else mid)
by_side true now first mid u = by_trans now first mid (connected now mid) u (connected_by now mid)
by_side false now first mid u = u

-- the peer's hello was read, and the end of the 1-RTT packets began with it
greeted_by : (now : Moment) (first old new : End) → first.handshake.peer ≡ None → old.handshake.parameters ≡ first.handshake.parameters → is_open first.core.state ≡ true
    → (old.core.idle.since ≡ first.core.idle.since) ⊎ (old.core.idle.since ≡ now) → old.core.error ≡ first.core.error → IsGreetedNow now old new → IsUndisturbedBy now first new
greeted_by now first old new none said up since error g =
    let mid : End = with_core old g.core g.peer in
    let r = g.core_is.rest_is in
    let begun : IsUndisturbedBy now first mid = record {
      counts = record {
        opened = λ n h. (ap (λ (z : Inner PlainKeys). z.space.streams.bi.opened) r ∙ ((g.core_is.space.counts true).0 ∙ sym (h.1 none)), λ none2. h.1 none);
        accepted = λ n h. (ap (λ (z : Inner PlainKeys). z.space.streams.bi.accepted) r ∙ ((g.core_is.space.counts true).1 ∙ sym (h.1 none)), λ none2. h.1 none);
      };
      times = λ own h.
          let mine : old.handshake.parameters.max_idle_timeout ≡ milliseconds own = ap (λ (z : TransportParameters). z.max_idle_timeout) said ∙ h.said in
          record {
            said = mine;
            ungreeted = λ up2 none2. absurd (none-some g.peer (sym none2 ∙ g.peer_is));
            greeted = λ p up2 is.
                ap (λ (z : Inner PlainKeys). z.idle.timeout) r
                ∙ (ap (λ (z : ℕ). idle_of z g.peer.max_idle_timeout) mine ∙ ap (λ (z : TransportParameters). idle_of (milliseconds own) z.max_idle_timeout) (same_Some g.peer p (sym g.peer_is ∙ is)));
          };
      since = elim since as (λ _. (mid.core.idle.since ≡ first.core.idle.since) ⊎ (mid.core.idle.since ≡ now)) [
        | inl e ↦ inl (ap (λ (z : Inner PlainKeys). z.idle.since) r ∙ e)
        | inr e ↦ inr (ap (λ (z : Inner PlainKeys). z.idle.since) r ∙ e)
      ];
      timed_out = λ e. sym error ∙ (sym (ap (λ (z : Inner PlainKeys). z.error) r) ∙ e);
      known = λ some. ap is_some g.peer_is;
    } in
    subst (λ (z : End). IsUndisturbedBy now first z) (sym g.new_is) (by_side (is_client old.handshake.side) now first mid begun)

-- ---- all of a datagram

same_peer : (h g : Handshake) (o : Option TransportParameters) → h.peer ≡ o → is_some o ≡ true → GoesOn h g → g.peer ≡ h.peer
same_peer h g None e some on = absurd (false≢true some)
same_peer h g (Some p) e some on = on.peer p e ∙ sym e

back_none : (h g : Handshake) (o : Option TransportParameters) → h.peer ≡ o → GoesOn h g → g.peer ≡ None → h.peer ≡ None
back_none h g None e on none = e
back_none h g (Some p) e on none = absurd (none-some p (sym none ∙ on.peer p e))

is_none : (o : Option TransportParameters) → is_some o ≡ false → o ≡ None
is_none None e = refl
is_none (Some p) e = absurd (false≢true (sym e))

closed_kept : (b : Bool) (old new : Inner PlainKeys) → IsClosedHeard b old new → (new.space ≡ old.space) × (new.idle ≡ old.idle) × (new.error ≡ old.error) × (is_open new.state ≡ false)
closed_kept b old new (closed_heard.told_again reason due until is brings e) = (ap (λ (z : Inner PlainKeys). z.space) e, ap (λ (z : Inner PlainKeys). z.idle) e, ap (λ (z : Inner PlainKeys). z.error) e, ap (λ (z : Inner PlainKeys). is_open z.state) e)
closed_kept b old new (closed_heard.closed_too reason due until is brings e) = (ap (λ (z : Inner PlainKeys). z.space) e, ap (λ (z : Inner PlainKeys). z.idle) e, ap (λ (z : Inner PlainKeys). z.error) e, ap (λ (z : Inner PlainKeys). is_open z.state) e)
closed_kept b old new (closed_heard.draining until is e) = (ap (λ (z : Inner PlainKeys). z.space) e, ap (λ (z : Inner PlainKeys). z.idle) e, ap (λ (z : Inner PlainKeys). z.error) e, ap (λ (z : Inner PlainKeys). is_open z.state) e ∙ ap is_open is)
closed_kept b old new (closed_heard.drained is e) = (ap (λ (z : Inner PlainKeys). z.space) e, ap (λ (z : Inner PlainKeys). z.idle) e, ap (λ (z : Inner PlainKeys). z.error) e, ap (λ (z : Inner PlainKeys). is_open z.state) e ∙ ap is_open is)

heard_by : (b : Bool) (now : Moment) (n : ℕ) (old new : End) → IsClosedHeard b old.core new.core → new ≡ heard_at n old new.core → IsUndisturbedBy now old new
heard_by b now n old new heard e =
    let k = closed_kept b old.core new.core heard in
    subst (λ (z : End). IsUndisturbedBy now old z) (sym e) (by_end now old (heard_at n old new.core) lost.Reset (λ none. none) refl k.0 k.1 k.3 (inl k.2))

shut_by : (accepts : AcceptsTag) (rest : List ℕ) (n : ℕ) (now : Moment) (old mid : End) → IsShutConnected accepts rest (heard_at n old old.core) mid → IsUndisturbedBy now old mid × (mid.core ≡ old.core)
shut_by accepts rest n now old mid (shut.brought brings e) =
    (subst (λ (z : End). IsUndisturbedBy now old z) (sym e) (by_core now old _ refl refl (λ h. h) (same_core now old.core)), ap (λ (z : End). z.core) e)
shut_by accepts rest n now old mid (shut.still none e) =
    (subst (λ (z : End). IsUndisturbedBy now old z) (sym e) (by_core now old _ refl refl (λ h. h) (same_core now old.core)), ap (λ (z : End). z.core) e)

closing_by : (v : SessionView PlainKeys) (now : Moment) (d : List ℕ) (old new : End) → is_open old.core.state ≡ false → IsClosingHeard v now d old new → IsUndisturbedBy now old new
closing_by v now d old new down (closing_heard.initial brings heard e) = heard_by true now (length d) old new heard e
closing_by v now d old new down (closing_heard.ungreeted none ungreeted heard e) = heard_by false now (length d) old new heard e
closing_by v now d old new down (closing_heard.greeted rest mid none greeted ends behind connects taken e) =
    let m = shut_by (v.accepts old.core.session) rest (length d) now old mid connects in
    let mid_down : is_open mid.core.state ≡ false = ap (λ (z : Inner PlainKeys). is_open z.state) m.1 ∙ down in
    let new_down : is_open new.core.state ≡ false = core_shut (v.accepts old.core.session) now rest (counted_in (length rest) mid.core) new.core mid_down taken in
    subst (λ (z : End). IsUndisturbedBy now old z) (sym e)
    (by_trans now old mid (record mid { core = new.core }) m.0
    (by_core now mid (record mid { core = new.core }) refl refl (λ up. absurd (false≢true (sym new_down ∙ up))) (core_undisturbed (v.accepts old.core.session) now rest mid.core new.core taken)))

-- the idle time runs anew, or on
pub record RestartsOnly (now : Moment) (old new : End) : Type 0 where
  pub handshake : new.handshake ≡ old.handshake
  pub state : new.core.state ≡ old.core.state
  pub error : new.core.error ≡ old.core.error
  pub since : (new.core.idle.since ≡ old.core.idle.since) ⊎ (new.core.idle.since ≡ now)
  pub core : IsUndisturbed now old.core new.core

restarts_only : (now : Moment) (before : Handshake) (old new : End) → IsRestarted now before old new → RestartsOnly now old new
restarts_only now before old new (restarted_by.heard has e) =
    subst (λ (z : End). RestartsOnly now old z) (sym e)
    (record {
      handshake = refl;
      state = refl;
      error = refl;
      since = inr refl;
      core = record { counts = record { bi_opened = refl; bi_accepted = refl; uni_opened = refl; uni_accepted = refl }; idle = record { timeout = refl; since = inr refl }; timed_out = λ x. x };
    })
restarts_only now before old new (restarted_by.quiet none e) =
    subst (λ (z : End). RestartsOnly now old z) (sym e) (record { handshake = refl; state = refl; error = refl; since = inl refl; core = same_core now old.core })

greeted_state : (b : Bool) (now : Moment) (mid : End) → (if b then connected now mid else mid).core.state ≡ mid.core.state
greeted_state true now mid = taken_state mid.control.log mid.core
greeted_state false now mid = refl

-- the Initial packets of a datagram were taken, and the end is greeted, if it is
met_on : (v : SessionView PlainKeys) (now : Moment) (d rest : List ℕ) (old fed restarted met : End) → is_open old.core.state ≡ true → IsFed v now d old fed rest None → IsRestarted now old.handshake fed restarted
    → IsMet now (is_some old.handshake.peer) restarted met → IsUndisturbedBy now old met × (is_open met.core.state ≡ true)
met_on v now d rest old fed restarted met up f r (met_by.before was e) =
    let on : GoesOn old.handshake f.handshake = taken_goes (v.accepts old.core.session) now d rest old.handshake f.handshake f.retried f.learned None f.taken in
    let peer : f.handshake.peer ≡ old.handshake.peer = same_peer old.handshake f.handshake old.handshake.peer refl was on in
    let fed_by : IsUndisturbedBy now old fed
    = by_core now old fed (ap (λ (z : End). z.handshake.peer) f.new_is ∙ peer) (ap (λ (z : End). z.handshake.parameters) f.new_is ∙ on.parameters) (λ h. sym (ap (λ (z : End). is_open z.core.state) f.new_is) ∙ h)
    (core_as now old.core fed.core (ap (λ (z : End). z.core.space) f.new_is) (ap (λ (z : End). z.core.idle) f.new_is) (ap (λ (z : End). z.core.error) f.new_is)) in
    let o = restarts_only now old.handshake fed restarted r in
    let there : IsUndisturbedBy now old restarted = by_trans now old fed restarted fed_by (by_core now fed restarted (ap (λ (z : Handshake). z.peer) o.handshake) (ap (λ (z : Handshake). z.parameters) o.handshake) (λ h. ap is_open (sym o.state) ∙ h) o.core) in (
      subst (λ (z : End). IsUndisturbedBy now old z) (sym e) there,
      ap (λ (z : End). is_open z.core.state) e ∙ (ap is_open o.state ∙ (ap (λ (z : End). is_open z.core.state) f.new_is ∙ up)),
    )
met_on v now d rest old fed restarted met up f r (met_by.not_yet was none e) =
    let on : GoesOn old.handshake f.handshake = taken_goes (v.accepts old.core.session) now d rest old.handshake f.handshake f.retried f.learned None f.taken in
    let o = restarts_only now old.handshake fed restarted r in
    let none_fed : f.handshake.peer ≡ None = sym (ap (λ (z : End). z.handshake.peer) f.new_is) ∙ (sym (ap (λ (z : Handshake). z.peer) o.handshake) ∙ none) in
    let peer : f.handshake.peer ≡ old.handshake.peer = none_fed ∙ sym (back_none old.handshake f.handshake old.handshake.peer refl on none_fed) in
    let fed_by : IsUndisturbedBy now old fed
    = by_core now old fed (ap (λ (z : End). z.handshake.peer) f.new_is ∙ peer) (ap (λ (z : End). z.handshake.parameters) f.new_is ∙ on.parameters) (λ h. sym (ap (λ (z : End). is_open z.core.state) f.new_is) ∙ h)
    (core_as now old.core fed.core (ap (λ (z : End). z.core.space) f.new_is) (ap (λ (z : End). z.core.idle) f.new_is) (ap (λ (z : End). z.core.error) f.new_is)) in
    let there : IsUndisturbedBy now old restarted = by_trans now old fed restarted fed_by (by_core now fed restarted (ap (λ (z : Handshake). z.peer) o.handshake) (ap (λ (z : Handshake). z.parameters) o.handshake) (λ h. ap is_open (sym o.state) ∙ h) o.core) in (
      subst (λ (z : End). IsUndisturbedBy now old z) (sym e) there,
      ap (λ (z : End). is_open z.core.state) e ∙ (ap is_open o.state ∙ (ap (λ (z : End). is_open z.core.state) f.new_is ∙ up)),
    )
met_on v now d rest old fed restarted met up f r (met_by.greeted was g) =
    let on : GoesOn old.handshake f.handshake = taken_goes (v.accepts old.core.session) now d rest old.handshake f.handshake f.retried f.learned None f.taken in
    let o = restarts_only now old.handshake fed restarted r in
    let said : restarted.handshake.parameters ≡ old.handshake.parameters = ap (λ (z : Handshake). z.parameters) o.handshake ∙ (ap (λ (z : End). z.handshake.parameters) f.new_is ∙ on.parameters) in
    let since : (restarted.core.idle.since ≡ old.core.idle.since) ⊎ (restarted.core.idle.since ≡ now) = elim o.since as (λ _. (restarted.core.idle.since ≡ old.core.idle.since) ⊎ (restarted.core.idle.since ≡ now)) [
      | inl e ↦ inl (e ∙ ap (λ (z : End). z.core.idle.since) f.new_is)
      | inr e ↦ inr e
    ] in
    let error : restarted.core.error ≡ old.core.error = o.error ∙ ap (λ (z : End). z.core.error) f.new_is in (
      greeted_by now old restarted met (is_none old.handshake.peer was) said up since error g,
      ap (λ (z : End). is_open z.core.state) g.new_is
          ∙ (ap is_open (greeted_state (is_client restarted.handshake.side) now (with_core restarted g.core g.peer))
          ∙ (ap (λ (z : Inner PlainKeys). is_open z.state) g.core_is.rest_is ∙ (ap is_open o.state ∙ (ap (λ (z : End). is_open z.core.state) f.new_is ∙ up)))),
    )

uncounted : (n : ℕ) (now : Moment) (old new : End) → IsUndisturbedBy now (counted_at n old) new → IsUndisturbedBy now old new
uncounted n now old new u = record {
  counts = record { opened = λ m h. u.counts.opened m h; accepted = λ m h. u.counts.accepted m h };
  times = λ own h. u.times own (record { said = h.said; ungreeted = h.ungreeted; greeted = h.greeted });
  since = u.since;
  timed_out = u.timed_out;
  known = u.known;
}

pub handled_by : (v : SessionView PlainKeys) (now : Moment) (d : List ℕ) (old new : End) → IsDatagramHandled v now d old new → IsUndisturbedBy now old new
handled_by v now d old new (datagram_handled.closing down heard) =
    let u : IsUndisturbedBy now (counted_at (length d) old) new = closing_by v now d (counted_at (length d) old) new down heard in
    uncounted (length d) now old new u
handled_by v now d old new (datagram_handled.ended mid rest e up f ends is) =
    let on : GoesOn old.handshake f.handshake = taken_goes (v.accepts old.core.session) now d rest old.handshake f.handshake f.retried f.learned (Some e) f.taken in
    let named : e ≡ lost.TimedOut → ⊥ = λ same. datagram_untimed (v.accepts old.core.session) now d rest old.handshake f.handshake f.retried f.learned
    (subst (λ (z : ConnectionError). IsDatagramTaken (v.accepts old.core.session) now d old.handshake f.handshake rest f.retried f.learned (Some z)) same f.taken) in
    let fed : End = record (counted_at (length d) old) { handshake = f.handshake; core = record old.core { session = f.session } } in
    let ended : EndsBy now e fed.core new.core = subst (λ (z : End). EndsBy now e z.core new.core) f.new_is ends in
    let u : IsUndisturbedBy now fed (record fed { core = new.core }) = ended_by now fed (record fed { core = new.core }) e named (λ none. none) refl ended in
    let same : new ≡ record fed { core = new.core } = is ∙ ap (λ (z : End). record z { core = new.core }) f.new_is in
    subst (λ (z : End). IsUndisturbedBy now old z) (sym same)
    (record {
      counts = record {
        opened = λ n h. ((u.counts.opened n (h.0, λ none. h.1 (back_none old.handshake f.handshake old.handshake.peer refl on none))).0, λ none. h.1 (back_none old.handshake f.handshake old.handshake.peer refl on none));
        accepted = λ n h. ((u.counts.accepted n (h.0, λ none. h.1 (back_none old.handshake f.handshake old.handshake.peer refl on none))).0, λ none. h.1 (back_none old.handshake f.handshake old.handshake.peer refl on none));
      };
      times = λ own h. record {
        said = ap (λ (z : TransportParameters). z.max_idle_timeout) on.parameters ∙ h.said;
        ungreeted = λ after none. absurd (false≢true (sym (ends_down now e fed.core new.core ended) ∙ after));
        greeted = λ p after has. absurd (false≢true (sym (ends_down now e fed.core new.core ended) ∙ after));
      };
      since = u.since;
      timed_out = u.timed_out;
      known = known_on old.handshake.peer f.handshake.peer (back_none old.handshake f.handshake old.handshake.peer refl on);
    })
handled_by v now d old new (datagram_handled.taken fed restarted met rest up f r m behind) =
    let x = met_on v now d rest (counted_at (length d) old) fed restarted met up f r m in
    let u : IsUndisturbedBy now (counted_at (length d) old) new = by_trans now (counted_at (length d) old) met new x.0 (rest_by (v.accepts met.core.session) now d rest met new x.1 behind) in
    uncounted (length d) now old new u
