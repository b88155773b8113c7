-- What the moments that are due do to an end, and an end that is new.
use Rattle.std.proofs.Common.{◌≡◌, ◌⊎◌, inl, inr, ◌≤◌, ◌<◌, ◌+◌, ◌-◌, ◌^◌, List, [], ◌∷◌, ◌++◌, ℕ, Bool, Option, Some, None, true, refl, sym, ◌∙◌, ap, subst, append-nil, arith}
use Rattle.std.specs.Prelude.{max, min, MatchOption, OnErr, OnOk, Result, Ok, Err, is_some}
use Rattle.std.proofs.lemmas.Bool.{false≢true}
use Rattle.std.proofs.lemmas.Option.{same_Some}
use Rattle.qh_base.specs.declared.connection_error.ConnectionError.{ConnectionError}
use Rattle.qh_base.specs.declared.connection_error.ConnectionError.TheVariants as lost
use Rattle.qh_base.specs.declared.time.Span.{Span}
use Rattle.qh_conn.specs.Incoming.{IsOver}
use Rattle.qh_conn.specs.Same.{IsSameConnection}
use Rattle.qh_conn.specs.Telling.{IsHandshakeTimed, IsTimedOut}
use Rattle.qh_conn.specs.Telling.IsHandshakeTimed.{lives, shut}
use Rattle.qh_conn.specs.Whole.{IsWhole, Stands as ConnStands, StandsStill}
use Rattle.qh_conn.specs.declared.config.ConnConfig.{ConnConfig}
use Rattle.qh_core.proofs.Undisturbed.{timed_out_kept}
use Rattle.qh_core.specs.Inner.{is_open}
use Rattle.qh_core.specs.Made.{AcceptsTags, MakesTagsOf}
use Rattle.qh_core.specs.Timers.{IsIdleDue, IsKeptByTimers, IsTimedOut as IsCoreTimedOut, three_probes}
use Rattle.qh_core.specs.Timers.IsTimedOut.{idle, recovery, closed, draining, waits, drained}
use Rattle.qh_core.specs.declared.idle.IdleTimer.{IdleTimer}
use Rattle.qh_core.specs.declared.inner.Inner.{Inner}
use Rattle.qh_handshake.specs.Moments.{IsTimedOut as handshake_timed}
use Rattle.qh_handshake.specs.declared.handshake.Handshake.{Handshake}
use Rattle.qh_hello.specs.declared.transport_parameters.TransportParameters.{TransportParameters}
use Rattle.qh_packet.specs.Session.{PlainKeys, plain_accepts, plain_sealed}
use Rattle.qh_peers.specs.Ends.{IsHonestEnd}
use Rattle.qh_peers.specs.Greets.{AreInitialsSealed, CanBeGreeted}
use Rattle.qh_spec.specs.Transcript.{Act}
use Rattle.qh_spec.specs.declared.link.Event.{Event}
use Rattle.qh_spec.specs.declared.sides.Side.{Side}
use Rattle.qh_spec.specs.declared.sides.Side.TheVariants.{Client, Server}
use Rattle.qh_pair.specs.Clock.{IsClockedAt, IsTimedOutAt, runs}
use Rattle.qh_pair.specs.EndCalls.{HasWaited, IsDueDone, IsPolledOut, IsTicked, KeepsCounts}
use Rattle.qh_pair.specs.Ends.{End, key_of}
use Rattle.qh_pair.specs.Sound.{AreSoundEnds, AtCounting, IsHeard}
use Rattle.qh_pair.specs.Steps.{EndTicked, IsLostFairly}
use Rattle.qh_pair.specs.Timed.{IsIdleOf, IsTimedBy}
use Rattle.qh_pair.specs.declared.ends.Ids.{Ids}
use Rattle.qh_pair.proofs.EndMade.{StaysSame, known_made, still_on}
use Rattle.qh_pair.proofs.EndPolls.{made_still}
use Rattle.qh_pair.proofs.EndSounds.{KeepsNames, sound_acted}

-- ---- the moments that are due

passed_by : (moment since span probes now : ℕ) → moment ≡ min (2 ^ 64 - 1) (since + max span probes) → moment ≤ now → now < 2 ^ 62 → since + span ≤ now
passed_by moment since span probes now e le below = omega arith

-- an idle time that is due passed
idle_passed : (now : ℕ) (c : End) → now < 2 ^ 62 → is_open c.core.state ≡ true → IsIdleDue now c.core → HasWaited now c
idle_passed now c below up due = record {
  up = up;
  span = due.1.timeout;
  timeout_is = due.1.timeout_is;
  passed = passed_by due.0 c.core.idle.since.0 due.1.timeout.0 (three_probes c.core.space.rtt) now due.1.moment_is due.2 below;
}

-- an end that isn't open doesn't open by them
opens_by : (now : ℕ) (c d : Inner PlainKeys) → IsCoreTimedOut now c d → is_open d.state ≡ true → is_open c.state ≡ true
opens_by now c d (idle up due e) after = up
opens_by now c d (recovery mid up not_due aged probed e) after = up
opens_by now c d (closed reason is_due until is by e) after = absurd (false≢true (sym (ap (λ (z : Inner PlainKeys). is_open z.state) e) ∙ after))
opens_by now c d (draining until is by e) after = absurd (false≢true (sym (ap (λ (z : Inner PlainKeys). is_open z.state) e) ∙ after))
opens_by now c d (waits moment is before e) after = ap (λ (z : Inner PlainKeys). is_open z.state) (sym e) ∙ after
opens_by now c d (drained is e) after = ap (λ (z : Inner PlainKeys). is_open z.state) (sym e) ∙ after

-- the handshake knows the same
handshake_kept : (now : ℕ) (up : Bool) (h g : Handshake) → IsHandshakeTimed now up h g → (g.peer ≡ h.peer) × (g.retry_id ≡ h.retry_id) × (g.remote_id ≡ h.remote_id)
handshake_kept now up h g (lives live (handshake_timed.gone none e)) = (ap (λ (z : Handshake). z.peer) e, ap (λ (z : Handshake). z.retry_id) e, ap (λ (z : Handshake). z.remote_id) e)
handshake_kept now up h g (lives live (handshake_timed.recovery s mid next is aged probed e)) = (ap (λ (z : Handshake). z.peer) e, ap (λ (z : Handshake). z.retry_id) e, ap (λ (z : Handshake). z.remote_id) e)
handshake_kept now up h g (shut closed2 e) = (ap (λ (z : Handshake). z.peer) e, ap (λ (z : Handshake). z.retry_id) e, ap (λ (z : Handshake). z.remote_id) e)

-- what `honest_ends` says of them
abbrev pub TimedHonest : Type 0
TimedHonest = (accepts : AcceptsTags PlainKeys) (sealed : MakesTagsOf PlainKeys) (key : PlainKeys → List ℕ) (now : ℕ) (hello : List ℕ) (c new : End) (t : List Act) → IsTimedOut now c new → is_open new.core.state ≡ true
    → IsSameConnection key c new → IsWhole new → ConnStands accepts sealed hello new t → IsHonestEnd accepts sealed hello c t → IsHonestEnd accepts sealed hello new t

-- what `can_greet` says of them
abbrev pub TimedCan : Type 0
TimedCan = (now : ℕ) (old new : End) (peer : Handshake) → IsTimedOut now old new → CanBeGreeted old.handshake peer → CanBeGreeted new.handshake peer

due_done : TimedHonest → TimedCan → (now : ℕ) (c d : End) → now < 2 ^ 62 → IsSameConnection key_of c d → IsWhole d → StandsStill c d → IsTimedOut now c d → IsDueDone now c d
due_done timed can now c d below same whole still t =
    let k : IsKeptByTimers now c.core d.core = timed_out_kept now c.core d.core t.core in
    let h = handshake_kept now (is_open c.core.state) c.handshake d.handshake t.handshake in
    record {
      due = t;
      counts = record { opened = λ n x. (k.counts.bi_opened ∙ x.0, λ none. x.1 (sym h.0 ∙ none)); accepted = λ n x. (k.counts.bi_accepted ∙ x.0, λ none. x.1 (sym h.0 ∙ none)) };
      idle_is = k.idle;
      peer_is = h.0;
      retry_is = h.1;
      remote_is = h.2;
      timed_out = λ e. elim (k.timed_out e) as (λ _. (c.core.error ≡ Some lost.TimedOut) ⊎ HasWaited now c) [ inl f ↦ inl f | inr due ↦ inr (idle_passed now c below due.0 due.1) ];
      kept = k.kept;
      opens = opens_by now c.core d.core t.core;
      honest = λ up hello w x. subst (λ (z : List Act). IsHonestEnd plain_accepts plain_sealed hello d z) (sym (append-nil w))
          (timed plain_accepts plain_sealed key_of now hello c d w t up same whole (still plain_accepts plain_sealed hello w x.stands) x);
      can = λ peer. can now c d peer t;
    }

-- the moments were handled, or memory was wanting
pub ticked_by : {A B : Type 0} (r : Result A B) → TimedHonest → TimedCan → (now : ℕ) (c d : End) → now < 2 ^ 62 → IsSameConnection key_of c d → IsWhole d → StandsStill c d → OnOk r (IsTimedOut now c d) → OnErr r (IsOver d) → IsTicked now c d
ticked_by (Ok x) timed can now c d below same whole still ok err = record { made = made_still c d same whole still; done = inr (due_done timed can now c d below same whole still ok) }
ticked_by (Err e) timed can now c d below same whole still ok err = record { made = made_still c d same whole still; done = inl err.error }

-- ---- an end behind them

both_counts : (c m d : End) → KeepsCounts c m → KeepsCounts m d → KeepsCounts c d
both_counts c m d f g = record { opened = λ n h. g.opened n (f.opened n h); accepted = λ n h. g.accepted n (f.accepted n h) }

pub end_ticked : (now : ℕ) (side : Side) (c m d : End) → IsTicked now c m → IsPolledOut m d → EndTicked now side (Some c) (Some d)
end_ticked now side c m d s p = record {
  due = elim s.done as (λ _. (d.core.error ≡ Some lost.Memory) ⊎ ((mid : End) × IsDueDone now c mid × IsPolledOut mid d)) [ inl e ↦ inl (p.error_is ∙ e) | inr k ↦ inr (m, k, p) ];
  stands = λ ids config t st. still_on side ids config m d t p.made (still_on side ids config c m t s.made st);
  counts = elim s.done as (λ _. (d.core.error ≡ Some lost.Memory) ⊎ KeepsCounts c d) [ inl e ↦ inl (p.error_is ∙ e) | inr k ↦ inr (both_counts c m d k.counts p.counts) ];
  known = λ some. known_made m d [] p.made (known_made c m [] s.made some);
}

-- what an end that isn't lost was done to
done_unless : (now : ℕ) (c m d : End) → IsTicked now c m → IsPolledOut m d → (d.core.error ≡ Some lost.Memory → ⊥) → IsDueDone now c m
done_unless now c m d s p here = elim s.done as (λ _. IsDueDone now c m) [ inl e ↦ absurd (here (p.error_is ∙ e)) | inr k ↦ k ]

timed_on : (own : Option Span) (c d : End) → d.handshake.parameters ≡ c.handshake.parameters → d.handshake.peer ≡ c.handshake.peer → d.core.idle ≡ c.core.idle → (is_open d.core.state ≡ true → is_open c.core.state ≡ true)
    → IsTimedBy own c → IsTimedBy own d
timed_on own c d said peer idle_is opens h = record {
  said = ap (λ (z : TransportParameters). z.max_idle_timeout) said ∙ h.said;
  ungreeted = λ up none. ap (λ (z : IdleTimer). z.timeout) idle_is ∙ h.ungreeted (opens up) (sym peer ∙ none);
  greeted = λ p up is. ap (λ (z : IdleTimer). z.timeout) idle_is ∙ h.greeted p (opens up) (sym peer ∙ is);
}

-- an end that isn't lost keeps its clock
ticked_timed : (own : Option Span) (now : ℕ) (c m d : End) → IsTicked now c m → IsPolledOut m d → IsDueDone now c m → IsTimedBy own c → IsTimedBy own d
ticked_timed own now c m d s p k h =
    timed_on own c d (ap (λ (z : Handshake). z.parameters) p.handshake_is ∙ s.made.same.handshake.parameters) (ap (λ (z : Handshake). z.peer) p.handshake_is ∙ k.peer_is) (p.idle_is ∙ k.idle_is)
    (λ up. k.opens (ap is_open (sym p.state_is) ∙ up)) h

pub clocked_on : (own : Option Span) (moments : List ℕ) (now : ℕ) (c m d : End) → IsTicked now c m → IsPolledOut m d → IsClockedAt own moments c → d.core.error ≡ None → IsClockedAt own moments d
clocked_on own moments now c m d s p (runs first rest e le t ne) n =
    let k : IsDueDone now c m = done_unless now c m d s p (λ x. let f : d.core.error ≡ Some lost.Memory = x in let g : d.core.error ≡ None = n in cc) in
    runs first rest e (subst (λ (z : IdleTimer). first ≤ z.since.0) (sym (p.idle_is ∙ k.idle_is)) le) (ticked_timed own now c m d s p k t)
    (λ x. let f : d.core.error ≡ Some lost.TimedOut = x in let g : d.core.error ≡ None = n in cc)

-- the idle time of an end that is open is its own, or what the peer's hello made of it
idle_at : (own : Option Span) (c d : End) (o : Option TransportParameters) → c.handshake.peer ≡ o → is_open c.core.state ≡ true → d.handshake.peer ≡ c.handshake.peer → IsTimedBy own c → IsIdleOf own d c.core.idle.timeout
idle_at own c d None e up peer h = inl (h.ungreeted up e)
idle_at own c d (Some p) e up peer h = inr (p, peer ∙ e, h.greeted p up e)

-- an end that timed out waited for its idle time
pub passed_on : (own : Option Span) (moments front : List ℕ) (now : ℕ) (c m d : End) → IsTicked now c m → IsPolledOut m d → IsClockedAt own moments c → moments ≡ front ++ now ∷ []
    → d.core.error ≡ Some lost.TimedOut → IsTimedOutAt own moments (Some d)
passed_on own moments front now c m d s p (runs first rest e le t ne) last x =
    let k : IsDueDone now c m = done_unless now c m d s p (λ y. let f : d.core.error ≡ Some lost.Memory = y in let g : d.core.error ≡ Some lost.TimedOut = x in cc) in
    elim (k.timed_out (sym p.error_is ∙ x)) as (λ _. IsTimedOutAt own moments (Some d)) [
      | inl f ↦ absurd (ne f)
      | inr w ↦ (
        c.core.idle.timeout,
        idle_at own c d c.handshake.peer refl w.up (ap (λ (z : Handshake). z.peer) p.handshake_is ∙ k.peer_is) t,
        record {
          span = w.span;
          idle_is = w.timeout_is;
          first = first;
          rest = rest;
          begin = e;
          front = front;
          last = now;
          end = last;
          passed = (let a = w.passed in omega (arith, a, le));
        },
        x,
      )
    ]

-- ---- over an honest link

-- the names stay, of an end that is open
names_on : StaysSame → (now : ℕ) (c m d : End) → IsTicked now c m → IsPolledOut m d → IsDueDone now c m → is_open d.core.state ≡ true → KeepsNames c d []
names_on both now c m d s p k up = record {
  same = both key_of c m d s.made.same p.made.same;
  whole = p.made.whole;
  peer = ap (λ (z : Handshake). z.peer) p.handshake_is ∙ k.peer_is;
  retry = ap (λ (z : Handshake). z.retry_id) p.handshake_is ∙ k.retry_is;
  remote = ap (λ (z : Handshake). z.remote_id) p.handshake_is ∙ k.remote_is;
  none = refl;
  honest = λ hello w x.
      subst (λ (z : List Act). IsHonestEnd plain_accepts plain_sealed hello d z) (append-nil (w ++ []))
      (p.honest hello (w ++ []) (k.honest (ap is_open (sym p.state_is) ∙ up) hello w x));
  greets = record {
    can = λ peer x. subst (λ (z : Handshake). CanBeGreeted z peer) (sym p.handshake_is) (k.can peer x);
    sealed = λ w. subst (λ (z : List Act). AreInitialsSealed (plain_sealed c.core.session) c.core.side z) (sym (append-nil w));
  };
}

error_of_sound : (side : Side) (ids : Ids) (config : ConnConfig) (c : End) (peer : Option End) (t u : List Act) → AreSoundEnds side ids config (Some c) peer t u → c.core.error ≡ None
error_of_sound Client ids config c None t u s = s.0.honest.not_lost
error_of_sound Client ids config c (Some q) t u s = s.ends.own.not_lost
error_of_sound Server ids config c None t u s = absurd s
error_of_sound Server ids config c (Some q) t u s = s.ends.peer.not_lost

-- two ends that are sound stay so, or one is lost by its idle time, or for want of memory
pub sound_ticked : StaysSame → (now : ℕ) (side : Side) (ids : Ids) (config : ConnConfig) (c m d : End) (peer : Option End) (t u : List Act) (result : Option ConnectionError) → IsTicked now c m → IsPolledOut m d
    → result ≡ d.core.error → (result ≡ None → is_open d.core.state ≡ true) → AreSoundEnds side ids config (Some c) peer t u
    → MatchOption result (AreSoundEnds side ids config (Some d) peer t u) (λ e. IsLostFairly now e (Some c))
sound_ticked both now side ids config c m d peer t u None s p e opens sound =
    let k : IsDueDone now c m = done_unless now c m d s p (λ y. let f : d.core.error ≡ Some lost.Memory = y in let g : None ≡ d.core.error = e in cc) in
    subst (λ (z : List Act). AreSoundEnds side ids config (Some d) peer z u) (append-nil t)
    (sound_acted side ids config c d peer t u [] (names_on both now c m d s p k (opens refl)) (λ is alone x i. absurd i) sound)
sound_ticked both now side ids config c m d peer t u (Some x) s p e opens sound =
    let mid : m.core.error ≡ Some x = sym p.error_is ∙ sym e in
    let before : c.core.error ≡ None = error_of_sound side ids config c peer t u sound in
    elim s.done as (λ _. (x ≡ lost.Memory) ⊎ ((x ≡ lost.TimedOut) × HasWaited now c)) [
      | inl wanting ↦ inl (same_Some x lost.Memory (sym mid ∙ wanting))
      | inr k ↦
          let fair : x ≡ lost.TimedOut = elim (k.kept x mid) as (λ _. x ≡ lost.TimedOut) [ inl f ↦ cc | inr f ↦ f ] in
          inr (fair, elim (k.timed_out (mid ∙ ap Some fair)) as (λ _. HasWaited now c) [ inl f ↦ absurd (let g : c.core.error ≡ Some lost.TimedOut = f in cc) | inr w ↦ w ])
    ]

-- the clock of an end that isn't lost runs on
pub heard_ticked : (now : ℕ) (side : Side) (k : ℕ) (config : ConnConfig) (events : List Event) (c m d : End) → IsTicked now c m → IsPolledOut m d → d.core.error ≡ None → IsHeard side k config c events → IsHeard side k config d events
heard_ticked now side k config events c m d s p n h =
    let done : IsDueDone now c m = done_unless now c m d s p (λ y. let f : d.core.error ≡ Some lost.Memory = y in let g : d.core.error ≡ None = n in cc) in
    record {
      timed = ticked_timed config.idle now c m d s p done h.timed;
      heard = subst (λ (z : IdleTimer). AtCounting k side events (λ n2. n2 ≤ z.since.0)) (sym (p.idle_is ∙ done.idle_is)) h.heard;
      greets = λ w. ap is_some (ap (λ (z : Handshake). z.peer) p.handshake_is ∙ done.peer_is) ∙ h.greets w;
    }
