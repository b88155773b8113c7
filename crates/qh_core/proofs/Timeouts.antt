-- When something is due, and what is done then.
use Rattle.std.proofs.Common.{◌≡◌, ◌⊎◌, ℕ, ◌<◌, ◌≤◌, true, false, [], Option, Some, None, refl, sym, ap, ◌∙◌, subst, arith, inl, inr}
use Rattle.std.proofs.lemmas.Bool.{both_ways}
use Rattle.std.proofs.lemmas.Option.{none-some, same_Some}
use Rattle.std.specs.Prelude.{IfSome, MatchOption}
use Rattle.qh_base.specs.declared.connection_error.ConnectionError.TheVariants.{Memory}
use Rattle.qh_base.specs.declared.time.Moment.{Moment}
use Rattle.qh_core.specs.Inner.{IsConnection, is_open, with_space}
use Rattle.qh_core.specs.Timers.{AreLostByAge, IsDueAt, IsFirstDue, IsIdleDue, IsIdleEnd, IsLossMoment, IsProbed, IsTimedOut, ends_at}
use Rattle.qh_core.specs.Timers.AreLostByAge.{due as some_lost, not_yet as no_loss}
use Rattle.qh_core.specs.Timers.IsDueAt.{idle as idle_at, loss as loss_at, probe as probe_at, ends as end_at}
use Rattle.qh_core.specs.Timers.IsProbed.{due as some_probe, not_yet as no_probe}
use Rattle.qh_core.specs.Timers.IsTimedOut.{closed as after_closing, draining as after_draining, waits, drained as was_drained}
use Rattle.qh_core.specs.declared.idle.IdleTimer.{IdleTimer}
use Rattle.qh_core.specs.declared.inner.Inner.{Inner}
use Rattle.qh_core.specs.declared.state.State.{State}
use Rattle.qh_core.specs.declared.state.State.TheVariants.{Established, Closed, Draining, Drained}
use Rattle.qh_core.proofs.Moments.{IsFirstOf, not_due, only_moment}
use Rattle.qh_history.proofs.SameEnd as same
use Rattle.qh_history.specs.Standing.{SameEnd}
use Rattle.qh_recovery.specs.Rtt.{loss_delay}
use Rattle.qh_recovery.specs.SentPackets.{IsBelow, IsLossTime, NoneIs, packet_at}
use Rattle.qh_recovery.specs.declared.paths.RttEstimator.{RttEstimator}
use Rattle.qh_space.specs.Receiving.{IsLossTaken}
use Rattle.qh_space.specs.Space.{IsSpace}
use Rattle.qh_space.specs.Timers.{IsProbeDue, IsProbeTime}
use Rattle.qh_space.specs.declared.data_space.DataSpace.{DataSpace}

-- ---- each has one moment at most

one_loss : (s : DataSpace) (m k : ℕ) → IsLossMoment s m → IsLossMoment s k → m ≡ k
one_loss s m k a b =
    let largest = same_Some a.largest b.largest (sym a.acked ∙ b.acked) in
    let first = a.time.is_earliest b.time.number b.time.packet b.time.is_out (rw largest b.time.is_below) in
    let second = b.time.is_earliest a.time.number a.time.packet a.time.is_out (rw (← largest) a.time.is_below) in
    let m_is = a.time.is_then in
    let k_is = b.time.is_then in
    omega (arith, first, second, m_is, k_is)

one_probe : (s : DataSpace) (m k : ℕ) → IsProbeTime s m → IsProbeTime s k → m ≡ k
one_probe s m k a b =
    let x = a.is_last in
    let y = b.is_last in
    let up = x.is_last.is_greatest y.number y.packet y.is_last.is_out in
    let down = y.is_last.is_greatest x.number x.packet x.is_last.is_out in
    let number : x.number ≡ y.number = omega (arith, up, down) in
    let packet = same_Some x.packet y.packet (sym x.is_last.is_out ∙ (ap (λ (n : ℕ). packet_at s.sent n) number ∙ y.is_last.is_out)) in
    let last : a.last ≡ b.last = x.is_then ∙ (ap (λ p. p.time_sent) packet ∙ sym y.is_then) in
    let m_is = a.moment_is in
    let k_is = b.moment_is in
    let zero = ap (λ (t : Moment). t.0) last in
    omega (arith, zero, m_is, k_is)

one_idle : (t : IdleTimer) (rtt : RttEstimator) (m k : ℕ) → IsIdleEnd t rtt m → IsIdleEnd t rtt k → m ≡ k
one_idle t rtt m k a b =
    let timeout = ap (λ s. s.0) (same_Some a.timeout b.timeout (sym a.timeout_is ∙ b.timeout_is)) in
    let m_is = a.moment_is in
    let k_is = b.moment_is in
    omega (arith, timeout, m_is, k_is)

pub loss_first : (s : DataSpace) (o : Option Moment) → (o ≡ None → (n : ℕ) → s.largest_acked ≡ Some n → NoneIs (IsBelow n) s.sent)
    → IfSome o (λ t. (n : ℕ) × (s.largest_acked ≡ Some n) × IsLossTime s.sent n (loss_delay s.rtt) t.0) → IsFirstOf (IsLossMoment s) o
loss_first s None none some = only_moment (IsLossMoment s) None (one_loss s) (λ e m at. none refl at.largest at.acked at.time.number at.time.packet at.time.is_out at.time.is_below) tt
loss_first s (Some t) none some = only_moment (IsLossMoment s) (Some t) (one_loss s) (λ e. absurd (none-some t (sym e))) (record { largest = some.0; acked = some.1; time = some.2 })

pub probe_first : (s : DataSpace) (o : Option Moment) → MatchOption o (s.sent ≡ []) (λ t. IsProbeTime s t.0) → IsFirstOf (IsProbeTime s) o
probe_first s None empty =
    only_moment (IsProbeTime s) None (one_probe s) (λ e m at. none-some at.is_last.packet (sym (ap (λ p. packet_at p at.is_last.number) empty) ∙ at.is_last.is_last.is_out)) tt
probe_first s (Some t) at = only_moment (IsProbeTime s) (Some t) (one_probe s) (λ e. absurd (none-some t (sym e))) at

pub idle_first : (t : IdleTimer) (rtt : RttEstimator) (o : Option Moment) → MatchOption o (t.timeout ≡ None) (λ u. IsIdleEnd t rtt u.0) → IsFirstOf (IsIdleEnd t rtt) o
idle_first t rtt None none = only_moment (IsIdleEnd t rtt) None (one_idle t rtt) (λ e m at. none-some at.timeout (sym none ∙ at.timeout_is)) tt
idle_first t rtt (Some u) at = only_moment (IsIdleEnd t rtt) (Some u) (one_idle t rtt) (λ e. absurd (none-some u (sym e))) at

-- ---- recovery

pub lost_due : (now : ℕ) (old new : DataSpace) (o : Option Moment) → IsFirstOf (IsLossMoment old) o → (t : Moment) × (o ≡ Some t) × (t.0 ≤ now)
    → ((n : ℕ) → old.largest_acked ≡ Some n → IsLossTaken n now old new) → AreLostByAge now old new
lost_due now old new o first came taken =
    let at = first.is_then came.0 came.1 in
    some_lost came.0.0 at.largest at came.2 at.acked (taken at.largest at.acked)

pub none_lost : (now : ℕ) (s : DataSpace) (o : Option Moment) → IsFirstOf (IsLossMoment s) o → ((t : Moment) → o ≡ Some t → now < t.0) → AreLostByAge now s s
none_lost now s o first later = no_loss (λ m at. not_due (IsLossMoment s) o now m first later at) refl

pub probe_due : (now : ℕ) (old new : DataSpace) (o : Option Moment) → IsFirstOf (IsProbeTime old) o → (t : Moment) × (o ≡ Some t) × (t.0 ≤ now) → IsProbeDue old new → IsProbed now old new
probe_due now old new o first came queued = some_probe came.0.0 (first.is_then came.0 came.1) came.2 queued

pub none_probed : (now : ℕ) (s : DataSpace) (o : Option Moment) → IsFirstOf (IsProbeTime s) o → ((t : Moment) → o ≡ Some t → now < t.0) → IsProbed now s s
none_probed now s o first later = no_probe (λ m at. not_due (IsProbeTime s) o now m first later at) refl

lost_end : (now : ℕ) (old new : DataSpace) → AreLostByAge now old new → SameEnd old new
lost_end now old new (some_lost m n at before acked taken) = same.lost n now old new taken
lost_end now old new (no_loss later e) = (ap (λ (s : DataSpace). s.streams.side) e, ap (λ (s : DataSpace). s.streams.peer) e)

probed_end : (now : ℕ) (old new : DataSpace) → IsProbed now old new → SameEnd old new
probed_end now old new (some_probe m at before queued) = same.probe old new queued
probed_end now old new (no_probe later e) = (ap (λ (s : DataSpace). s.streams.side) e, ap (λ (s : DataSpace). s.streams.peer) e)

-- ---- the connection

never_ends : (s : State) → is_open s ≡ true → ends_at s ≡ None
never_ends Established is = refl
never_ends (Closed reason is_due until) is = absurd (both_ways false refl is)
never_ends (Draining until) is = absurd (both_ways false refl is)
never_ends Drained is = refl

module _ {S : Type 0} where
  -- an open connection with another space of the same end
  pub space_kept : (c : Inner S) (new : DataSpace) → IsConnection c → is_open c.state ≡ true → SameEnd c.space new → IsSpace new → IsConnection (with_space c new)
  space_kept c new whole opened end space = record {
    space = space;
    of = record { side_is = end.0 ∙ whole.of.side_is; peer_is = end.1 ∙ whole.of.peer_is; said = whole.of.said };
    not_lost = whole.not_lost;
    lost = whole.lost;
    drained = whole.drained;
    no_half = λ wanting. absurd (none-some Memory (sym (whole.not_lost opened) ∙ wanting));
  }

  pub recovered : (now : ℕ) (c : Inner S) (mid new : DataSpace) → IsConnection c → is_open c.state ≡ true → AreLostByAge now c.space mid → IsProbed now mid new → IsSpace new
      → IsConnection (with_space c new)
  recovered now c mid new whole opened taken queued space =
      let first = lost_end now c.space mid taken in
      let second = probed_end now mid new queued in
      space_kept c new whole opened (second.0 ∙ first.0, second.1 ∙ first.1) space

  pub idle_later : (now : ℕ) (c : Inner S) (o : Option Moment) → MatchOption o (c.idle.timeout ≡ None) (λ t. IsIdleEnd c.idle c.space.rtt t.0)
      → ((t : Moment) → o ≡ Some t → now < t.0) → IsIdleDue now c → ⊥
  idle_later now c o at later came =
      let before = not_due (IsIdleEnd c.idle c.space.rtt) o now came.0 (idle_first c.idle c.space.rtt o at) later came.1 in
      let after = came.2 in
      omega (arith, before, after)

  -- a connection that was closed is drained, once it is time
  pub ended : (now : ℕ) (c : Inner S) (s : State) (t : Moment) → c.state ≡ s → ends_at s ≡ Some t → t.0 ≤ now → IsTimedOut now c (record c { state = Drained })
  ended now c Established t is at came = absurd (none-some t at)
  ended now c (Closed reason is_due until) t is at came = after_closing reason is_due until is (subst (λ (m : Moment). m.0 ≤ now) (sym (same_Some until t at)) came) refl
  ended now c (Draining until) t is at came = after_draining until is (subst (λ (m : Moment). m.0 ≤ now) (sym (same_Some until t at)) came) refl
  ended now c Drained t is at came = absurd (none-some t at)

  pub not_ended : (now : ℕ) (c : Inner S) (s : State) → c.state ≡ s → is_open s ≡ false → ((t : Moment) → ends_at s ≡ Some t → now < t.0) → IsTimedOut now c c
  not_ended now c Established is closed later = absurd (both_ways true closed refl)
  not_ended now c (Closed reason is_due until) is closed later = waits until (ap ends_at is) (later until refl) refl
  not_ended now c (Draining until) is closed later = waits until (ap ends_at is) (later until refl) refl
  not_ended now c Drained is closed later = was_drained is refl

  -- nothing is due of an open connection but these
  open_due : (c : Inner S) (m : ℕ) → is_open c.state ≡ true → IsDueAt c m → IsIdleEnd c.idle c.space.rtt m ⊎ (IsLossMoment c.space m ⊎ IsProbeTime c.space m)
  open_due c m opened (idle_at _ is at) = inl at
  open_due c m opened (loss_at _ is at) = inr (inl at)
  open_due c m opened (probe_at _ is at) = inr (inr at)
  open_due c m opened (end_at t at) = absurd (none-some t (sym (never_ends c.state opened) ∙ at))

  due_open : (c : Inner S) (m : ℕ) → is_open c.state ≡ true → IsIdleEnd c.idle c.space.rtt m ⊎ (IsLossMoment c.space m ⊎ IsProbeTime c.space m) → IsDueAt c m
  due_open c m opened (inl at) = idle_at m opened at
  due_open c m opened (inr (inl at)) = loss_at m opened at
  due_open c m opened (inr (inr at)) = probe_at m opened at

  pub first_open : (c : Inner S) (o : Option Moment) → is_open c.state ≡ true → IsFirstOf (λ m. IsIdleEnd c.idle c.space.rtt m ⊎ (IsLossMoment c.space m ⊎ IsProbeTime c.space m)) o
      → MatchOption o ((m : ℕ) → IsDueAt c m → ⊥) (λ t. IsFirstDue c t.0)
  first_open c None opened first = λ m at. first.never refl m (open_due c m opened at)
  first_open c (Some t) opened first = record {
    is = due_open c t.0 opened (first.is_then t refl);
    first = λ m at. first.first t m refl (open_due c m opened at);
  }

  -- of a connection that was closed only its end is due
  closed_due : (c : Inner S) (m : ℕ) → is_open c.state ≡ false → IsDueAt c m → (t : Moment) × (ends_at c.state ≡ Some t) × (t.0 ≡ m)
  closed_due c m closed (idle_at _ is at) = absurd (both_ways (is_open c.state) closed is)
  closed_due c m closed (loss_at _ is at) = absurd (both_ways (is_open c.state) closed is)
  closed_due c m closed (probe_at _ is at) = absurd (both_ways (is_open c.state) closed is)
  closed_due c m closed (end_at t at) = (t, at, refl)

  pub first_closed : (c : Inner S) (o : Option Moment) → is_open c.state ≡ false → o ≡ ends_at c.state → MatchOption o ((m : ℕ) → IsDueAt c m → ⊥) (λ t. IsFirstDue c t.0)
  first_closed c None closed e = λ m at.
      let ends = closed_due c m closed at in
      none-some ends.0 (e ∙ ends.1)
  first_closed c (Some t) closed e = record {
    is = end_at t (sym e);
    first = λ m at.
        let ends = closed_due c m closed at in
        let same = ap (λ (u : Moment). u.0) (same_Some t ends.0 (e ∙ ends.1)) in
        let is = ends.2 in
        omega (arith, same, is);
  }
