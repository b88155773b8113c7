-- When something of a handshake is due, and what is done then.
use Rattle.std.proofs.Common.{◌≡◌, ◌⊎◌, ℕ, ◌<◌, ◌≤◌, Bool, true, false, [], Option, Some, None, refl, sym, ap, ◌∙◌, subst, arith, inl, inr}
use Rattle.std.proofs.lemmas.Bool.{both_ways}
use Rattle.std.proofs.lemmas.Option.{none-some, same_Some}
use Rattle.std.specs.Prelude.{IfSome, MatchOption}
use Rattle.qh_base.specs.declared.time.Moment.{Moment}
use Rattle.qh_handshake.proofs.FirstMoments.{IsFirstOf, not_due, only_moment}
use Rattle.qh_handshake.specs.Handshake.{is_limited}
use Rattle.qh_handshake.specs.Moments.{AreLostByAge, IsDueAt, IsFirstDue, IsLossMoment, IsProbeMoment, IsProbed, is_awaited}
use Rattle.qh_handshake.specs.Moments.AreLostByAge.{due as some_lost}
use Rattle.qh_handshake.specs.Moments.IsDueAt.{loss as loss_at, probe as probe_at}
use Rattle.qh_handshake.specs.Moments.IsProbed.{due as some_probe, not_yet as no_probe}
use Rattle.qh_handshake.specs.Receiving.{IsLossTaken}
use Rattle.qh_handshake.specs.Timers.{IsProbeTime, IsUnprobed, probe_after, with_probe}
use Rattle.qh_handshake.specs.Timers.IsProbeTime.{after_last, awaited}
use Rattle.qh_handshake.specs.declared.handshake.Handshake.{Handshake}
use Rattle.qh_handshake.specs.declared.initial_space.InitialSpace.{InitialSpace}
use Rattle.qh_recovery.specs.Rtt.{loss_delay}
use Rattle.qh_recovery.specs.SentPackets.{IsBelow, IsLastSent, IsLossTime, NoneIs, packet_at}

-- ---- loss

one_loss : (s : InitialSpace) (m k : ℕ) → IsLossMoment s m → IsLossMoment s k → m ≡ k
one_loss s m k a b =
    let largest = same_Some a.largest b.largest (sym a.largest_is ∙ b.largest_is) in
    let first = a.time.is_earliest b.time.number b.time.packet b.time.is_out (rw largest b.time.is_below) in
    let second = b.time.is_earliest a.time.number a.time.packet a.time.is_out (rw (← largest) a.time.is_below) in
    let m_is = a.time.is_then in
    let k_is = b.time.is_then in
    omega (arith, first, second, m_is, k_is)

pub loss_first : (s : InitialSpace) (o : Option Moment) → (o ≡ None → (n : ℕ) → s.largest_acked ≡ Some n → NoneIs (IsBelow n) s.sent)
    → IfSome o (λ t. (n : ℕ) × (s.largest_acked ≡ Some n) × IsLossTime s.sent n (loss_delay s.rtt) t.0) → IsFirstOf (IsLossMoment s) o
loss_first s None none some =
    only_moment (IsLossMoment s) None (one_loss s) (λ e m at. none refl at.largest at.largest_is at.time.number at.time.packet at.time.is_out at.time.is_below) tt
loss_first s (Some t) none some = only_moment (IsLossMoment s) (Some t) (one_loss s) (λ e. absurd (none-some t (sym e))) (record { largest = some.0; largest_is = some.1; time = some.2 })

pub lost_due : (now : ℕ) (old new : InitialSpace) (o : Option Moment) → IsFirstOf (IsLossMoment old) o → (t : Moment) × (o ≡ Some t) × (t.0 ≤ now)
    → ((n : ℕ) → old.largest_acked ≡ Some n → IsLossTaken n now old new) → AreLostByAge now old new
lost_due now old new o first came taken =
    let at = first.is_then came.0 came.1 in
    some_lost came.0.0 at.largest at came.2 at.largest_is (taken at.largest at.largest_is)

-- ---- a probe

none_out : (s : InitialSpace) (last : Moment) → s.sent ≡ [] → IsLastSent s.sent last → ⊥
none_out s last empty at = none-some at.packet (sym (ap (λ p. packet_at p at.number) empty) ∙ at.is_last.is_out)

same_last : (s : InitialSpace) (a b : Moment) → IsLastSent s.sent a → IsLastSent s.sent b → a ≡ b
same_last s a b x y =
    let up = x.is_last.is_greatest y.number y.packet y.is_last.is_out in
    let down = y.is_last.is_greatest x.number x.packet x.is_last.is_out in
    let number : x.number ≡ y.number = omega (arith, up, down) in
    let packet = same_Some x.packet y.packet (sym x.is_last.is_out ∙ (ap (λ (n : ℕ). packet_at s.sent n) number ∙ y.is_last.is_out)) in
    x.is_then ∙ (ap (λ p. p.time_sent) packet ∙ sym y.is_then)

one_probe : (s : InitialSpace) (waits : Bool) (m k : ℕ) → IsProbeTime s waits m → IsProbeTime s waits k → m ≡ k
one_probe s waits _ _ (after_last a x) (after_last b y) = ap (λ (t : Moment). probe_after s t) (same_last s a b x y)
one_probe s waits _ _ (after_last a x) (awaited empty waiting) = absurd (none_out s a empty x)
one_probe s waits _ _ (awaited empty waiting) (after_last b y) = absurd (none_out s b empty y)
one_probe s waits _ _ (awaited empty waiting) (awaited empty' waiting') = refl

no_probe_at : (s : InitialSpace) (waits : Bool) (m : ℕ) → IsUnprobed s waits → IsProbeTime s waits m → ⊥
no_probe_at s waits _ none (after_last a x) = none_out s a none.0 x
no_probe_at s waits _ none (awaited empty waiting) = both_ways waits none.1 waiting

probe_first : (s : InitialSpace) (waits : Bool) (o : Option Moment) → MatchOption o (IsUnprobed s waits) (λ t. IsProbeTime s waits t.0) → IsFirstOf (IsProbeTime s waits) o
probe_first s waits None none = only_moment (IsProbeTime s waits) None (one_probe s waits) (λ e m at. no_probe_at s waits m none at) tt
probe_first s waits (Some t) at = only_moment (IsProbeTime s waits) (Some t) (one_probe s waits) (λ e. absurd (none-some t (sym e))) at

module _ (now : ℕ) (h : Handshake) (s : InitialSpace) where
  pub probe_due : (waits : Bool) (o : Option Moment) (next : InitialSpace) → waits ≡ is_awaited h → is_limited h ≡ false → MatchOption o (IsUnprobed s waits) (λ t. IsProbeTime s waits t.0)
      → (t : Moment) × (o ≡ Some t) × (t.0 ≤ now) → next ≡ with_probe s.state s → IsProbed now h s next
  probe_due waits o next waits_is allowed at came queued =
      let time = subst (λ (b : Bool). IsProbeTime s b came.0.0) waits_is ((probe_first s waits o at).is_then came.0 came.1) in
      some_probe came.0.0 (record { allowed = allowed; time = time }) came.2 queued

  pub none_probed : (waits : Bool) (o : Option Moment) → waits ≡ is_awaited h → MatchOption o (IsUnprobed s waits) (λ t. IsProbeTime s waits t.0)
      → ((t : Moment) → o ≡ Some t → now < t.0) → IsProbed now h s s
  none_probed waits o waits_is at later =
      no_probe (λ m due. not_due (IsProbeTime s waits) o now m (probe_first s waits o at) later (subst (λ (b : Bool). IsProbeTime s b m) (sym waits_is) due.time)) refl

  pub none_allowed : is_limited h ≡ true → IsProbed now h s s
  none_allowed limited = no_probe (λ m due. absurd (both_ways (is_limited h) due.allowed limited)) refl

-- ---- what is due first

pub probe_only : (h : Handshake) (s : InitialSpace) (o : Option Moment)
    → MatchOption o ((moment : ℕ) → IsProbeMoment h s moment → ⊥) (λ t. IsProbeMoment h s t.0 × ((moment : ℕ) → IsProbeMoment h s moment → moment ≡ t.0)) → IsFirstOf (IsProbeMoment h s) o
probe_only h s None none = record { never = λ e m p. none m p; is_then = λ t e. absurd (none-some t e); first = λ t m e p. absurd (none-some t e) }
probe_only h s (Some u) at = record {
  never = λ e. absurd (none-some u (sym e));
  is_then = λ t e. subst (λ (x : Moment). IsProbeMoment h s x.0) (same_Some u t e) at.0;
  first = λ t m e p.
      let one = at.1 m p in
      let same = ap (λ (x : Moment). x.0) (same_Some u t e) in
      omega (arith, one, same);
}

module _ (h : Handshake) (s : InitialSpace) (is : h.space ≡ Some s) where
  due_of : (m : ℕ) → IsLossMoment s m ⊎ IsProbeMoment h s m → IsDueAt h m
  due_of m (inl lost) = loss_at s m is lost
  due_of m (inr probed) = probe_at s m is probed

  of_due : (m : ℕ) → IsDueAt h m → IsLossMoment s m ⊎ IsProbeMoment h s m
  of_due m (loss_at r _ there at) = inl (subst (λ (x : InitialSpace). IsLossMoment x m) (same_Some r s (sym there ∙ is)) at)
  of_due m (probe_at r _ there at) = inr (subst (λ (x : InitialSpace). IsProbeMoment h x m) (same_Some r s (sym there ∙ is)) at)

  pub first_due : (o : Option Moment) → IsFirstOf (λ m. IsLossMoment s m ⊎ IsProbeMoment h s m) o → MatchOption o ((m : ℕ) → IsDueAt h m → ⊥) (λ t. IsFirstDue h t.0)
  first_due None first = λ m at. first.never refl m (of_due m at)
  first_due (Some t) first = record { is = due_of t.0 (first.is_then t refl); first = λ m at. first.first t m refl (of_due m at) }
