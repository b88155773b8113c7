-- Nothing is due in time.
use Rattle.std.proofs.Common.{◌≡◌, ◌⊎◌, ℕ, ◌+◌, ◌-◌, ◌*◌, ◌^◌, ◌<◌, ◌≤◌, min, max, true, false, List, [], ◌∷◌, length, Option, Some, None, arith, refl, sym, ap, subst, ◌∙◌, inl, inr}
use Rattle.std.proofs.lemmas.List.Elements.{All-head}
use Rattle.std.proofs.lemmas.Nat.{pow_pos}
use Rattle.std.specs.List.{All}
use Rattle.qh_base.specs.declared.time.Moment.{Moment}
use Rattle.qh_base.specs.declared.time.Span.{Span}
use Rattle.qh_core.specs.Inner.{is_open, with_space}
use Rattle.qh_core.specs.Timers.{AreLostByAge, IsIdleDue, IsProbed, IsTimedOut}
use Rattle.qh_core.specs.declared.inner.Inner.{Inner}
use Rattle.qh_core.specs.declared.state.State.{State}
use Rattle.qh_frame.specs.Plain.{ack_of}
use Rattle.qh_frame.specs.declared.ack.Ack.{Ack}
use Rattle.qh_recovery.specs.Rtt.{loss_delay, probe_time, pto_base}
use Rattle.qh_recovery.specs.SentPackets.{IsLost, packet_at}
use Rattle.qh_recovery.specs.declared.paths.RttEstimator.{RttEstimator}
use Rattle.qh_recovery.specs.declared.sent_packets.SentPacket.{SentPacket}
use Rattle.qh_space.specs.Receiving.{IsAckReceived, greatest_of}
use Rattle.qh_space.specs.declared.data_space.DataSpace.{DataSpace}
use Rattle.qh_spec.specs.Acknowledged.{Covers}
use Rattle.qh_streams.specs.declared.frames.SentFrame.{SentFrame}

-- ---- an ACK

-- a packet that is lost has a number below the greatest that was acknowledged
lost_below : (greatest now delay k : ℕ) (q : SentPacket SentFrame) → IsLost greatest now delay k q → k < greatest
lost_below greatest now delay k q (inl far) = omega (arith, far)
lost_below greatest now delay k q (inr late) = late.0

none_if : {X : Type 0} (P : X → Type 0) (xs : List X) → ((x : X) → P x → ⊥) → All P xs → xs ≡ []
none_if P [] never all = refl
none_if P (x ∷ xs) never all = absurd (never x (All-head P x xs all))

pub nothing_lost : (now : ℕ) (old new : DataSpace) (ack : Ack) → (received : IsAckReceived now old new ack)
    → ((k : ℕ) (q : SentPacket SentFrame) → packet_at old.sent k ≡ Some q → k < greatest_of old.largest_acked ack.greatest → Covers (ack_of ack) k)
    → (received.lost.lost.taken ≡ []) × (received.lost.count ≡ 0)
nothing_lost now old new ack received covers =
    let lost = received.lost.lost in
    let greatest = greatest_of old.largest_acked ack.greatest in
    let none = none_if (λ (e : ℕ × SentPacket SentFrame). (packet_at received.mid.sent e.0 ≡ Some e.1) × IsLost greatest now (loss_delay received.mid.rtt) e.0 e.1) lost.taken
    (λ e is.
    let was = (received.taken.packets.left e.0 e.1).0 is.0 in
    was.1 (covers e.0 e.1 was.0 (lost_below greatest now (loss_delay received.mid.rtt) e.0 e.1 is.1))) lost.packets.are_so in
    (none, lost.count_is ∙ ap length none)

-- ---- moments

at_least : (a p : ℕ) → 0 < p → a ≤ a * p
at_least a p h = grind (arith, h)

base_late : (e : RttEstimator) → 26000000 ≤ pto_base e
base_late e = omega arith

probe_late : (e : RttEstimator) (count : ℕ) → 26000000 ≤ probe_time e count
probe_late e count =
    let base = base_late e in
    let times = at_least (pto_base e) (2 ^ count) (pow_pos count) in
    omega (arith, base, times)

-- no packet is late that is out below the greatest number that was acknowledged, since there is none
age_same : (now : ℕ) (old mid : DataSpace) → AreLostByAge now old mid
    → ((k greatest : ℕ) (q : SentPacket SentFrame) → packet_at old.sent k ≡ Some q → old.largest_acked ≡ Some greatest → greatest ≤ k) → mid ≡ old
age_same now old mid (AreLostByAge.due moment largest is passed acked lost) above =
    let time = is.time in
    let least = above time.number is.largest time.packet time.is_out is.acked in
    let less = time.is_below in
    absurd (omega (arith, least, less))
age_same now old mid (AreLostByAge.not_yet _ is) above = is

probe_same : (now : ℕ) (old mid new : DataSpace) → now < 2 ^ 64 - 1 → ((k : ℕ) (q : SentPacket SentFrame) → packet_at old.sent k ≡ Some q → now < q.time_sent.0 + 26000000)
    → mid ≡ old → IsProbed now mid new → new ≡ old
probe_same now old mid new below recent same (IsProbed.due moment is passed _) =
    let last = is.is_last in
    let there : packet_at old.sent last.number ≡ Some last.packet = subst (λ (s : DataSpace). packet_at s.sent last.number ≡ Some last.packet) same last.is_last.is_out in
    let before = recent last.number last.packet there in
    let late = probe_late mid.rtt mid.pto_count in
    let then = is.moment_is in
    let sent = ap (λ (m : Moment). m.0) last.is_then in
    absurd (omega (arith, below, before, late, then, sent, passed))
probe_same now old mid new below recent same (IsProbed.not_yet _ is) = is ∙ same

module _ {S : Type 0} where
  idle_late : (now : ℕ) (c : Inner S) → now < 2 ^ 64 - 1 → ((timeout : Span) → c.idle.timeout ≡ Some timeout → now < c.idle.since.0 + timeout.0) → IsIdleDue now c → ⊥
  idle_late now c below early due =
      let end = due.1 in
      let is = end.moment_is in
      let before = early end.timeout end.timeout_is in
      let passed = due.2 in
      omega (arith, is, before, passed, below)

  pub nothing_due : (now : ℕ) (old new : Inner S) → is_open old.state ≡ true → now < 2 ^ 64 - 1 → IsTimedOut now old new
      → ((k : ℕ) (q : SentPacket SentFrame) → packet_at old.space.sent k ≡ Some q → now < q.time_sent.0 + 26000000)
      → ((k greatest : ℕ) (q : SentPacket SentFrame) → packet_at old.space.sent k ≡ Some q → old.space.largest_acked ≡ Some greatest → greatest ≤ k)
      → ((timeout : Span) → old.idle.timeout ≡ Some timeout → now < old.idle.since.0 + timeout.0)
      → new ≡ old
  nothing_due now old new opened below (IsTimedOut.idle _ due is) recent above early = absurd (idle_late now old below early due)
  nothing_due now old new opened below (IsTimedOut.recovery mid _ _ aged probed is) recent above early =
      let same = age_same now old.space mid aged above in
      let kept = probe_same now old.space mid new.space below recent same probed in
      is ∙ ap (λ (s : DataSpace). with_space old s) kept
  nothing_due now old new opened below (IsTimedOut.closed _ _ _ shut _ _) recent above early = let no = ap is_open shut in absurd (cc)
  nothing_due now old new opened below (IsTimedOut.draining _ shut _ _) recent above early = let no = ap is_open shut in absurd (cc)
  nothing_due now old new opened below (IsTimedOut.waits _ _ _ is) recent above early = is
  nothing_due now old new opened below (IsTimedOut.drained _ is) recent above early = is
