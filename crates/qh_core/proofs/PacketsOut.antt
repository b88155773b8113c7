-- What the space keeps of the packets that are out, the numbers and what is to be acknowledged, while what is lost goes.
use Rattle.std.proofs.Common.{◌≡◌, ℕ, [], Some, List, refl, sym, ap, subst, ◌∙◌, inr}
use Rattle.std.specs.Prelude.{true}
use Rattle.qh_buffers.specs.Ranges.{AreApart, PlainRange, has}
use Rattle.qh_core.specs.Progress.{NumberedPacket, Progress}
use Rattle.qh_core.specs.Timers.{AreLostByAge, IsProbed, IsTimedOut}
use Rattle.qh_core.specs.Timers.AreLostByAge.{due as due_lost, not_yet as none_lost}
use Rattle.qh_core.specs.Timers.IsProbed.{due as due_probe, not_yet as no_probe}
use Rattle.qh_core.specs.Timers.IsTimedOut.{idle as idle_out, recovery as recovery_out, closed as closed_out, draining as draining_out, waits as waits_out, drained as drained_out}
use Rattle.qh_core.specs.declared.inner.Inner.{Inner}
use Rattle.qh_loss.specs.declared.probe.Probe.{Probe}
use Rattle.qh_loss.specs.declared.probe.Probe.TheVariants as probe
use Rattle.qh_recovery.specs.SentPackets.{packet_at}
use Rattle.qh_recovery.specs.declared.sent_packets.SentPacket.{SentPacket}
use Rattle.qh_space.specs.Receiving.{IsLossTaken}
use Rattle.qh_space.specs.Timers.{IsProbeDue, pings_after}
use Rattle.qh_space.specs.declared.data_space.DataSpace.{DataSpace}
use Rattle.qh_streams.specs.declared.frames.SentFrame.{SentFrame}

-- what is out was out, and the next number and what is to be acknowledged are as they were
pub record IsFewer (old new : DataSpace) : Type 0 where
  pub next : new.next_number ≡ old.next_number
  pub acks : new.acks ≡ old.acks
  pub out : (k : ℕ) (q : SentPacket SentFrame) → packet_at new.sent k ≡ Some q → packet_at old.sent k ≡ Some q

pub same_fewer : (old new : DataSpace) → new.next_number ≡ old.next_number → new.acks ≡ old.acks → new.sent ≡ old.sent → IsFewer old new
same_fewer old new next acks sent = record { next = next; acks = acks; out = λ k q there. subst (λ (l : List (ℕ × SentPacket SentFrame)). packet_at l k ≡ Some q) sent there }

pub fewer_on : (old mid new : DataSpace) → IsFewer old mid → IsFewer mid new → IsFewer old new
fewer_on old mid new a b = record { next = b.next ∙ a.next; acks = b.acks ∙ a.acks; out = λ k q there. a.out k q (b.out k q there) }

pub lost_fewer : (largest now : ℕ) (old new : DataSpace) → IsLossTaken largest now old new → IsFewer old new
lost_fewer largest now old new l = record {
  next = ap (λ (s : DataSpace). s.next_number) l.rest_is;
  acks = ap (λ (s : DataSpace). s.acks) l.rest_is;
  out = λ k q there. ((l.lost.packets.left k q).0 there).0;
}

pings_fewer : (p : Probe) (s : DataSpace) → IsFewer s (pings_after p s)
pings_fewer probe.Stream s = same_fewer s s refl refl refl
pings_fewer probe.Others s = same_fewer s s refl refl refl
pings_fewer probe.Ping s = same_fewer s (pings_after probe.Ping s) refl refl refl

probe_fewer : (old new : DataSpace) → IsProbeDue old new → IsFewer old new
probe_fewer old new due =
    let with_probe : DataSpace = record old { streams = new.streams; is_probe_due = true } in
    subst (λ (s : DataSpace). IsFewer old s) (sym due.rest_is) (fewer_on old with_probe (pings_after due.probe with_probe) (same_fewer old with_probe refl refl refl) (pings_fewer due.probe with_probe))

aged_fewer : (now : ℕ) (old new : DataSpace) → AreLostByAge now old new → IsFewer old new
aged_fewer now old new (due_lost moment largest is before acked lost) = lost_fewer largest now old new lost
aged_fewer now old new (none_lost later e) = subst (λ (s : DataSpace). IsFewer old s) (sym e) (same_fewer old old refl refl refl)

probed_fewer : (now : ℕ) (old new : DataSpace) → IsProbed now old new → IsFewer old new
probed_fewer now old new (due_probe moment is before due) = probe_fewer old new due
probed_fewer now old new (no_probe later e) = subst (λ (s : DataSpace). IsFewer old s) (sym e) (same_fewer old old refl refl refl)

module _ {S : Type 0} where
  -- before the first packet
  pub fresh_progress : (c : Inner S) → c.space.sent ≡ [] → c.space.next_number ≡ 0 → c.space.acks.ranges ≡ [] → Progress c [] []
  fresh_progress c none first empty = record {
    next = first;
    numbers = λ k p there. absurd (cc);
    out = λ n q there. let nothing : packet_at [] n ≡ Some q = subst (λ (l : List (ℕ × SentPacket SentFrame)). packet_at l n ≡ Some q) none there in absurd (cc);
    acks_below = λ n h. absurd h.among;
    owes = λ p among wants. absurd among;
    kept = inr (λ n. (λ h. let nothing : has [] n ≡ true = subst (λ (rs : List PlainRange). has rs n ≡ true) empty h in absurd (cc), λ a. absurd a.among));
    apart = subst (λ (rs : List PlainRange). AreApart 0 rs) (sym empty) tt;
  }

  -- so a connection goes on to stand to the packets that it sent and accepted
  pub fewer_progress : (old new : Inner S) (sent accepted : List NumberedPacket) → IsFewer old.space new.space → Progress old sent accepted → Progress new sent accepted
  fewer_progress old new sent accepted fewer p = record {
    next = fewer.next ∙ p.next;
    numbers = p.numbers;
    out = λ n q there. p.out n q (fewer.out n q there);
    acks_below = p.acks_below;
    owes = λ q among wants. rw (fewer.acks) (p.owes q among wants);
    kept = rw (fewer.acks) p.kept;
    apart = rw (fewer.acks) p.apart;
  }

  pub timed_out : (now : ℕ) (old new : Inner S) (sent accepted : List NumberedPacket) → IsTimedOut now old new → Progress old sent accepted → Progress new sent accepted
  timed_out now old new sent accepted out p = fewer_progress old new sent accepted (out_fewer out) p where
    same : (c : Inner S) → new ≡ c → c.space ≡ old.space → IsFewer old.space new.space
    same c e is = subst (λ (s : DataSpace). IsFewer old.space s) (sym (ap (λ (c : Inner S). c.space) e ∙ is)) (same_fewer old.space old.space refl refl refl)

    out_fewer : IsTimedOut now old new → IsFewer old.space new.space
    out_fewer (idle_out is due e) = same _ e refl
    out_fewer (recovery_out mid is idle aged probed e) = fewer_on old.space mid new.space (aged_fewer now old.space mid aged) (probed_fewer now mid new.space probed)
    out_fewer (closed_out reason due until is before e) = same _ e refl
    out_fewer (draining_out until is before e) = same _ e refl
    out_fewer (waits_out moment is before e) = same old e refl
    out_fewer (drained_out is e) = same old e refl
