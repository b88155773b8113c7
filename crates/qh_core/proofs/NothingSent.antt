-- Where nothing is sent, all that came is acknowledged, and what waits is held by the window.
use Rattle.std.proofs.Common.{◌≡◌, ◌⊎◌, ◌+◌, ◌<◌, ◌^◌, ◌==◌, nat_le, true, false, List, refl, sym, ap, subst, inl, inr, arith}
use Rattle.std.proofs.lemmas.Bool.{both_ways, cases_Bool, cases_eq, eq-eqb, or_left, or_right}
use Rattle.qh_core.proofs.PacketsOut.{IsFewer, fewer_progress, same_fewer}
use Rattle.qh_core.specs.Inner.{is_open, with_space}
use Rattle.qh_core.specs.Progress.{AreAllAcknowledged, IsHeld, NumberedPacket, Progress}
use Rattle.qh_core.specs.Sending.{IsSilent, NothingIsSent}
use Rattle.qh_core.specs.Sending.IsSilent.{quiet as is_quiet, exhausted as is_exhausted, told as was_told, draining as is_draining, drained as is_drained}
use Rattle.qh_core.specs.declared.inner.Inner.{Inner}
use Rattle.qh_recovery.specs.SentPackets.{bytes_in_flight}
use Rattle.qh_recovery.specs.Window.{allows}
use Rattle.qh_space.specs.Sending.{IsQuiet, may_elicit}
use Rattle.qh_space.specs.declared.data_space.DataSpace.{DataSpace}

-- the window holds frames back only while something is in flight
held_in_flight : (s : DataSpace) → may_elicit s ≡ false → 0 < bytes_in_flight s.sent
held_in_flight s held = elim (cases_eq (bytes_in_flight s.sent) 0) [
  | inl none ↦
      let empty = or_left (bytes_in_flight s.sent == 0) (nat_le (bytes_in_flight s.sent + 1200) s.congestion.window) (eq-eqb (bytes_in_flight s.sent) 0 none) in
      absurd (both_ways (may_elicit s) held (or_right s.is_probe_due (allows s.congestion (bytes_in_flight s.sent)) empty))
  | inr some ↦ omega (arith, some)
]

module _ {S : Type 0} where
  quiet_held : (c : Inner S) → IsQuiet c.space → IsHeld c
  quiet_held c q = elim (cases_Bool (may_elicit c.space)) [ inl may ↦ inl (q.streams may) | inr held ↦ inr (held_in_flight c.space held) ]

  quiet_acknowledged : (c : Inner S) (sent accepted : List NumberedPacket) → IsQuiet c.space → Progress c sent accepted → AreAllAcknowledged sent accepted
  quiet_acknowledged c sent accepted q p x among wants = elim (p.owes x among wants) [
    | inl acked ↦ inl acked
    | inr (inl due) ↦ absurd (both_ways c.space.acks.is_due q.ack due.0)
    | inr (inr scattered) ↦ inr scattered
  ]

  why : (c : Inner S) (sent accepted : List NumberedPacket) → IsSilent c → is_open c.state ≡ true → Progress c sent accepted
      → (c.space.next_number ≡ 2 ^ 62) ⊎ (AreAllAcknowledged sent accepted × IsHeld c)
  why c sent accepted (is_quiet here q) still p = inr (quiet_acknowledged c sent accepted q p, quiet_held c q)
  why c sent accepted (is_exhausted none) still p = inl none
  why c sent accepted (was_told reason until is) still p = absurd (both_ways (is_open c.state) (ap is_open is) still)
  why c sent accepted (is_draining until is) still p = absurd (both_ways (is_open c.state) (ap is_open is) still)
  why c sent accepted (is_drained is) still p = absurd (both_ways (is_open c.state) (ap is_open is) still)

  pub nothing_sent : (old new : Inner S) (sent accepted : List NumberedPacket) → NothingIsSent old new → is_open old.state ≡ true → Progress old sent accepted
      → Progress new sent accepted × ((old.space.next_number ≡ 2 ^ 62) ⊎ (AreAllAcknowledged sent accepted × IsHeld new))
  nothing_sent old new sent accepted n still p =
      subst (λ (c : Inner S). Progress c sent accepted × ((old.space.next_number ≡ 2 ^ 62) ⊎ (AreAllAcknowledged sent accepted × IsHeld c))) (sym n.0) (p, why old sent accepted n.1 still p)
