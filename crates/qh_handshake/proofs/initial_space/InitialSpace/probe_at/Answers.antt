use Rattle.std.proofs.Common.{◌≡◌, ℕ, ◌+◌, ◌-◌, ◌^◌, ◌∙◌, ap, sym, subst, min}
use Rattle.qh_base.specs.declared.time.Moment.{Moment}
use Rattle.qh_handshake.specs.Timers.{IsProbeTime, probe_after}
use Rattle.qh_handshake.specs.Timers.IsProbeTime.{after_last, awaited}
use Rattle.qh_handshake.specs.declared.initial_space.InitialSpace.{InitialSpace}
use Rattle.qh_handshake.proofs.initial_space.InitialSpace.probe_at.Goals as goal
use Rattle.qh_handshake.proofs.initial_space.InitialSpace.probe_at.Goals.{in-Some, in-None}
use Rattle.qh_recovery.specs.Rtt.{probe_time}

-- the moment is the probe timeout after this one
is_after : (s : InitialSpace) (from since : Moment) (time moment : ℕ) → from ≡ since → time ≡ probe_time s.rtt s.pto_count → moment ≡ min (2 ^ 64 - 1) (from.0 + time) → moment ≡ probe_after s since
is_after s from since time moment from_is time_is moment_is =
    moment_is ∙ ap (λ (m : Moment). min (2 ^ 64 - 1) (m.0 + time)) from_is ∙ ap (λ (t : ℕ). min (2 ^ 64 - 1) (since.0 + t)) time_is

pub returns : goal.returns
returns c = elim c.match-last_sent.branch [
  | in-Some w ↦ subst (λ (m : ℕ). IsProbeTime c.args.self.now c.args.is_awaited m)
      (sym (is_after c.args.self.now c.match-last_sent.from w.in-Some.last c.probe_time.result.0 c.plus.result.0 w.from-is c.probe_time.ensures c.plus.ensures)) (after_last w.in-Some.last w.in-Some.ensures)
  | in-None w ↦ subst (λ (m : ℕ). IsProbeTime c.args.self.now c.args.is_awaited m)
      (sym (is_after c.args.self.now c.match-last_sent.from c.args.self.now.last_active c.probe_time.result.0 c.plus.result.0 w.from-is c.probe_time.ensures c.plus.ensures)) (awaited w.in-None.ensures w.if-is_awaited.true)
]
