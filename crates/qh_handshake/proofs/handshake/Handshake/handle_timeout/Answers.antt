use Rattle.std.proofs.Common.{◌≡◌, Some, refl, sym, ◌∙◌, subst}
use Rattle.qh_handshake.proofs.DueMoments.{none_allowed, none_probed, probe_due}
use Rattle.qh_handshake.proofs.HeldKept.{timed_whole}
use Rattle.qh_handshake.specs.Handshake.{IsHandshake}
use Rattle.qh_handshake.specs.Moments.{IsProbed}
use Rattle.qh_handshake.specs.Moments.IsTimedOut.{recovery}
use Rattle.qh_handshake.proofs.handshake.Handshake.handle_timeout.Goals as goal
use Rattle.qh_handshake.proofs.handshake.Handshake.handle_timeout.Goals.{else-not-is_limited-via-then-not-is_limited+else-is_due, else-not-is_limited-via-else-not-is_limited}

queued : (c : goal.After-queue_probe) → IsProbed c.args.now.0 c.args.self.now c.detect_lost.new.space c.queue_probe.new.self
queued c =
    probe_due c.args.now.0 c.args.self.now c.detect_lost.new.space c.is_awaited-is_awaited.result c.probe_at.result c.queue_probe.new.self c.is_awaited-is_awaited.ensures
    (sym c.is_limited-is_limited.ensures ∙ c.if-not-is_limited.true) c.probe_at.ensures (c.is_due.ensures.yes c.if-is_due.true) c.queue_probe.ensures.due

pub returns-then-is_due-clause-done : goal.returns-then-is_due-clause-done
returns-then-is_due-clause-done c = recovery c.in-Some.space c.detect_lost.new.space c.queue_probe.new.self c.in-Some.is c.detect_lost.ensures.lost (queued c) refl

pub returns-then-is_due-clause-whole : goal.returns-then-is_due-clause-whole
returns-then-is_due-clause-whole c =
    timed_whole c.args.now.0 c.args.self.now c.in-Some.space c.detect_lost.new.space c.queue_probe.new.self c.detect_lost.ensures.lost (queued c) c.queue_probe.ensures.space c.requires c.in-Some.is

not_queued : (c : goal.Joined-else-not-is_limited) → IsProbed c.args.now.0 c.args.self.now c.detect_lost.new.space c.detect_lost.new.space
not_queued c = elim c.else-not-is_limited.branch [
  | else-not-is_limited-via-then-not-is_limited+else-is_due w ↦
      none_probed c.args.now.0 c.args.self.now c.detect_lost.new.space c.is_awaited-is_awaited.result w.probe_at.result c.is_awaited-is_awaited.ensures w.probe_at.ensures
      (w.is_due.ensures.no w.if-is_due.false)
  | else-not-is_limited-via-else-not-is_limited w ↦
      none_allowed c.args.now.0 c.args.self.now c.detect_lost.new.space (sym c.is_limited-is_limited.ensures ∙ w.if-not-is_limited.false)
]

self_is : (c : goal.Joined-else-not-is_limited) → c.else-not-is_limited.self ≡ record c.args.self.now { space = Some c.detect_lost.new.space }
self_is c = elim c.else-not-is_limited.branch [
  | else-not-is_limited-via-then-not-is_limited+else-is_due w ↦ w.self-is
  | else-not-is_limited-via-else-not-is_limited w ↦ w.self-is
]

pub returns-else-not-is_limited-clause-done : goal.returns-else-not-is_limited-clause-done
returns-else-not-is_limited-clause-done c = recovery c.in-Some.space c.detect_lost.new.space c.detect_lost.new.space c.in-Some.is c.detect_lost.ensures.lost (not_queued c) (self_is c)

pub returns-else-not-is_limited-clause-whole : goal.returns-else-not-is_limited-clause-whole
returns-else-not-is_limited-clause-whole c = subst IsHandshake (sym (self_is c))
    (timed_whole c.args.now.0 c.args.self.now c.in-Some.space c.detect_lost.new.space c.detect_lost.new.space c.detect_lost.ensures.lost (not_queued c) c.detect_lost.ensures.space c.requires c.in-Some.is)
