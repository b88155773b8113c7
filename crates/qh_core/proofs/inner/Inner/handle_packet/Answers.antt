use Rattle.std.proofs.Common.{Err, None, Some, refl, ap, ◌∙◌}
use Rattle.qh_core.proofs.Ends.{frames_keep_end, goes_on_whole, not_for_memory}
use Rattle.qh_core.proofs.PacketSteps.{handled_faulty, noted_by, noted_taken, spaced_whole, unnoted_refused}
use Rattle.qh_core.specs.Receiving.IsPacketHandled.{taken}
use Rattle.qh_core.specs.declared.idle.IdleTimer.{IdleTimer}
use Rattle.qh_streams.proofs.PhasesWritten.{when_err}
use Rattle.qh_core.proofs.inner.Inner.handle_packet.Goals as goal
use Rattle.qh_space.specs.declared.data_space.DataSpace.{DataSpace}

pub returns-in-Err-clause-ok : goal.returns-in-Err-clause-ok
returns-in-Err-clause-ok g c =
    handled_faulty c.args.now c.args.number c.args.frames.now c.args.self.now c.close_by_fault.new.self c.in-Err.fault c.transport_error.result
    (λ accepted remembers. (c.is_new.ensures accepted remembers).0 c.if-not-is_new.false)
    (λ e. c.in-Err.ensures.empty (ap Err e)) c.in-Err.ensures.frame c.transport_error.ensures.empty c.transport_error.ensures.frame c.close_by_fault.ensures

pub returns-in-Some-clause-connection : goal.returns-in-Some-clause-connection
returns-in-Some-clause-connection g c =
    let taken = c.in_ok-count.ensures.ok in
    let end = frames_keep_end c.args.now.0 c.args.frames.now c.accept.new.self c.take_frames.new.space taken.0 c.in_ok-count.end taken.1 in
    let kept = ap (λ (s : DataSpace). s.streams) c.accept.ensures.rest in
    goes_on_whole c.args.now (Some c.in-Some.error) _ c.end_by.new.self
    (spaced_whole c.args.self.now c.accept.new.self c.take_frames.new.space c.on_accepted.new.self c.requires.whole c.requires.open kept end c.in_ok-count.ensures.space)
    (λ memory. not_for_memory c.args.now.0 c.args.frames.now c.accept.new.self c.take_frames.new.space taken.0 c.in_ok-count.end taken.1 (c.in-Some.is ∙ memory))
    c.end_by.ensures

pub returns-in_default-clause-connection : goal.returns-in_default-clause-connection
returns-in_default-clause-connection g c =
    let taken = c.in_ok-count.ensures.ok in
    let end = frames_keep_end c.args.now.0 c.args.frames.now c.accept.new.self c.take_frames.new.space taken.0 c.in_ok-count.end taken.1 in
    let kept = ap (λ (s : DataSpace). s.streams) c.accept.ensures.rest in
    spaced_whole c.args.self.now c.accept.new.self c.take_frames.new.space c.on_accepted.new.self c.requires.whole c.requires.open kept end c.in_ok-count.ensures.space

pub returns-then-is_err-clause-ok : goal.returns-then-is_err-clause-ok
returns-then-is_err-clause-ok g c =
    unnoted_refused c.args.now c.args.number c.args.frames.now c.args.self.now c.refuse_unnoted.new.self c.in-Ok.surveyed.is_ack_eliciting c.accept.new.self
    (λ accepted remembers. (c.is_new.ensures accepted remembers).0 c.if-not-is_new.false) c.in-Ok.ensures.ok (when_err c.accept.result c.if-is_err.ensures.value c.accept.ensures.err) c.in_ok-refuse_unnoted.ensures.ok

pub returns-in-Some-clause-accepted : goal.returns-in-Some-clause-accepted
returns-in-Some-clause-accepted g c =
    let made = c.accept.ensures in (
      λ accepted remembers. (c.is_new.ensures accepted remembers).0 c.if-not-is_new.false,
      noted_taken c.args.now c.args.number c.in_ok-count.count c.args.frames.now c.args.self.now c.end_by.new.self c.in-Ok.surveyed.is_ack_eliciting c.accept.new.self c.take_frames.new.space (Some c.in-Some.error) c.in-Ok.ensures.ok
          (noted_by c.args.number c.in-Ok.surveyed.is_ack_eliciting c.args.self.now.space c.accept.new.self c.accept.result c.if-is_err.ensures.value made.remembers made.acks made.due made.rest)
          (rw c.in-Some.is at c.in_ok-count.ensures.ok) (rw c.on_accepted.ensures at c.end_by.ensures),
    )

pub returns-in-Some-clause-ok : goal.returns-in-Some-clause-ok
returns-in-Some-clause-ok g c = let is = returns-in-Some-clause-accepted g c in taken is.0 is.1.0

pub returns-in_default-clause-accepted : goal.returns-in_default-clause-accepted
returns-in_default-clause-accepted g c =
    let made = c.accept.ensures in (
      λ accepted remembers. (c.is_new.ensures accepted remembers).0 c.if-not-is_new.false,
      noted_taken c.args.now c.args.number c.in_ok-count.count c.args.frames.now c.args.self.now _ c.in-Ok.surveyed.is_ack_eliciting c.accept.new.self c.take_frames.new.space None c.in-Ok.ensures.ok
          (noted_by c.args.number c.in-Ok.surveyed.is_ack_eliciting c.args.self.now.space c.accept.new.self c.accept.result c.if-is_err.ensures.value made.remembers made.acks made.due made.rest)
          (rw c.in_default.is at c.in_ok-count.ensures.ok) (ap (λ (i : IdleTimer). record c.args.self.now { space = c.take_frames.new.space; idle = i }) c.on_accepted.ensures),
    )

pub returns-in_default-clause-ok : goal.returns-in_default-clause-ok
returns-in_default-clause-ok g c = let is = returns-in_default-clause-accepted g c in taken is.0 is.1.0
