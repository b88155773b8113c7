use Rattle.std.proofs.Common.{ap, arith, subst}
use Rattle.qh_space.specs.Sending.{due_bytes}
use Rattle.qh_space.specs.declared.data_space.DataSpace.{DataSpace}
use Rattle.qh_streams.specs.Streams.{AreShared, PlainStreams}
use Rattle.qh_space.proofs.PacketFrames.{eliciting_fits, eliciting_idle, eliciting_shared, none_due}
use Rattle.qh_space.proofs.data_space.DataSpace.put_eliciting.Goals as goal

pub returns-clause-idle : goal.returns-clause-idle
returns-clause-idle c = λ same may.
    let due = due_bytes c.args.self.now in
    let idle = eliciting_idle c.args.room _ c.put_due.new.self.streams c.write_frames.new.self c.args.out.now.items c.put_due.new.out.items c.write_frames.new.out.items due c.write_frames.new.sent.items
    c.requires c.in_ok-put_due.ensures.put c.in_ok-put_due.ensures.few (omega arith) (rw c.new-frames.ensures.items at c.in_ok-write_frames.ensures.written) c.in_ok-write_frames.ensures.full same in
    let none = none_due c.args.self.now.is_ping_due c.args.self.now.path_response idle.0 in
    (none.0, none.1, idle.1)

pub returns-clause-fits : goal.returns-clause-fits
returns-clause-fits c =
    eliciting_fits c.args.room _ c.put_due.new.self.streams c.write_frames.new.self c.args.out.now.items c.put_due.new.out.items c.write_frames.new.out.items (due_bytes c.args.self.now) c.write_frames.new.sent.items
    c.requires c.in_ok-put_due.ensures.put c.in_ok-put_due.ensures.few (omega arith) (rw c.new-frames.ensures.items at c.in_ok-write_frames.ensures.written)

pub returns-clause-shared : goal.returns-clause-shared
returns-clause-shared c = λ enough may.
    subst (λ (s : PlainStreams). AreShared s c.write_frames.new.self c.write_frames.new.sent.items) (ap (λ (d : DataSpace). d.streams) c.in_ok-put_due.ensures.rest)
    (eliciting_shared c.args.room _ c.put_due.new.self.streams c.write_frames.new.self c.args.out.now.items c.put_due.new.out.items c.write_frames.new.out.items (due_bytes c.args.self.now) c.write_frames.new.sent.items
    c.requires c.in_ok-put_due.ensures.put c.in_ok-put_due.ensures.few (omega arith) (rw c.new-frames.ensures.items at c.in_ok-write_frames.ensures.written) enough)
