use Rattle.std.proofs.Common.{arith}
use Rattle.qh_frame.proofs.FramesWritten.{map_ok}
use Rattle.qh_streams.proofs.AllPhases.{all_out, full, phases_written}
use Rattle.qh_streams.proofs.PhasesWritten.{cut_later, parts_cut, two_cut}
use Rattle.qh_streams.proofs.streams.Streams.write_phases.Goals as goal

pub returns-in_err-write_due-clause-cut : goal.returns-in_err-write_due-clause-cut
returns-in_err-write_due-clause-cut c = cut_later _ _ _ _ _ _ _ _ _ _ _ c.in_ok-write_limits.ensures.written.part c.in_err-write_due.ensures.keeps_out c.in_err-write_due.ensures.cut

pub returns-in_err-write_phase-clause-cut : goal.returns-in_err-write_phase-clause-cut
returns-in_err-write_phase-clause-cut c =
    two_cut _ c.args.room _ c.args.self.now c.write_limits.new.self c.write_due.new.self c.write_phase.new.self
    c.args.out.now.items c.write_limits.new.out.items c.write_due.new.out.items c.write_phase.new.out.items
    c.args.sent.now.items c.write_limits.new.sent.items c.write_due.new.sent.items c.write_phase.new.sent.items
    c.in_ok-write_limits.ensures.written.part (omega arith) c.in_ok-write_due.ensures.keeps_out c.in_ok-write_due.ensures.written.part
    c.in_err-write_phase.ensures.keeps_out c.in_err-write_phase.ensures.cut

pub returns-clause-written : goal.returns-clause-written
returns-clause-written c =
    map_ok c.write_due-2.result c.write_due-2.ensures.written
    (phases_written c.args.room _ _ _ c.args.self.now c.write_limits.new.self c.write_due.new.self c.write_phase.new.self c.write_due-2.new.self
    c.args.out.now.items c.write_limits.new.out.items c.write_due.new.out.items c.write_phase.new.out.items c.write_due-2.new.out.items
    c.args.sent.now.items c.write_limits.new.sent.items c.write_due.new.sent.items c.write_phase.new.sent.items c.write_due-2.new.sent.items
    c.in_ok-write_limits.ensures.written (omega arith) c.in_ok-write_due.ensures.keeps_out c.in_ok-write_due.ensures.written
    (omega arith) c.in_ok-write_phase.ensures.keeps_out c.in_ok-write_phase.ensures.written (omega arith) c.write_due-2.ensures.keeps_out)

pub returns-clause-full : goal.returns-clause-full
returns-clause-full c =
    map_ok c.write_due-2.result c.write_due-2.ensures.written
    (full c.args.room _ _ _ c.args.self.now c.write_limits.new.self c.write_due.new.self c.write_phase.new.self c.write_due-2.new.self
    c.args.out.now.items c.write_limits.new.out.items c.write_due.new.out.items c.write_phase.new.out.items c.write_due-2.new.out.items
    c.args.sent.now.items c.write_limits.new.sent.items c.write_due.new.sent.items c.write_phase.new.sent.items c.write_due-2.new.sent.items
    c.in_ok-write_limits.ensures.written (omega arith) c.in_ok-write_due.ensures.keeps_out c.in_ok-write_due.ensures.written
    (omega arith) c.in_ok-write_phase.ensures.keeps_out c.in_ok-write_phase.ensures.written (omega arith) c.write_due-2.ensures.keeps_out)

pub returns-clause-out : goal.returns-clause-out
returns-clause-out c =
    map_ok c.write_due-2.result c.write_due-2.ensures.written
    (λ last. all_out c.args.room _ _ _ c.args.self.now c.write_limits.new.self c.write_due.new.self c.write_phase.new.self c.write_due-2.new.self
    c.args.out.now.items c.write_limits.new.out.items c.write_due.new.out.items c.write_phase.new.out.items c.write_due-2.new.out.items
    c.args.sent.now.items c.write_limits.new.sent.items c.write_due.new.sent.items c.write_phase.new.sent.items c.write_due-2.new.sent.items
    c.in_ok-write_limits.ensures.written (omega arith) c.in_ok-write_due.ensures.keeps_out c.in_ok-write_due.ensures.written
    (omega arith) c.in_ok-write_phase.ensures.keeps_out c.in_ok-write_phase.ensures.written (omega arith) c.write_due-2.ensures.keeps_out last
    (λ f out. c.write_due-2.ensures.keeps_out f (c.in_ok-write_phase.ensures.keeps_out f (c.in_ok-write_due.ensures.keeps_out f (c.in_ok-write_limits.ensures.keeps_out f out)))))

pub returns-clause-cut : goal.returns-clause-cut
returns-clause-cut c =
    parts_cut c.write_due-2.result c.args.room _ _ c.args.self.now c.write_limits.new.self c.write_due.new.self c.write_phase.new.self c.write_due-2.new.self
    c.args.out.now.items c.write_limits.new.out.items c.write_due.new.out.items c.write_phase.new.out.items c.write_due-2.new.out.items
    c.args.sent.now.items c.write_limits.new.sent.items c.write_due.new.sent.items c.write_phase.new.sent.items c.write_due-2.new.sent.items
    c.in_ok-write_limits.ensures.written.part (omega arith) c.in_ok-write_due.ensures.keeps_out c.in_ok-write_due.ensures.written.part
    (omega arith) c.in_ok-write_phase.ensures.keeps_out c.in_ok-write_phase.ensures.written.part c.write_due-2.ensures.keeps_out c.write_due-2.ensures.cut
