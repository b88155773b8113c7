use Rattle.std.proofs.Common.{refl, arith, inl, inr}
use Rattle.qh_streams.proofs.PhasesWritten.{cut_later, no_phase_yet, one_more, part_grown, phase_done, phase_idle, room_falls}
use Rattle.qh_streams.proofs.streams.Streams.write_phase.Goals as goal

pub loop-sent-init : goal.loop-sent-init
loop-sent-init c = no_phase_yet c.args.phase c.args.most c.args.room c.args.self.now c.args.self.now c.args.out.now.items c.args.out.now.items c.args.sent.now.items c.args.sent.now.items refl refl refl

pub overflow_sub-room : goal.overflow_sub-room
overflow_sub-room c = let grown = part_grown c.loop-sent.invariant.part in omega (arith, grown.0, grown.1)

pub returns-in_err-write_frame-clause-cut : goal.returns-in_err-write_frame-clause-cut
returns-in_err-write_frame-clause-cut c = cut_later _ _ _ _ _ _ _ _ _ _ _ c.loop-sent.invariant.part c.in_err-write_frame.ensures.keeps_out c.in_err-write_frame.ensures.cut

pub returns-then-not-branch-clause-written : goal.returns-then-not-branch-clause-written
returns-then-not-branch-clause-written c =
    let idle = c.in_ok-write_frame.ensures.idle c.if-not-branch.true in
    phase_idle c.args.phase c.args.most c.args.room c.args.self.now c.loop-sent.self c.args.out.now.items c.loop-sent.out.items c.args.sent.now.items c.loop-sent.sent.items c.loop-sent.invariant _ _ _ idle.1 idle.2 idle.3 idle.0

pub loop-sent-smaller : goal.loop-sent-smaller
loop-sent-smaller c =
    room_falls c.args.phase c.args.most c.args.room _ c.args.self.now c.loop-sent.self c.write_frame.new.self c.args.out.now.items c.loop-sent.out.items c.write_frame.new.out.items c.args.sent.now.items c.loop-sent.sent.items c.write_frame.new.sent.items
    c.loop-sent.invariant (omega arith) (c.in_ok-write_frame.ensures.written c.if-not-branch.false)

pub loop-sent-preserved : goal.loop-sent-preserved
loop-sent-preserved c =
    one_more c.args.phase c.args.most c.args.room _ c.args.self.now c.loop-sent.self c.write_frame.new.self c.args.out.now.items c.loop-sent.out.items c.write_frame.new.out.items c.args.sent.now.items c.loop-sent.sent.items c.write_frame.new.sent.items
    c.loop-sent.invariant (omega arith) (c.in_ok-write_frame.ensures.written c.if-not-branch.false) c.in_ok-write_frame.ensures.keeps_out (omega arith) (omega arith)

pub returns-else-len-before-clause-written : goal.returns-else-len-before-clause-written
returns-else-len-before-clause-written c =
    phase_done c.args.phase c.args.most c.args.room c.args.self.now c.loop-sent.self c.args.out.now.items c.loop-sent.out.items c.args.sent.now.items c.loop-sent.sent.items c.loop-sent.invariant (inr (omega arith))

pub returns-after-loop-sent-clause-written : goal.returns-after-loop-sent-clause-written
returns-after-loop-sent-clause-written c =
    phase_done c.args.phase c.args.most c.args.room c.args.self.now c.loop-sent.self c.args.out.now.items c.loop-sent.out.items c.args.sent.now.items c.loop-sent.sent.items c.loop-sent.invariant (inl (omega arith))

pub returns-after-loop-sent-clause-grown : goal.returns-after-loop-sent-clause-grown
returns-after-loop-sent-clause-grown c = part_grown c.loop-sent.invariant.part
