use Rattle.std.proofs.Common.{arith}
use Rattle.qh_frame.proofs.FramesWritten.{map_ok}
use Rattle.qh_streams.proofs.LimitsWritten.{limits_written}
use Rattle.qh_streams.proofs.PhasesWritten.{cut_later, limits_cut}
use Rattle.qh_streams.proofs.streams.Streams.write_limits.Goals as goal

pub returns-in_err-write_due-2-clause-cut : goal.returns-in_err-write_due-2-clause-cut
returns-in_err-write_due-2-clause-cut c =
    cut_later _ _ _ _ _ _ _ _ _ _ _ c.in_ok-write_due.ensures.written.part c.in_err-write_due-2.ensures.keeps_out c.in_err-write_due-2.ensures.cut

pub returns-clause-written : goal.returns-clause-written
returns-clause-written c =
    map_ok c.write_due-3.result c.write_due-3.ensures.written
    (limits_written c.args.room _ _ c.args.self.now c.write_due.new.self c.write_due-2.new.self c.write_due-3.new.self
    c.args.out.now.items c.write_due.new.out.items c.write_due-2.new.out.items c.write_due-3.new.out.items
    c.args.sent.now.items c.write_due.new.sent.items c.write_due-2.new.sent.items c.write_due-3.new.sent.items
    c.in_ok-write_due.ensures.written (omega arith) c.in_ok-write_due-2.ensures.keeps_out c.in_ok-write_due-2.ensures.written (omega arith) c.write_due-3.ensures.keeps_out)

pub returns-clause-cut : goal.returns-clause-cut
returns-clause-cut c =
    limits_cut c.write_due-3.result c.args.room _ c.args.self.now c.write_due.new.self c.write_due-2.new.self c.write_due-3.new.self
    c.args.out.now.items c.write_due.new.out.items c.write_due-2.new.out.items c.write_due-3.new.out.items
    c.args.sent.now.items c.write_due.new.sent.items c.write_due-2.new.sent.items c.write_due-3.new.sent.items
    c.in_ok-write_due.ensures.written.part (omega arith) c.in_ok-write_due-2.ensures.keeps_out c.in_ok-write_due-2.ensures.written.part
    c.write_due-3.ensures.keeps_out c.write_due-3.ensures.cut
