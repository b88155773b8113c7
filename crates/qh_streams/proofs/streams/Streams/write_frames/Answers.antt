use Rattle.std.proofs.Common.{arith}
use Rattle.qh_streams.proofs.PhasesWritten.{out_again, when_err}
use Rattle.qh_streams.proofs.streams.Streams.write_frames.Goals as goal

pub returns-then-is_err-clause-out : goal.returns-then-is_err-clause-out
returns-then-is_err-clause-out c =
    let cut = when_err c.write_phases-written.result c.if-is_err.ensures.value c.write_phases-written.ensures.cut in
    out_again c.args.self.now c.write_phases-written.new.self c.take_back.new.self c.args.sent.now.items c.write_phases-written.new.sent.items c.take_back.new.sent.items cut.frames _ cut.sent_is
    (omega arith) c.take_back.ensures.rest c.write_phases-written.ensures.keeps_out c.take_back.ensures.keeps_out
