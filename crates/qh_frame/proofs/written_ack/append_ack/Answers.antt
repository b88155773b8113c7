use Rattle.qh_frame.proofs.AcksWritten.{ack_put_at}
use Rattle.qh_frame.proofs.FramesWritten.{on_ok}
use Rattle.qh_frame.proofs.written_ack.append_ack.Goals as goal

pub returns-clause-ok : goal.returns-clause-ok
returns-clause-ok c =
    ack_put_at c.args.out.now.items c.put_numbers.new.out.items c.put_gaps.new.out.items c.args.delay c.in-Some.first.now c.in-Some.below.now c.args.ranges.now c.in-Some.ensures.cases.0
    c.requires.delay c.requires.apart c.in_ok-put_numbers.ensures.ok (on_ok c.put_gaps.result c.if-is_err.ensures.value c.put_gaps.ensures.ok)
