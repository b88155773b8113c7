use Rattle.std.proofs.Common.{arith}
use Rattle.qh_h3wire.proofs.LinesAgain.{readable_more, fault_found, all_readable}
use Rattle.qh_h3wire.proofs.headers.field.fault_of_lines.Goals as goal

pub returns-in-Some : goal.returns-in-Some
returns-in-Some c =
    fault_found c.args.lines.now c.min.result c.loop-line.line-index c.line-item.result c.in-Some.fault (omega (arith, c.min.ensures)) c.loop-line-test.true c.line-item.is (rw c.min.ensures c.loop-line.invariant) c.in-Some.ensures.0 c.in-Some.ensures.1

pub loop-line-preserved : goal.loop-line-preserved
loop-line-preserved c = rw (← c.min.ensures) (readable_more _ c.loop-line.line-index c.line-item.result c.loop-line-test.true c.line-item.is (rw c.min.ensures c.loop-line.invariant) c.in_default.ensures)

pub returns : goal.returns
returns c = all_readable c.args.lines.now c.min.result c.loop-line.line-index c.min.ensures c.loop-line-test.false (rw c.min.ensures c.loop-line.invariant)
