use Rattle.std.proofs.Common.{Some, false, arith}
use Rattle.qh_handshake.proofs.PacketsTaken.{no_range_yet, one_more_range, ranges_at_end}
use Rattle.qh_handshake.proofs.settled.take_acked.Goals as goal

pub loop-rest-init : goal.loop-rest-init
loop-rest-init c =
    let did = c.take_range-has_hello.ensures in
    one_more_range c.args.ack.now (Some c.args.ack.now) c.split-rest.result.1 c.split-rest.result.0.least c.split-rest.result.0.greatest
    c.args.sent.now c.args.sent.now c.take_range-has_hello.new.sent did.0 false c.take_range-has_hello.result
    (no_range_yet c.args.ack.now c.args.sent.now) c.split-rest.ensures.covers did.1 did.2 did.3

pub loop-rest-preserved : goal.loop-rest-preserved
loop-rest-preserved c =
    let did = c.take_range-has_hello-in-Some.ensures in
    one_more_range c.args.ack.now (Some c.in-Some.ranges) c.split-below.result.1 c.split-below.result.0.least c.split-below.result.0.greatest
    c.args.sent.now c.loop-rest.sent c.take_range-has_hello-in-Some.new.sent did.0 c.loop-rest.has_hello c.take_range-has_hello-in-Some.result
    (rw c.in-Some.is at c.loop-rest.invariant) c.split-below.ensures.covers did.1 did.2 did.3

pub returns : goal.returns
returns c =
    let end = ranges_at_end c.args.ack.now c.args.sent.now c.loop-rest.sent c.loop-rest.has_hello (rw c.in_default.is at c.loop-rest.invariant) in
    (end.taken, end.packets, omega (arith, end.count, c.len-before.ensures, c.len.ensures), end.bears)
