use Rattle.std.proofs.Common.{Some, false}
use Rattle.qh_loss.proofs.AckRanges.{no_range_yet, one_more_range, ranges_at_end}
use Rattle.qh_loss.proofs.acked.on_ack_received.Goals as goal

pub loop-rest-init : goal.loop-rest-init
loop-rest-init c =
    let did = c.acknowledge-is_any.ensures in
    one_more_range c.args.ack.now (Some c.args.ack.now) c.split-rest.result.1 c.split-rest.result.0 c.args.sent.now c.args.sent.now c.acknowledge-is_any.new.sent
    c.args.streams.now c.args.streams.now c.acknowledge-is_any.new.streams c.args.congestion.now c.args.congestion.now c.acknowledge-is_any.new.congestion c.args.log.now c.args.log.now c.acknowledge-is_any.new.log false c.acknowledge-is_any.result
    (no_range_yet c.args.ack.now c.args.sent.now c.args.streams.now c.args.congestion.now c.args.log.now c.requires.owed c.requires.room) c.split-rest.ensures.covers did.taken did.room did.none did.some did.fewer did.owed

pub loop-rest-preserved : goal.loop-rest-preserved
loop-rest-preserved c =
    let did = c.acknowledge-is_any-in-Some.ensures in
    one_more_range c.args.ack.now (Some c.in-Some.ranges) c.split-below.result.1 c.split-below.result.0 c.args.sent.now c.loop-rest.sent c.acknowledge-is_any-in-Some.new.sent
    c.args.streams.now c.loop-rest.streams c.acknowledge-is_any-in-Some.new.streams c.args.congestion.now c.loop-rest.congestion c.acknowledge-is_any-in-Some.new.congestion
    c.args.log.now c.loop-rest.log c.acknowledge-is_any-in-Some.new.log c.loop-rest.is_any c.acknowledge-is_any-in-Some.result
    (rw c.in-Some.is at c.loop-rest.invariant) c.split-below.ensures.covers did.taken did.room did.none did.some did.fewer did.owed

pub returns-clause-taken : goal.returns-clause-taken
returns-clause-taken c =
    ranges_at_end c.args.ack.now c.args.sent.now c.loop-rest.sent c.args.streams.now c.loop-rest.streams c.args.congestion.now c.loop-rest.congestion c.args.log.now c.loop-rest.log c.loop-rest.is_any
    (rw c.in_default.is at c.loop-rest.invariant)
