use Rattle.std.proofs.Common.{arith}
use Rattle.qh_plain.proofs.CarriedReads.{placed_step}
use Rattle.qh_plain.proofs.carried.push_bytes.Goals as goal

pub loop-byte-preserved : goal.loop-byte-preserved
loop-byte-preserved c =
    rw c.in_ok-push.ensures.items (
      placed_step c.args.run.now.offset c.loop-byte.byte-index c.loop-byte.offset c.payload-byte-items.result.now c.args.bytes.now.items c.loop-byte.bytes.items c.loop-byte-test.true c.loop-byte.invariant.0
          c.loop-byte.invariant.1,
      let at = c.loop-byte.invariant.1 in omega arith,
    )
