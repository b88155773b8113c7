use Rattle.std.proofs.Common.{◌≡◌, ◌∙◌, length, arith}
use Rattle.std.proofs.Math.ListN.{length-set}
use Rattle.qh_recovery.proofs.AckBlocks.{block_step}
use Rattle.qh_recovery.proofs.spaces.pending_acks.fill.Goals as goal

pub loop-index-preserved : goal.loop-index-preserved
loop-index-preserved c =
    let long : length c.loop-index.blocks ≡ 32 = c.loop-index.invariant.0 in (
      length-set c.loop-index.blocks c.loop-index.index c.block_at.result ∙ long,
      block_step c.args.ranges.now c.loop-index.blocks c.block_at.result c.loop-index.index c.len-count.result c.len-count.ensures (omega arith) (omega arith) c.block_at.ensures c.loop-index.invariant.1,
    )
