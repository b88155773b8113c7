use Rattle.std.proofs.Common.{ap, arith}
use Rattle.qh_runtime.proofs.Dropping.{one_more}
use Rattle.qh_runtime.specs.declared.queue.QueueSocket.TheInside.{Inside}
use Rattle.qh_runtime.proofs.queue.QueueSocket.next_message.Goals as goal

pub loop-message-preserved-else-len-room : goal.loop-message-preserved-else-len-room
loop-message-preserved-else-len-room c =
    let length_is = c.len.ensures.value in
    let long = c.if-len-room.false in (
      one_more c.args.room _ _ _ c.in-Some.message c.loop-message.invariant.0 (c.in-Some.ensures.items) (omega (arith, length_is, long)),
      ap (λ (z : Inside). record z { arrived = c.pop_front.new.self }) c.loop-message.invariant.1,
    )

pub loop-message-preserved : goal.loop-message-preserved
loop-message-preserved c =
    let length_is = c.len.ensures.value in
    let long = c.if-len-room.false in (
      one_more c.args.room _ _ _ c.in-Some.message c.loop-message.invariant.0 (c.in-Some.ensures.items) (omega (arith, length_is, long)),
      ap (λ (z : Inside). record z { arrived = c.pop_front.new.self }) c.loop-message.invariant.1,
    )
