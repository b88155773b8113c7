use Rattle.std.proofs.Common.{ℕ, ◌+◌, ◌*◌, List, length, take, subst}
use Rattle.std.proofs.lemmas.Result.{IfOk-weaker}
use Rattle.qh_frame.specs.AckWritten.{ack_frame}
use Rattle.qh_frame.specs.FrameBytes.{IsPut}
use Rattle.qh_frame.specs.declared.ack.AckRange.{AckRange}
use Rattle.qh_recovery.proofs.AckBlocks.{blocks_apart, put_is}
use Rattle.qh_recovery.proofs.spaces.pending_acks.PendingAcks.put.Goals as goal

pub put_ack-requires : goal.put_ack-requires
put_ack-requires c =
    let some = rw (← c.self.view_is) at c.requires in
    rw c.fill-count.ensures.blocks (blocks_apart c.self.inside.ranges c.is_apart.ensures c.self.invariant some)

pub returns-clause-ok : goal.returns-clause-ok
returns-clause-ok c =
    let some = rw (← c.self.view_is) at c.requires in
    let blocks : List AckRange = take c.fill-count.result c.fill-count.new.blocks in
    let old = c.args.out.now.items in
    let new = c.put_ack.new.out.items in
    let most : ℕ = 17 + 16 * length blocks in
    rw (← c.self.view_is)
    (IfOk-weaker c.put_ack.result (λ _. IsPut old new (ack_frame c.from_u32.result blocks) most) _ (λ _ put. put_is c.self.inside.ranges blocks old new most c.is_apart.ensures c.self.invariant some c.fill-count.ensures.blocks (subst (λ (delay : ℕ). IsPut old new (ack_frame delay blocks) most) c.from_u32.ensures put)) c.put_ack.ensures.ok)
