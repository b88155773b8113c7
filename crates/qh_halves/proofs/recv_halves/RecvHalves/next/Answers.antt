use Rattle.std.proofs.Common.{sym, ◌∙◌, inl, arith}
use Rattle.qh_halves.proofs.RecvSteps.{counted_at_read}
use Rattle.qh_halves.proofs.RecvHalvesStepped.{room_for, are_settled}
use Rattle.qh_halves.proofs.recv_halves.RecvHalves.next.Goals as goal

pub settle-requires : goal.settle-requires
settle-requires c =
    let half = c.in-Some.ensures in
    room_for _ _ _ _ _ c.self.invariant c.args.id _ (sym half.value)

pub invariant_of-self-2 : goal.invariant_of-self-2
invariant_of-self-2 c =
    let half = c.in-Some.ensures in
    let next = c.next-result.new.self in
    let written = c.get_mut.follows.holds next in
    are_settled _ _ _ _ _ c.self.invariant c.args.id c.in-Some.half.now next (sym half.value) _ _ _ c.is_frame_due-is_due.result c.is_done-is_done.result written.0 c.is_done-is_done.ensures c.settle.ensures
    c.self.inside.received (λ undone frame. inl (c.is_frame_due-is_due.ensures ∙ frame)) c.self.invariant.received_below

pub overflow_sub-after : goal.overflow_sub-after
overflow_sub-after c =
    let counted = counted_at_read c.in-Some.half.now c.next-result.new.self c.args.max_length c.next-result.result c.next-result.ensures.answer in
    omega (arith, counted, c.counted-before.ensures.counted, c.counted-after.ensures.counted)
