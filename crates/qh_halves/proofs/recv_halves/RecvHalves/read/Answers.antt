use Rattle.std.proofs.Common.{◌≤◌, ◌∙◌, refl, sym, inl, arith}
use Rattle.qh_half.specs.Recv.{counted, with_order}
use Rattle.qh_halves.proofs.MapWritten.{same_written}
use Rattle.qh_halves.proofs.RecvSteps.{counted_at_read}
use Rattle.qh_halves.proofs.RecvHalvesStepped.{room_for, are_settled, begun_read, unbegun_read, order_is}
use Rattle.qh_halves.proofs.recv_halves.RecvHalves.read.Goals as goal

pub returns-then-is_wanting-clause-memory : goal.returns-then-is_wanting-clause-memory
returns-then-is_wanting-clause-memory c = λ wanting.
    let half = c.in-Some.ensures in
    let written = c.get_mut.follows.holds c.read-result.new.self in
    let same = same_written _ c.args.id _ _ (sym half.value) _ written.0 (c.read-result.ensures.memory wanting).0 in
    rw (← c.self.view_is, same) refl

pub overflow_sub-after : goal.overflow_sub-after
overflow_sub-after c =
    let answer = c.read-result.ensures.answer (c.is_wanting.ensures.no c.if-is_wanting.false) in
    let more : counted c.in-Some.half.now ≤ counted c.read-result.new.self = counted_at_read (with_order c.in-Some.half.now c.args.ordered) c.read-result.new.self c.args.max_length c.read-result.result answer in
    omega (arith, more, c.counted-before.ensures.counted, c.counted-after.ensures.counted)

pub settle-requires : goal.settle-requires
settle-requires c =
    let half = c.in-Some.ensures in
    room_for _ _ _ _ _ c.self.invariant c.args.id _ (sym half.value)

pub invariant_of-self-2 : goal.invariant_of-self-2
invariant_of-self-2 c =
    let half = c.in-Some.ensures in
    let next = c.read-result.new.self in
    let written = c.get_mut.follows.holds next in
    are_settled _ _ _ _ _ c.self.invariant c.args.id c.in-Some.half.now next (sym half.value) _ _ _ c.is_frame_due-is_due.result c.is_done-is_done.result written.0 c.is_done-is_done.ensures c.settle.ensures
    c.self.inside.received (λ undone frame. inl (c.is_frame_due-is_due.ensures ∙ frame)) c.self.invariant.received_below

pub returns-then-is_wanting-clause-answer : goal.returns-then-is_wanting-clause-answer
returns-then-is_wanting-clause-answer c =
    let half = c.in-Some.ensures in
    let written = c.get_mut.follows.holds c.read-result.new.self in
    let wanting = c.is_wanting.ensures.yes c.if-is_wanting.true in
    let same = same_written _ c.args.id _ _ (sym half.value) _ written.0 (c.read-result.ensures.memory wanting).0 in
    rw (← c.self.view_is, same)
    (unbegun_read _ _ c.args.id c.args.max_length c.args.ordered c.read-result.result c.in-Some.half.now (omega (arith, c.self.ranges)) (c.self.invariant.undone c.args.id c.in-Some.half.now (sym half.value))
    (sym half.value) (c.read-result.ensures.memory wanting).1 refl wanting)

pub returns-clause-answer : goal.returns-clause-answer
returns-clause-answer c =
    let half = c.in-Some.ensures in
    let next = c.read-result.new.self in
    let written = c.get_mut.follows.holds next in
    let some = sym c.is_wanting.ensures.value ∙ c.if-is_wanting.false in
    rw (← c.self.view_is, order_is c.args.ordered c.read-result.result some)
    (begun_read _ c.args.id c.args.max_length c.args.ordered c.read-result.result c.in-Some.half.now next _ _ _ _ c.is_frame_due-is_due.result c.is_done-is_done.result _
    (omega (arith, c.self.ranges)) (c.self.invariant.undone c.args.id c.in-Some.half.now (sym half.value)) (sym half.value)
    (c.read-result.ensures.answer (c.is_wanting.ensures.no c.if-is_wanting.false)) written.0 c.is_done-is_done.ensures c.settle.ensures
    (omega (arith, c.saturating_add-self-inside.ensures, c.counted-before.ensures.counted, c.counted-after.ensures.counted)))
