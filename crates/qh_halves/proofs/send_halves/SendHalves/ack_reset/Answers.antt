use Rattle.std.proofs.Common.{ℕ, sym, ap, ◌∙◌, arith}
use Rattle.std.specs.BTreeMap.{BTreeMap}
use Rattle.qh_half.specs.Send.{PlainSend}
use Rattle.qh_halves.specs.SendHalves.{IsResetAcked}
use Rattle.qh_halves.specs.SendHalves.IsSettledBy.{absent, on, done}
use Rattle.qh_halves.proofs.HalvesStepped.{left_stepped, is_step, is_last, is_absent, same_again}
use Rattle.qh_halves.proofs.HalfSteps.{acked_reset_holds, acked_reset_is}
use Rattle.qh_halves.proofs.send_halves.SendHalves.ack_reset.Goals as goal

pub returns-in_default-clause-settled : goal.returns-in_default-clause-settled
returns-in_default-clause-settled c =
    let same = ap (λ (m : BTreeMap ℕ PlainSend). m.entries) c.get_mut.follows.holds-at-none in
    rw (sym c.self.view_is) (absent (is_absent c.self.inside c.args.id _ c.in_default.ensures.value same))

pub invariant_of-self-then-is_done : goal.invariant_of-self-then-is_done
invariant_of-self-then-is_done c =
    let same = acked_reset_holds c.in-Some.half.now c.ack_reset.new.self c.ack_reset.ensures in
    let written = (c.get_mut.follows.holds c.ack_reset.new.self).0 in
    left_stepped c.self.inside c.self.invariant c.args.id c.in-Some.half.now c.ack_reset.new.self c.in-Some.ensures.value
    c.remove.new.self.entries c.leave.new.self _ c.in-Some.ensures.ordered
    (rw written at c.remove.ensures.entries)
    c.leave.ensures.waits c.leave.ensures.room
    (sym c.is_done-is_done.ensures ∙ c.if-is_done.true) (omega (arith, same))

pub invariant_of-self-else-is_done : goal.invariant_of-self-else-is_done
invariant_of-self-else-is_done c =
    let undone = sym c.is_done-is_done.ensures ∙ c.if-is_done.false in
    let same = acked_reset_is c.in-Some.half.now c.ack_reset.new.self c.ack_reset.ensures undone in
    rw (same_again c.self.inside c.args.id c.in-Some.half.now c.ack_reset.new.self _ c.in-Some.ensures.value same (c.get_mut.follows.holds c.ack_reset.new.self).0) c.self.invariant

pub returns-then-is_done-clause-settled : goal.returns-then-is_done-clause-settled
returns-then-is_done-clause-settled c =
    let written = (c.get_mut.follows.holds c.ack_reset.new.self).0 in
    rw (c.if-is_done.true, sym c.self.view_is)
    (done (is_last c.self.inside c.self.invariant c.args.id c.in-Some.half.now c.ack_reset.new.self c.in-Some.ensures.value IsResetAcked _ c.in-Some.ensures.ordered
    (rw written at c.remove.ensures.entries) c.ack_reset.ensures (sym c.is_done-is_done.ensures ∙ c.if-is_done.true)))

pub returns-else-is_done-clause-settled : goal.returns-else-is_done-clause-settled
returns-else-is_done-clause-settled c =
    rw (c.if-is_done.false, sym c.self.view_is)
    (on (is_step c.self.inside c.self.invariant c.args.id c.in-Some.half.now c.ack_reset.new.self c.in-Some.ensures.value IsResetAcked _ _ 0
    (c.get_mut.follows.holds c.ack_reset.new.self).0 (omega arith) c.ack_reset.ensures (sym c.is_done-is_done.ensures ∙ c.if-is_done.false)))
