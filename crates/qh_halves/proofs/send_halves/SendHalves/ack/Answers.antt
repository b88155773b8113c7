use Rattle.std.proofs.Common.{ℕ, sym, ap, ◌∙◌, arith}
use Rattle.std.specs.BTreeMap.{BTreeMap}
use Rattle.qh_half.specs.Send.{PlainSend}
use Rattle.qh_halves.specs.SendHalves.{IsAcked}
use Rattle.qh_halves.specs.SendHalves.IsSettledBy.{absent, on, done}
use Rattle.qh_halves.proofs.HalvesStepped.{left_stepped, kept_stepped, is_step, is_last, is_absent, held_within, spans_stay}
use Rattle.qh_halves.proofs.HalfSteps.{acked_holds, acked_goes, acked_waits, acked_spans}
use Rattle.qh_halves.proofs.send_halves.SendHalves.ack.Goals as goal

pub returns-in_default-clause-settled : goal.returns-in_default-clause-settled
returns-in_default-clause-settled c =
    let same = ap (λ (m : BTreeMap ℕ PlainSend). m.entries) c.get_mut.follows.holds-at-none in
    rw (sym c.self.view_is) (absent (is_absent c.self.inside c.args.id _ c.in_default.ensures.value same))

pub overflow_sub-self-2 : goal.overflow_sub-self-2
overflow_sub-self-2 c =
    let within = held_within c.self.inside.halves.entries c.args.id c.in-Some.half.now (sym c.in-Some.ensures.value) in
    omega (arith, within, c.self.invariant.counted, c.held-before.ensures)

pub invariant_of-self-then-is_done : goal.invariant_of-self-then-is_done
invariant_of-self-then-is_done c =
    let within = held_within c.self.inside.halves.entries c.args.id c.in-Some.half.now (sym c.in-Some.ensures.value) in
    let less = acked_holds c.in-Some.half.now c.ack.new.self _ _ _ c.ack.ensures in
    let written = (c.get_mut.follows.holds c.ack.new.self).0 in
    left_stepped c.self.inside c.self.invariant c.args.id c.in-Some.half.now c.ack.new.self c.in-Some.ensures.value
    c.remove.new.self.entries c.leave.new.self _ c.in-Some.ensures.ordered
    (rw written at c.remove.ensures.entries)
    c.leave.ensures.waits c.leave.ensures.room
    (sym c.is_done-is_done.ensures ∙ c.if-is_done.true) (omega (arith, within, less, c.self.invariant.counted, c.held-before.ensures, c.held.ensures))

pub invariant_of-self-else-is_done : goal.invariant_of-self-else-is_done
invariant_of-self-else-is_done c =
    let undone = sym c.is_done-is_done.ensures ∙ c.if-is_done.false in
    let within = held_within c.self.inside.halves.entries c.args.id c.in-Some.half.now (sym c.in-Some.ensures.value) in
    let less = acked_holds c.in-Some.half.now c.ack.new.self _ _ _ c.ack.ensures in
    rw (c.get_mut.follows.holds c.ack.new.self).0
    (kept_stepped c.self.inside c.self.invariant c.args.id c.in-Some.half.now c.ack.new.self c.in-Some.ensures.value _
    (acked_goes c.in-Some.half.now c.ack.new.self _ _ _ c.ack.ensures undone) (acked_waits c.in-Some.half.now c.ack.new.self _ _ _ c.ack.ensures)
    (omega (arith, within, less, c.self.invariant.counted, c.held-before.ensures, c.held.ensures)))

pub returns-then-is_done-clause-settled : goal.returns-then-is_done-clause-settled
returns-then-is_done-clause-settled c =
    let written = (c.get_mut.follows.holds c.ack.new.self).0 in
    rw (c.if-is_done.true, sym c.self.view_is)
    (done (is_last c.self.inside c.self.invariant c.args.id c.in-Some.half.now c.ack.new.self c.in-Some.ensures.value (IsAcked c.args.frame) _ c.in-Some.ensures.ordered
    (rw written at c.remove.ensures.entries) c.ack.ensures (sym c.is_done-is_done.ensures ∙ c.if-is_done.true)))

pub returns-else-is_done-clause-settled : goal.returns-else-is_done-clause-settled
returns-else-is_done-clause-settled c =
    rw (c.if-is_done.false, sym c.self.view_is)
    (on (is_step c.self.inside c.self.invariant c.args.id c.in-Some.half.now c.ack.new.self c.in-Some.ensures.value (IsAcked c.args.frame) _ _ 0
    (c.get_mut.follows.holds c.ack.new.self).0 (omega arith) c.ack.ensures (sym c.is_done-is_done.ensures ∙ c.if-is_done.false)))

pub returns-else-is_done-clause-spans : goal.returns-else-is_done-clause-spans
returns-else-is_done-clause-spans c k frame span =
    rw (c.get_mut.follows.holds c.ack.new.self).0
    (spans_stay c.self.inside c.self.invariant c.args.id c.in-Some.half.now c.ack.new.self c.in-Some.ensures.value
    (acked_spans c.in-Some.half.now c.ack.new.self _ _ _ c.ack.ensures) k frame (rw (sym c.self.view_is) at span))
