use Rattle.std.proofs.Common.{Some, sym, ap, ◌∙◌, arith}
use Rattle.std.proofs.lemmas.Bool.{eqb-true}
use Rattle.qh_control.specs.Queue.{PlainQueue}
use Rattle.qh_control.proofs.Acked.{empty_list, no_range_yet, none_left, one_more_range, ranges_at_end}
use Rattle.qh_control.proofs.Kept.{stay_acknowledged}
use Rattle.qh_control.proofs.queue.ControlQueue.on_ack.Goals as goal

pub returns-then-is_empty-clause-left : goal.returns-then-is_empty-clause-left
returns-then-is_empty-clause-left c =
    let empty = eqb-true _ _ (sym c.is_empty.ensures ∙ c.if-is_empty.true) in
    none_left c.args.ack.now c.args.self.now (sym (ap (λ (q : PlainQueue). q.sent) c.self.view_is) ∙ empty_list c.self.inside.sent.items (omega (arith, empty, c.self.inside.sent.ok.0)))

pub loop-rest-init : goal.loop-rest-init
loop-rest-init c =
    one_more_range c.args.ack.now (Some c.args.ack.now) c.split-rest.result.1 c.split-rest.result.0.least c.split-rest.result.0.greatest c.args.self.now c.args.self.now c.take_range.new.self
    (no_range_yet c.args.ack.now c.args.self.now) c.split-rest.ensures.covers c.take_range.ensures

pub loop-rest-preserved : goal.loop-rest-preserved
loop-rest-preserved c =
    one_more_range c.args.ack.now (Some c.in-Some.ranges) c.split-below.result.1 c.split-below.result.0.least c.split-below.result.0.greatest c.args.self.now c.loop-rest.self c.take_range-in-Some.new.self
    (rw c.in-Some.is at c.loop-rest.invariant) c.split-below.ensures.covers c.take_range-in-Some.ensures

pub returns-clause-left : goal.returns-clause-left
returns-clause-left c = ranges_at_end c.args.ack.now c.args.self.now c.loop-rest.self (rw c.in_default.is at c.loop-rest.invariant)

pub returns-clause-sendable : goal.returns-clause-sendable
returns-clause-sendable c = stay_acknowledged c.args.ack.now c.args.self.now c.loop-rest.self (ranges_at_end c.args.ack.now c.args.self.now c.loop-rest.self (rw c.in_default.is at c.loop-rest.invariant))
