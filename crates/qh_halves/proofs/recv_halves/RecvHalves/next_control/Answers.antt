use Rattle.std.proofs.Common.{refl, sym, ap, ◌∙◌, arith}
use Rattle.qh_halves.specs.RecvHalves.{PlainRecvHalves, GivesControl}
use Rattle.qh_halves.proofs.RecvSteps.{due_at_control, done_at_control, counted_at_control}
use Rattle.qh_halves.proofs.RecvHalvesStepped.{are_kept, stepped_alone, none_is_due}
use Rattle.qh_halves.proofs.recv_halves.RecvHalves.next_control.Goals as goal

pub invariant_of-self : goal.invariant_of-self
invariant_of-self c =
    let s = c.loop-first.self-inside in
    let w = c.in-Some-control.ensures.some in
    let control = c.in-Some-control.control in
    are_kept _ _ _ _ _ _ c.in-Some.first.id w.half w.next c.loop-first.invariant.0 w.was w.written
    (done_at_control w.half w.next s.stream_window control w.step) (λ _. due_at_control w.half w.next s.stream_window control w.step)

pub returns-in-Some-control-clause-some : goal.returns-in-Some-control-clause-some
returns-in-Some-control-clause-some c =
    let s = c.loop-first.self-inside in
    let ok = c.loop-first.invariant.0 in
    let w = c.in-Some-control.ensures.some in
    let control = c.in-Some-control.control in
    let same = ap (λ (x : PlainRecvHalves). x.credited) (sym c.loop-first.invariant.1 ∙ sym c.self.view_is) in
    rw c.loop-first.invariant.1
    (stepped_alone (GivesControl s.stream_window control) _ _ s.due c.in-Some.first.id (omega arith) w
    (done_at_control w.half w.next s.stream_window control w.step ∙ ok.undone c.in-Some.first.id w.half w.was) (counted_at_control w.half w.next s.stream_window control w.step))

pub returns-clause-none : goal.returns-clause-none
returns-clause-none c = λ _.
    let empty = rw c.in_default.is at c.first.ensures in
    rw c.loop-first.invariant.1 (refl, none_is_due _ _ _ _ _ c.loop-first.invariant.0 empty)
