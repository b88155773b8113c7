use Rattle.std.proofs.Common.{◌-◌, sym, ap, ◌∙◌, arith}
use Rattle.qh_halves.specs.SendHalves.{PlainSendHalves}
use Rattle.qh_halves.proofs.HalvesInserted.{inserted_removed}
use Rattle.qh_halves.proofs.HalvesWithdrawn.{withdrawn, unacked_removed}
use Rattle.qh_halves.proofs.send_halves.SendHalves.withdraw.Goals as goal

pub returns-in_default-clause-entries : goal.returns-in_default-clause-entries
returns-in_default-clause-entries c = λ before h none sorted is.
    let was = ap (λ (v : PlainSendHalves). v.halves) c.self.view_is ∙ is in
    rw was at c.remove.ensures.entries ∙ inserted_removed before c.args.id h none

pub overflow_sub-self : goal.overflow_sub-self
overflow_sub-self c =
    let s = c.self.inside in
    omega (arith, unacked_removed s.halves.entries c.args.id c.in-Some.half (sym c.in-Some.ensures.value), c.self.invariant.counted, c.held.ensures)

pub invariant_of-self-2 : goal.invariant_of-self-2
invariant_of-self-2 c =
    let s = c.self.inside in
    let was = sym c.in-Some.ensures.value in
    let within = unacked_removed s.halves.entries c.args.id c.in-Some.half was in
    withdrawn s.halves.entries c.remove.new.self.entries s.pending c.leave.new.self s.max_data s.data_sent s.unacked_data c.self.invariant c.args.id c.in-Some.half was
    (λ k. c.in-Some.ensures.updates.0 k) c.leave.ensures.waits c.leave.ensures.room (s.unacked_data - c.held.result)
    c.in-Some.ensures.entries (omega (arith, within, c.self.invariant.counted, c.held.ensures))

pub returns-clause-entries : goal.returns-clause-entries
returns-clause-entries c = λ before h none sorted is.
    let was = ap (λ (v : PlainSendHalves). v.halves) c.self.view_is ∙ is in
    rw was at c.remove.ensures.entries ∙ inserted_removed before c.args.id h none
