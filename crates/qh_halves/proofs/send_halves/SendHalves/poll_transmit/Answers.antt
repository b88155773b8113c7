use Rattle.std.proofs.Common.{refl, ap}
use Rattle.qh_halves.specs.SendHalves.{PlainSendHalves}
use Rattle.qh_halves.proofs.FirstWaiting.{none_waits, gave_next}
use Rattle.qh_halves.proofs.send_halves.SendHalves.poll_transmit.Goals as goal

pub returns-in-Ok-Some-clause-some : goal.returns-in-Ok-Some-clause-some
returns-in-Ok-Some-clause-some c =
    let s = c.self.inside in
    let same = ap (λ (v : PlainSendHalves). v.halves) c.self.view_is in
    gave_next c.args.self.now s.pending s.max_data s.data_sent s.unacked_data (rw same at c.self.invariant) c.in-Some.first c.in-Some.ensures
    c.transmit.new.self c.args.max_len c.in-Ok-Some.transmission (rw (c.in-Ok-Some.is, c.in-Ok-Some.field-0-is) at c.transmit.ensures.some)

pub returns-in_default-clause-none : goal.returns-in_default-clause-none
returns-in_default-clause-none c =
    let s = c.self.inside in
    let same = ap (λ (v : PlainSendHalves). v.halves) c.self.view_is in
    λ e. (refl, none_waits c.args.self.now s.pending s.max_data s.data_sent s.unacked_data (rw same at c.self.invariant) c.in_default.ensures)

pub returns-in-Ok-None-clause-none : goal.returns-in-Ok-None-clause-none
returns-in-Ok-None-clause-none c = rw ((rw (c.in-Ok-None.is, c.in-Ok-None.field-0-is) at c.transmit.ensures.none) refl).0 at c.poll_waiting.ensures.none

pub returns-in-Ok-None-clause-waits : goal.returns-in-Ok-None-clause-waits
returns-in-Ok-None-clause-waits c = rw ((rw (c.in-Ok-None.is, c.in-Ok-None.field-0-is) at c.transmit.ensures.none) refl).0 at c.poll_waiting.ensures.waits

pub returns-in-Err-clause-none : goal.returns-in-Err-clause-none
returns-in-Err-clause-none c = rw (rw c.in-Err.is at c.transmit.ensures.err) at c.poll_waiting-in-Err.ensures.none

pub returns-in-Err-clause-waits : goal.returns-in-Err-clause-waits
returns-in-Err-clause-waits c = rw (rw c.in-Err.is at c.transmit.ensures.err) at c.poll_waiting-in-Err.ensures.waits
