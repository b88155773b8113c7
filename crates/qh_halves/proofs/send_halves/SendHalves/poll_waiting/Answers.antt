use Rattle.std.proofs.Common.{refl}
use Rattle.qh_buffers.proofs.AssemblerReads.{at_err}
use Rattle.qh_halves.proofs.FirstWaiting.{sent_next, one_waits}
use Rattle.qh_halves.proofs.send_halves.SendHalves.poll_waiting.Goals as goal

pub returns-in_default-clause-none : goal.returns-in_default-clause-none
returns-in_default-clause-none c = λ e. (c.in_default.ensures.same, c.in_default.ensures.none refl)

pub returns-in-Some-2-clause-some : goal.returns-in-Some-2-clause-some
returns-in-Some-2-clause-some c =
    sent_next c.args.self.now c.transmit.new.self c.args.max_len c.in-Some.id c.in-Some-2.transmission c.in-Some.ensures.some
    (rw (c.in-Some-2.is, c.in-Some.ensures.same) at c.in_ok-transmission.ensures.some)

pub returns-in_err-transmission-clause-waits : goal.returns-in_err-transmission-clause-waits
returns-in_err-transmission-clause-waits c = at_err c.from_residual.result _ (one_waits c.args.self.now c.in-Some.id c.in-Some.ensures.some)
