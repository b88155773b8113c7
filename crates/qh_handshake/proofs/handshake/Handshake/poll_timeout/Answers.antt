use Rattle.qh_handshake.proofs.DueMoments.{first_due, loss_first, probe_only}
use Rattle.qh_handshake.proofs.FirstMoments.{earlier_first}
use Rattle.qh_handshake.proofs.handshake.Handshake.poll_timeout.Goals as goal

pub returns : goal.returns
returns c =
    let self = c.args.self.now in
    let space = c.in-Some.space in
    let first = c.earlier.ensures in
    first_due self space c.in-Some.is c.earlier.result
    (earlier_first _ _ c.loss_at.result c.probe_at.result c.earlier.result (loss_first space c.loss_at.result c.loss_at.ensures.none c.loss_at.ensures.some)
    (probe_only self space c.probe_at.result c.probe_at.ensures) first.none first.one first.first)
