use Rattle.std.proofs.Common.{sym, ap, ◌∙◌}
use Rattle.qh_half.specs.Recv.{PlainRecv, is_limit_due}
use Rattle.qh_halves.proofs.RecvSteps.{nothing_due}
use Rattle.qh_halves.proofs.MapWritten.{same_written}
use Rattle.qh_halves.proofs.recv_halves.control.Goals as goal

pub returns-in_err-limit-clause-none : goal.returns-in_err-limit-clause-none
returns-in_err-limit-clause-none c = λ _.
    let half = c.in_ok-half.ensures in
    let written = c.get_mut.follows.holds c.max_stream_data.new.self in
    let stop = c.take_stop_frame.ensures.none c.in_default.is in
    let limit = c.max_stream_data.ensures.none c.in_err-limit.was in
    let no_limit = ap (λ (r : PlainRecv). is_limit_due r c.args.window) (sym stop.1) ∙ limit.0 in
    (same_written _ c.args.id _ _ (sym half.value) _ written.0 (limit.1 ∙ stop.1), rw (sym half.value) (nothing_due c.in_ok-half.half.now c.args.window stop.0 no_limit))
