use Rattle.std.proofs.Common.{◌∙◌}
use Rattle.qh_buffers.proofs.AssemblerReads.{at_err}
use Rattle.qh_streams.proofs.ItemLogs.{then_logged, err_some}
use Rattle.qh_streams.proofs.streams.noting.note_limits.Goals as goal

pub returns-in_err-push-3-clause-err : goal.returns-in_err-push-3-clause-err
returns-in_err-push-3-clause-err c =
    at_err c.from_residual-in_err-push-3.result _
    (_, c.in_err-push-3.ensures.err ∙ then_logged c.args.log.now c.push.new.self c.push-2.new.self _ _ c.in_ok-push.ensures.ok c.in_ok-push-2.ensures.ok)

pub returns-clause-err : goal.returns-clause-err
returns-clause-err c =
    err_some c.push-4.result c.args.log.now c.push-3.new.self c.push-4.new.self _
    (then_logged c.args.log.now c.push-2.new.self c.push-3.new.self _ _ (then_logged c.args.log.now c.push.new.self c.push-2.new.self _ _ c.in_ok-push.ensures.ok c.in_ok-push-2.ensures.ok) c.in_ok-push-3.ensures.ok)
    c.push-4.ensures.err
