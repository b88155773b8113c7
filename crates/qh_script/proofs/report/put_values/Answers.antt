use Rattle.qh_script.proofs.Reports.{err_grown}
use Rattle.qh_script.proofs.report.put_values.Goals as goal

pub returns-in_err-put_value-clause-err : goal.returns-in_err-put_value-clause-err
returns-in_err-put_value-clause-err c =
    err_grown c.from_residual.result c.args.out.now.items c.loop-value.out.items c.put_value.new.out.items c.loop-value.invariant.grown c.in_err-put_value.ensures.err
