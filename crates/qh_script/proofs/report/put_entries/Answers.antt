use Rattle.std.proofs.Common.{take, flat_map}
use Rattle.qh_spec.specs.Report.{entry_block}
use Rattle.qh_script.proofs.Reports.{err_grown_by}
use Rattle.qh_script.proofs.report.put_entries.Goals as goal

pub returns-in_err-put_entry-clause-err : goal.returns-in_err-put_entry-clause-err
returns-in_err-put_entry-clause-err c =
    err_grown_by c.from_residual.result c.args.out.now.items c.loop-entry.out.items c.put_entry.new.out.items
    (flat_map entry_block (take c.loop-entry.entry-index c.args.entries.now)) c.loop-entry.invariant c.in_err-put_entry.ensures.err
