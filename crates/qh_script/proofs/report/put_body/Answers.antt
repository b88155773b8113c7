use Rattle.std.proofs.Common.{◌++◌, append_assoc, length, rules}
use Rattle.std.specs.Prelude.{codes, decimal}
use Rattle.qh_spec.specs.Report.{newline}
use Rattle.qh_script.proofs.Reports.{on_err_grown}
use Rattle.qh_script.proofs.report.put_body.Goals as goal

pub returns-clause-err : goal.returns-clause-err
returns-clause-err c =
    on_err_grown c.put_text-2.result c.args.out.now.items c.extend_from_slice.new.self.items c.put_text-2.new.out.items
    (codes "body " ++ (decimal (length c.args.body.now) ++ (newline ++ c.args.body.now))) (search (rules, append_assoc)) c.put_text-2.ensures.err
