use Rattle.std.proofs.Common.{◌++◌, append_assoc, rules}
use Rattle.std.specs.Prelude.{codes}
use Rattle.qh_script.proofs.Reports.{on_err_grown}
use Rattle.qh_script.proofs.report.put_value.Goals as goal

pub returns-clause-err : goal.returns-clause-err
returns-clause-err c =
    on_err_grown c.put_text-5.result c.args.out.now.items c.extend_from_slice.new.self.items c.put_text-5.new.out.items
    (c.args.word.now ++ (codes " " ++ (c.args.name.now ++ (codes " " ++ c.args.value.now)))) (search (rules, append_assoc)) c.put_text-5.ensures.err
