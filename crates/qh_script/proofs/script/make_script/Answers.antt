use Rattle.std.proofs.Common.{ap}
use Rattle.std.proofs.lemmas.Result.{err_from_is_err_and}
use Rattle.qh_spec.specs.Script.{Script}
use Rattle.qh_script.proofs.Taking.{refused_at, unfit_at}
use Rattle.qh_script.proofs.script.make_script.Goals as goal

pub returns-in_err-count-clause-refused : goal.returns-in_err-count-clause-refused
returns-in_err-count-clause-refused c =
    let p = err_from_is_err_and c.from_residual-in_err-count.result c.from_residual-in_err-count.ensures.1 in
    rw (p.1, p.2) (refused_at c.args.text.now c.in_ok-script.script c.in_err-count.field-0.0 c.requires c.in_ok-script.ensures c.in_err-count.ensures.refused)

pub returns-else-fits-clause-refused : goal.returns-else-fits-clause-refused
returns-else-fits-clause-refused c =
    unfit_at c.args.text.now c.in_ok-script.script c.take_lines.new.self c.script.inside.config c.in_ok-count.count c.fits.result
    c.requires c.in_ok-script.ensures c.in_ok-count.ensures.taken c.in_ok-count.ensures.count
    (ap (λ (s : Script). s.config) c.script.view_is) c.fits.ensures c.if-fits.false
