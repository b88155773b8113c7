use Rattle.std.proofs.Common.{ap}
use Rattle.qh_spec.specs.Script.{empty_script}
use Rattle.qh_script.specs.Outline.{PlainOutline}
use Rattle.qh_script.proofs.Judging.{judged_script, judged_unfit, judged_refused}
use Rattle.qh_script.proofs.Refusals.{refused}
use Rattle.qh_script.proofs.script.outline.fault_of.Goals as goal

pub returns-then-fits_besides : goal.returns-then-fits_besides
returns-then-fits_besides c =
    judged_script c.args.text.now c.take_lines.new.self c.in-Ok.count c.outline.inside.config c.requires
    (c.in-Ok.ensures.taken empty_script c.empty-outline.ensures) (ap (λ (o : PlainOutline). o.config) c.outline.view_is)
    (c.fits_besides.ensures.0 c.if-fits_besides.true)

pub returns-in-Ok : goal.returns-in-Ok
returns-in-Ok c =
    judged_unfit c.args.text.now c.take_lines.new.self c.in-Ok.count c.outline.inside.config c.requires
    (c.in-Ok.ensures.taken empty_script c.empty-outline.ensures) (ap (λ (o : PlainOutline). o.config) c.outline.view_is)
    (λ f. refused (c.fits_besides.ensures.1 f) c.if-fits_besides.false)

pub returns : goal.returns
returns c = judged_refused c.args.text.now c.in-Err.fault c.requires (c.in-Err.ensures.refused empty_script c.empty-outline.ensures)
