use Rattle.qh_script.proofs.Selects.{no_positive_zero}
use Rattle.qh_script.proofs.line.parts.read_positive.Goals as goal

pub returns-in-Some-eq0 : goal.returns-in-Some-eq0
returns-in-Some-eq0 c = no_positive_zero c.args.text.now c.in-Some-eq0.field-0 c.in-Some-eq0.field-0-test c.in-Some-eq0.ensures.0
