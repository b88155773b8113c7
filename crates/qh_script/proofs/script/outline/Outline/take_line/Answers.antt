use Rattle.qh_script.proofs.Taking.{made_outline}
use Rattle.qh_script.proofs.script.outline.Outline.take_line.Goals as goal

pub returns-in-Some-clause-taken : goal.returns-in-Some-clause-taken
returns-in-Some-clause-taken c = λ yes s h.
    made_outline c.args.text.now c.in-Some.line s c.apply.new.self c.in-Some.ensures (c.apply.ensures.taken yes s h)
