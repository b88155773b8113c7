use Rattle.qh_spec.proofs.ScriptLaws.{script_one, refused_one, not_both, judged}
use Rattle.qh_spec.proofs.laws.scripts.texts.Goals as goal

pub returns-clause-one : goal.returns-clause-one
returns-clause-one c = script_one

pub returns-clause-one_refusal : goal.returns-clause-one_refusal
returns-clause-one_refusal c = refused_one

pub returns-clause-either : goal.returns-clause-either
returns-clause-either c = not_both

pub returns-clause-judged : goal.returns-clause-judged
returns-clause-judged c = judged
