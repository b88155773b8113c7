use Rattle.qh_spec.proofs.RefusalLaws.{refused_one, taken_not_refused, taken_readable, judged, upper_refused}
use Rattle.qh_spec.proofs.laws.refusals.fields.Goals as goal

pub returns-clause-one : goal.returns-clause-one
returns-clause-one c = refused_one

pub returns-clause-not_both : goal.returns-clause-not_both
returns-clause-not_both c = taken_not_refused

pub returns-clause-judged : goal.returns-clause-judged
returns-clause-judged c = judged

pub returns-clause-upper : goal.returns-clause-upper
returns-clause-upper c = upper_refused

pub returns-clause-readable : goal.returns-clause-readable
returns-clause-readable c = taken_readable
