use Rattle.qh_spec.proofs.WholeLaws.{whole_follows, whole_where_one, one_stream, one_whole, same_whole, whole_in_any_order}
use Rattle.qh_spec.proofs.laws.wholes.whole.Goals as goal

pub returns-clause-follows : goal.returns-clause-follows
returns-clause-follows c = whole_follows

pub returns-clause-carried : goal.returns-clause-carried
returns-clause-carried c = whole_where_one

pub returns-clause-one_stream : goal.returns-clause-one_stream
returns-clause-one_stream c = one_stream

pub returns-clause-one : goal.returns-clause-one
returns-clause-one c = one_whole

pub returns-clause-same : goal.returns-clause-same
returns-clause-same c = same_whole

pub returns-clause-any_order : goal.returns-clause-any_order
returns-clause-any_order c = whole_in_any_order
