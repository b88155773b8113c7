use Rattle.qh_spec.proofs.OwedLaws.{owed_accepted, owed_sent, owed_later, reset_not_owed, end_owed_accepted, end_owed_sent, reset_end_not_owed}
use Rattle.qh_spec.proofs.laws.owing.owed.Goals as goal

pub returns-clause-accepted : goal.returns-clause-accepted
returns-clause-accepted c = owed_accepted

pub returns-clause-sent : goal.returns-clause-sent
returns-clause-sent c = owed_sent

pub returns-clause-later : goal.returns-clause-later
returns-clause-later c = owed_later

pub returns-clause-reset : goal.returns-clause-reset
returns-clause-reset c = reset_not_owed

pub returns-clause-end_accepted : goal.returns-clause-end_accepted
returns-clause-end_accepted c = end_owed_accepted

pub returns-clause-end_sent : goal.returns-clause-end_sent
returns-clause-end_sent c = end_owed_sent

pub returns-clause-end_reset : goal.returns-clause-end_reset
returns-clause-end_reset c = reset_end_not_owed
