use Rattle.qh_spec.proofs.AnnouncedLaws.{announced_one, announced_more, permitted_within, permits, permitted_more}
use Rattle.qh_spec.proofs.laws.greetings.announced.Goals as goal

pub returns-clause-one : goal.returns-clause-one
returns-clause-one c = announced_one

pub returns-clause-more : goal.returns-clause-more
returns-clause-more c = announced_more

pub returns-clause-permitted : goal.returns-clause-permitted
returns-clause-permitted c = permitted_within

pub returns-clause-permits : goal.returns-clause-permits
returns-clause-permits c = permits

pub returns-clause-permitted_more : goal.returns-clause-permitted_more
returns-clause-permitted_more c = permitted_more
