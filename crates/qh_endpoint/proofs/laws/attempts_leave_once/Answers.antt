use Rattle.qh_endpoint.proofs.Reaching.{is_gone, is_gone_for_ever, others_wait}
use Rattle.qh_endpoint.proofs.laws.attempts_leave_once.Goals as goal

pub returns-clause-gone : goal.returns-clause-gone
returns-clause-gone g c name attempt old new left = is_gone name attempt old new left

pub returns-clause-never : goal.returns-clause-never
returns-clause-never g c name attempt old new later sound left after = is_gone_for_ever name attempt old new left later sound after

pub returns-clause-others : goal.returns-clause-others
returns-clause-others g c name other attempt old new left apart = others_wait name attempt old new left other apart
