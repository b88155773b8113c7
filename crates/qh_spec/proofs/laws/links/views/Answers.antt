use Rattle.qh_spec.proofs.EventLaws.{sent_by-append, given_to-append, moments_of-append}
use Rattle.qh_spec.proofs.laws.links.views.Goals as goal

pub returns-clause-sent : goal.returns-clause-sent
returns-clause-sent c = sent_by-append

pub returns-clause-given : goal.returns-clause-given
returns-clause-given c = given_to-append

pub returns-clause-moments : goal.returns-clause-moments
returns-clause-moments c = moments_of-append
