use Rattle.qh_pair.proofs.Bridged.{means, says}
use Rattle.qh_pair.proofs.Greeted.{act_once_greeted, are_greeted}
use Rattle.qh_pair.proofs.Hellos.{set_ids}
use Rattle.qh_pair.proofs.IdleWhole.{set_idle}
use Rattle.qh_pair.proofs.TimedOut.{timed_passed}
use Rattle.qh_pair.proofs.Within.{keeps_within}
use Rattle.qh_pair.proofs.pair.pairs.Goals as goal

pub returns-clause-honest : goal.returns-clause-honest
returns-clause-honest c = means c.greeted_first.ensures c.converses.ensures.order

pub returns-clause-greeted : goal.returns-clause-greeted
returns-clause-greeted c = are_greeted

pub returns-clause-full : goal.returns-clause-full
returns-clause-full c = act_once_greeted

pub returns-clause-within : goal.returns-clause-within
returns-clause-within c = keeps_within

pub returns-clause-said : goal.returns-clause-said
returns-clause-said c = says

pub returns-clause-fitting : goal.returns-clause-fitting
returns-clause-fitting c n config events set = (set_ids n config events set, set_idle n config events set)

pub returns-clause-timed_out : goal.returns-clause-timed_out
returns-clause-timed_out c = timed_passed
