use Rattle.qh_arrival.proofs.AcceptedOnce.{accepted_once}
use Rattle.qh_arrival.proofs.HeardCalls.{fresh_heard, limits_heard, made_heard, packets_heard}
use Rattle.qh_arrival.proofs.hearing.heard.Goals as goal

pub returns-clause-fresh : goal.returns-clause-fresh
returns-clause-fresh g c = fresh_heard

pub returns-clause-made : goal.returns-clause-made
returns-clause-made g c = made_heard

pub returns-clause-limits : goal.returns-clause-limits
returns-clause-limits g c = limits_heard

pub returns-clause-packets : goal.returns-clause-packets
returns-clause-packets g c = packets_heard

pub returns-clause-once : goal.returns-clause-once
returns-clause-once g c = accepted_once
