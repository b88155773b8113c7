use Rattle.std.proofs.Common.{refl}
use Rattle.qh_endpoint.specs.Stranger.{zero_rtt, long}
use Rattle.qh_endpoint.proofs.endpoint.Endpoint.judge.Goals as goal

pub returns-in-ZeroRtt-clause-judged : goal.returns-in-ZeroRtt-clause-judged
returns-in-ZeroRtt-clause-judged g c = rw c.in-ZeroRtt.is (zero_rtt c.in-ZeroRtt.version c.in-ZeroRtt.destination.now c.in-ZeroRtt.source.now refl)

pub returns-in-Long-clause-judged : goal.returns-in-Long-clause-judged
returns-in-Long-clause-judged g c = rw c.in-Long.is (long c.in-Long.version c.in-Long.destination.now c.in-Long.source.now refl)
