use Rattle.std.proofs.Common.{ap}
use Rattle.qh_recovery.specs.PendingAcks.{PlainPendingAcks}
use Rattle.qh_core.proofs.LimitsRise.{limits_rise}
use Rattle.qh_core.proofs.NothingSent.{nothing_sent}
use Rattle.qh_core.proofs.PacketsAccepted.{packet_accepted}
use Rattle.qh_core.proofs.PacketsMade.{datagram_made}
use Rattle.qh_core.proofs.PacketsOut.{fewer_progress, fresh_progress, same_fewer, timed_out}
use Rattle.qh_core.proofs.laws.progress.Goals as goal

pub returns-clause-accepted : goal.returns-clause-accepted
returns-clause-accepted g c = packet_accepted

pub returns-clause-made : goal.returns-clause-made
returns-clause-made g c = datagram_made

pub returns-clause-none : goal.returns-clause-none
returns-clause-none g c = nothing_sent

pub returns-clause-timeout : goal.returns-clause-timeout
returns-clause-timeout g c = timed_out

pub returns-clause-rises : goal.returns-clause-rises
returns-clause-rises g c = limits_rise

pub returns-clause-fresh : goal.returns-clause-fresh
returns-clause-fresh g c = λ c space. fresh_progress c space.sent space.next (ap (λ (a : PlainPendingAcks). a.ranges) space.acks)

pub returns-clause-others : goal.returns-clause-others
returns-clause-others g c = λ old new sent accepted same_sent next acks. fewer_progress old new sent accepted (same_fewer old.space new.space next acks same_sent)
