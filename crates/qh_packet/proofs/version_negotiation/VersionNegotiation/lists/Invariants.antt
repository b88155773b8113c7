use Rattle.std.proofs.Common.{length}
use Rattle.qh_packet.proofs.Versions.{SameSearch}
use Rattle.qh_packet.proofs.version_negotiation.VersionNegotiation.lists.Given as goal

abbrev pub invariant-loop-first : goal.invariant-loop-first
invariant-loop-first l = SameSearch l.version l.rest l.self.listed.now

abbrev pub decreases-loop-first : goal.decreases-loop-first
decreases-loop-first l = length l.rest
