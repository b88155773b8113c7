use Rattle.std.proofs.Common.{◌≡◌, ◌++◌, take, length}
use Rattle.qh_packet.specs.VersionNegotiation.{version_bytes}
use Rattle.qh_stateless.proofs.negotiation.put_listed.Given as goal

abbrev pub invariant-loop-version : goal.invariant-loop-version
invariant-loop-version l =
    (l.out.items ≡ l.initial.out.items ++ version_bytes (take l.version-index l.versions)) × (l.start ≡ length l.initial.out.items)
