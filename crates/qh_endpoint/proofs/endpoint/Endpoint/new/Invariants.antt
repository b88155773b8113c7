use Rattle.std.proofs.Common.{◌≡◌, map, take}
use Rattle.qh_endpoint.proofs.endpoint.Endpoint.new.Given as goal
use Rattle.qh_packet.specs.Version.{number_of}

abbrev pub invariant-loop-version : goal.invariant-loop-version
invariant-loop-version g l = l.versions.items ≡ map number_of (take l.version-index l.version-items)
