use Rattle.std.proofs.Common.{◌≡◌, ◌+◌, ◌≤◌, true, is_some, Some}
use Rattle.qh_connections.specs.Connections.{meta_at}
use Rattle.qh_routes.specs.ConnectionMeta.{PlainMeta}
use Rattle.qh_endpoint_events.proofs.TakingBack.{AreTaken}
use Rattle.qh_endpoint_events.proofs.events.take_back.Given as goal

abbrev pub invariant-loop : goal.invariant-loop
invariant-loop g l = record {
  live : is_some (meta_at l.connections l.handle) ≡ true;
  some : (m : PlainMeta) → meta_at l.connections l.handle ≡ Some m → l.count ≤ m.cids_issued + l.counter;
  taken : AreTaken g.G.ConnectionIdGenerator.given g.G.ConnectionIdGenerator.cid_len g.G.ConnectionIdGenerator.validates l.handle l.fn.connections l.connections l.count l.counter;
  ids : l.connections.ids ≡ l.fn.connections.ids;
}
