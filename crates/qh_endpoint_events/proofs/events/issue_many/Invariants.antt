use Rattle.std.proofs.Common.{◌≡◌, length}
use Rattle.qh_connections.specs.Ids.{IsSameSource}
use Rattle.qh_endpoint_events.specs.Events.{AreIssued}
use Rattle.qh_endpoint_events.proofs.events.issue_many.Given as goal

abbrev pub invariant-loop : goal.invariant-loop
invariant-loop g l = record {
  issued : AreIssued g.G.ConnectionIdGenerator.given g.G.ConnectionIdGenerator.cid_len g.G.ConnectionIdGenerator.validates l.handle l.ids.items l.fn.connections l.connections;
  source : IsSameSource g.G.ConnectionIdGenerator.cid_len g.G.ConnectionIdGenerator.validates l.fn.connections.ids l.connections.ids;
  size : length l.ids.items ≡ l.counter;
}
