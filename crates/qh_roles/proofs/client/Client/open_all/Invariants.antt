use Rattle.std.proofs.Common.{◌≡◌}
use Rattle.qh_roles.specs.ClientSteps.{Goes}
use Rattle.qh_roles.proofs.client.Client.open_all.Given as goal

-- streams were opened, one each time
abbrev pub invariant-loop-request : goal.invariant-loop-request
invariant-loop-request g l = record {
  goes : Goes l.fn.self l.fn.connection l.self l.connection;
  next : l.self.next ≡ l._request;
}
