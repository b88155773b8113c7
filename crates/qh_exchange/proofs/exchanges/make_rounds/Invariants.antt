use Rattle.std.proofs.Common.{◌≡◌}
use Rattle.qh_roles.specs.Server.{GrewByAnswers}
use Rattle.qh_exchange.proofs.Rounds.{AreMade}
use Rattle.qh_exchange.proofs.exchanges.make_rounds.Given as goal

-- so many turns were made, by the same plan, and each response may be given to its request
abbrev pub invariant-loop-round : goal.invariant-loop-round
invariant-loop-round g l = record {
  made : AreMade l._round l.fn.pair l.pair (g.L.Link.events l.fn.link) (g.L.Link.events l.link) (g.L.Link.moments l.fn.link) (g.L.Link.moments l.link)
      (g.L.Link.faults l.fn.link) (g.L.Link.faults l.link) (g.V.Service.served l.fn.service) (g.V.Service.served l.service);
  plan : g.L.Link.plan l.link ≡ g.L.Link.plan l.fn.link;
  answered : GrewByAnswers (g.V.Service.may_answer l.fn.pair.server.limits) (g.V.Service.served l.fn.service) (g.V.Service.served l.service);
}
