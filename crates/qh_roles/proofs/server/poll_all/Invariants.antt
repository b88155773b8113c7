use Rattle.std.proofs.Common.{ℕ}
use Rattle.qh_roles.specs.Handling.{HandlersStep, Polls}
use Rattle.qh_roles.proofs.server.poll_all.Given as goal

abbrev pub invariant-loop-at : goal.invariant-loop-at
invariant-loop-at g l = record {
  polls : Polls l.fn.handlers l.handlers l.fn.connection.space.streams l.connection.space.streams;
  step : (accepted : ℕ) → HandlersStep (g.V.Service.may_answer l.limits) l.limits accepted l.fn.handlers l.handlers l.fn.connection l.connection
      (g.V.Service.served l.fn.service) (g.V.Service.served l.service);
}
