use Rattle.std.proofs.Common.{◌≡◌}
use Rattle.qh_core.specs.Inner.{with_streams}
use Rattle.qh_roles.specs.Handling.{AcceptStep, Accepts}
use Rattle.qh_roles.proofs.server.accept_all.Given as goal

abbrev pub invariant-loop-stream : goal.invariant-loop-stream
invariant-loop-stream g l = record {
  rest : l.connection ≡ with_streams l.fn.connection l.connection.space.streams;
  accepts : Accepts l.fn.handlers.items l.handlers.items l.fn.connection.space.streams l.connection.space.streams;
  step : l.fn.connection.space.streams.bi.accepted ≡ l.fn.accepted → AcceptStep l.fn.accepted l.accepted l.fn.handlers.items l.handlers.items l.fn.connection l.connection;
}
