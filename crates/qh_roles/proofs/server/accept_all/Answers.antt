use Rattle.qh_roles.proofs.ServerCares.{accepts_then}
use Rattle.qh_roles.proofs.ServerAccepts.{accepts_more, rest_after}
use Rattle.qh_roles.proofs.server.accept_all.Goals as goal

pub returns-in_err-accept_next-clause-step : goal.returns-in_err-accept_next-clause-step
returns-in_err-accept_next-clause-step g c =
    accepts_more c.args.accepted.now c.loop-stream.accepted c.accept_next.new.accepted c.args.handlers.now.items c.loop-stream.handlers.items c.accept_next.new.handlers.items
    c.args.connection.now c.loop-stream.connection c.accept_next.new.connection c.loop-stream.invariant.step c.in_err-accept_next.ensures.step

pub loop-stream-preserved : goal.loop-stream-preserved
loop-stream-preserved g c = record {
  rest = rest_after c.args.connection.now c.loop-stream.connection c.accept_next.new.connection c.loop-stream.invariant.rest c.in_ok-accept_next.ensures.rest;
  accepts = accepts_then c.args.handlers.now.items c.loop-stream.handlers.items c.accept_next.new.handlers.items c.args.connection.now.space.streams c.loop-stream.connection.space.streams c.accept_next.new.connection.space.streams c.loop-stream.invariant.accepts c.in_ok-accept_next.ensures.accepts;
  step = accepts_more c.args.accepted.now c.loop-stream.accepted c.accept_next.new.accepted c.args.handlers.now.items c.loop-stream.handlers.items c.accept_next.new.handlers.items
      c.args.connection.now c.loop-stream.connection c.accept_next.new.connection c.loop-stream.invariant.step c.in_ok-accept_next.ensures.step;
}

pub returns-then-not-branch-clause-step : goal.returns-then-not-branch-clause-step
returns-then-not-branch-clause-step g c =
    accepts_more c.args.accepted.now c.loop-stream.accepted c.accept_next.new.accepted c.args.handlers.now.items c.loop-stream.handlers.items c.accept_next.new.handlers.items
    c.args.connection.now c.loop-stream.connection c.accept_next.new.connection c.loop-stream.invariant.step c.in_ok-accept_next.ensures.step

pub returns-then-not-branch-clause-accepts : goal.returns-then-not-branch-clause-accepts
returns-then-not-branch-clause-accepts g c =
    accepts_then c.args.handlers.now.items c.loop-stream.handlers.items c.accept_next.new.handlers.items c.args.connection.now.space.streams c.loop-stream.connection.space.streams
    c.accept_next.new.connection.space.streams c.loop-stream.invariant.accepts c.in_ok-accept_next.ensures.accepts
