use Rattle.std.proofs.Common.{ap, arith, set, length-set}
use Rattle.qh_base.specs.declared.stream_id.StreamId.{StreamId}
use Rattle.qh_roles.proofs.ServerCares.{polled_twice, polls_same}
use Rattle.qh_roles.proofs.ServerEntries.{none_answered}
use Rattle.qh_roles.proofs.ServerSteps.{handlers_more, no_handlers}
use Rattle.qh_roles.proofs.server.poll_all.Goals as goal

pub returns-in_err-read_on-clause-step : goal.returns-in_err-read_on-clause-step
returns-in_err-read_on-clause-step g c = λ accepted.
    handlers_more (g.V.Service.may_answer c.args.limits.now) c.args.limits.now accepted c.args.handlers.now c.loop-at.handlers c.loop-at.at c.index-handlers-at.result c.read_on.new.handler
    c.args.connection.now c.loop-at.connection c.read_on.new.connection (g.V.Service.served c.args.service.now) (g.V.Service.served c.loop-at.service) (g.V.Service.served c.read_on.new.service)
    (c.loop-at.invariant.step accepted) (omega arith) (ap (λ (s : StreamId). s.0) c.in_err-read_on.ensures.same)
    c.in_err-read_on.ensures.stirred c.in_err-read_on.ensures.step c.in_err-read_on.ensures.answered

pub returns-in_err-respond_on-clause-step : goal.returns-in_err-respond_on-clause-step
returns-in_err-respond_on-clause-step g c = λ accepted.
    handlers_more (g.V.Service.may_answer c.args.limits.now) c.args.limits.now accepted c.args.handlers.now (set c.loop-at.handlers c.loop-at.at c.read_on.new.handler) c.loop-at.at c.index-handlers-at-in-loop-at.result c.respond_on.new.handler
    c.args.connection.now c.read_on.new.connection c.respond_on.new.connection (g.V.Service.served c.args.service.now) (g.V.Service.served c.read_on.new.service) (g.V.Service.served c.read_on.new.service)
    (handlers_more (g.V.Service.may_answer c.args.limits.now) c.args.limits.now accepted c.args.handlers.now c.loop-at.handlers c.loop-at.at c.index-handlers-at.result c.read_on.new.handler
    c.args.connection.now c.loop-at.connection c.read_on.new.connection (g.V.Service.served c.args.service.now) (g.V.Service.served c.loop-at.service) (g.V.Service.served c.read_on.new.service)
    (c.loop-at.invariant.step accepted) (omega arith) (ap (λ (s : StreamId). s.0) c.in_ok-read_on.ensures.same)
    c.in_ok-read_on.ensures.stirred c.in_ok-read_on.ensures.step c.in_ok-read_on.ensures.answered)
    (let size = length-set c.loop-at.handlers c.loop-at.at c.read_on.new.handler in omega (arith, size)) (ap (λ (s : StreamId). s.0) c.in_err-respond_on.ensures.same)
    c.in_err-respond_on.ensures.stirred (c.in_err-respond_on.ensures.step (g.V.Service.served c.read_on.new.service)) (none_answered (g.V.Service.may_answer c.args.limits.now) (g.V.Service.served c.read_on.new.service))

pub loop-at-preserved : goal.loop-at-preserved
loop-at-preserved g c = record {
  polls = polled_twice c.args.handlers.now c.loop-at.handlers c.loop-at.at c.index-handlers-at.result c.read_on.new.handler c.index-handlers-at-in-loop-at.result c.respond_on.new.handler
      c.args.connection.now.space.streams c.loop-at.connection.space.streams c.read_on.new.connection.space.streams c.respond_on.new.connection.space.streams c.loop-at.invariant.polls (omega arith)
      (ap (λ (s : StreamId). s.0) c.in_ok-read_on.ensures.same) c.in_ok-read_on.ensures.none_arrived c.in_ok-read_on.ensures.over c.in_ok-read_on.ensures.settled
      (ap (λ (s : StreamId). s.0) c.in_ok-respond_on.ensures.same) c.in_ok-respond_on.ensures.none_arrived c.in_ok-respond_on.ensures.over c.in_ok-respond_on.ensures.settled;
  step = λ accepted.
      handlers_more (g.V.Service.may_answer c.args.limits.now) c.args.limits.now accepted c.args.handlers.now (set c.loop-at.handlers c.loop-at.at c.read_on.new.handler) c.loop-at.at c.index-handlers-at-in-loop-at.result c.respond_on.new.handler
      c.args.connection.now c.read_on.new.connection c.respond_on.new.connection (g.V.Service.served c.args.service.now) (g.V.Service.served c.read_on.new.service) (g.V.Service.served c.read_on.new.service)
      (handlers_more (g.V.Service.may_answer c.args.limits.now) c.args.limits.now accepted c.args.handlers.now c.loop-at.handlers c.loop-at.at c.index-handlers-at.result c.read_on.new.handler
      c.args.connection.now c.loop-at.connection c.read_on.new.connection (g.V.Service.served c.args.service.now) (g.V.Service.served c.loop-at.service) (g.V.Service.served c.read_on.new.service)
      (c.loop-at.invariant.step accepted) (omega arith) (ap (λ (s : StreamId). s.0) c.in_ok-read_on.ensures.same)
      c.in_ok-read_on.ensures.stirred c.in_ok-read_on.ensures.step c.in_ok-read_on.ensures.answered)
      (let size = length-set c.loop-at.handlers c.loop-at.at c.read_on.new.handler in omega (arith, size)) (ap (λ (s : StreamId). s.0) c.in_ok-respond_on.ensures.same)
      c.in_ok-respond_on.ensures.stirred (c.in_ok-respond_on.ensures.step (g.V.Service.served c.read_on.new.service)) (none_answered (g.V.Service.may_answer c.args.limits.now) (g.V.Service.served c.read_on.new.service));
}

pub loop-at-init : goal.loop-at-init
loop-at-init g c = record {
  polls = polls_same c.args.handlers.now c.args.connection.now.space.streams;
  step = λ accepted. no_handlers (g.V.Service.may_answer c.args.limits.now) c.args.limits.now accepted c.args.handlers.now c.args.connection.now (g.V.Service.served c.args.service.now);
}
