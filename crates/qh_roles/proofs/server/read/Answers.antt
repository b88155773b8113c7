use Rattle.std.proofs.lemmas.Result.{err_from_is_err_and}
use Rattle.qh_roles.proofs.HandlerSteps.{none_quiet, acted_quiet, read_gone, read_blocked, read_served}
use Rattle.qh_roles.proofs.server.read.Goals as goal

pub returns-in_err-read-clause-step : goal.returns-in_err-read-clause-step
returns-in_err-read-clause-step g c =
    let failed = err_from_is_err_and c.from_residual.result c.from_residual.ensures.1 in
    rw failed.1 (read_gone c.args.stream.0 _ c.args.incoming c.read.new.self c.args.connection.now c.read.new.connection c.read.new.connection (g.V.Service.served c.args.service.now)
    c.in_err-read.ensures.same c.in_err-read.ensures.reads (none_quiet c.args.stream.0 c.read.new.connection))

pub returns-in-Blocked-clause-step : goal.returns-in-Blocked-clause-step
returns-in-Blocked-clause-step g c =
    read_blocked c.args.stream.0 c.args.incoming c.read.new.self c.args.connection.now c.read.new.connection (g.V.Service.served c.args.service.now)
    c.in_ok-read.ensures.same (rw c.in-Blocked.is at c.in_ok-read.ensures.reads)

pub returns-in-Ended-clause-step : goal.returns-in-Ended-clause-step
returns-in-Ended-clause-step g c =
    read_served c.args.stream.0 c.args.incoming c.read.new.self c.serve.result c.args.connection.now c.read.new.connection c.serve.new.connection
    (g.V.Service.served c.args.service.now) (g.V.Service.served c.serve.new.service)
    c.in_ok-read.ensures.same (rw c.in-Ended.is at c.in_ok-read.ensures.reads) c.serve.ensures.quiet (rw c.bytes.ensures at c.serve.ensures.served)

pub returns-in-Refused-clause-step : goal.returns-in-Refused-clause-step
returns-in-Refused-clause-step g c =
    read_gone c.args.stream.0 _ c.args.incoming c.read.new.self c.args.connection.now c.read.new.connection c.give_up.new.connection (g.V.Service.served c.args.service.now)
    c.in_ok-read.ensures.same c.in_ok-read.ensures.reads (acted_quiet c.args.stream.0 c.read.new.connection c.give_up.new.connection c.give_up.ensures.acted)
