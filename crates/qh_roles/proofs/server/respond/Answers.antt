use Rattle.std.proofs.lemmas.Result.{err_from_is_err_and}
use Rattle.qh_roles.proofs.HandlerSteps.{none_quiet, acted_quiet, write_gone, write_blocked}
use Rattle.qh_roles.proofs.server.respond.Goals as goal

pub returns-in_err-write-clause-step : goal.returns-in_err-write-clause-step
returns-in_err-write-clause-step g c = λ recorded.
    let failed = err_from_is_err_and c.from_residual.result c.from_residual.ensures.1 in
    rw failed.1 (write_gone c.args.stream.0 _ c.args.outgoing c.write.new.self c.args.connection.now c.write.new.connection c.write.new.connection recorded
    c.in_err-write.ensures.same c.in_err-write.ensures.writes (none_quiet c.args.stream.0 c.write.new.connection))

pub returns-in-Blocked-clause-step : goal.returns-in-Blocked-clause-step
returns-in-Blocked-clause-step g c = λ recorded.
    write_blocked c.args.stream.0 c.args.outgoing c.write.new.self c.args.connection.now c.write.new.connection recorded
    c.in_ok-write.ensures.same (rw c.in-Blocked.is at c.in_ok-write.ensures.writes)

pub returns-in-Finished-clause-step : goal.returns-in-Finished-clause-step
returns-in-Finished-clause-step g c = λ recorded.
    write_gone c.args.stream.0 _ c.args.outgoing c.write.new.self c.args.connection.now c.write.new.connection c.write.new.connection recorded
    c.in_ok-write.ensures.same c.in_ok-write.ensures.writes (none_quiet c.args.stream.0 c.write.new.connection)

pub returns-in-Refused-clause-step : goal.returns-in-Refused-clause-step
returns-in-Refused-clause-step g c = λ recorded.
    write_gone c.args.stream.0 _ c.args.outgoing c.write.new.self c.args.connection.now c.write.new.connection c.give_up.new.connection recorded
    c.in_ok-write.ensures.same c.in_ok-write.ensures.writes (acted_quiet c.args.stream.0 c.write.new.connection c.give_up.new.connection c.give_up.ensures.acted)
