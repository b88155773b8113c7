use Rattle.std.proofs.lemmas.Result.{err_from_is_err_and}
use Rattle.qh_roles.proofs.ServerEntries.{recorded, answering}
use Rattle.qh_roles.proofs.server.answer.Goals as goal

pub returns-in_err-bytes-clause-served : goal.returns-in_err-bytes-clause-served
returns-in_err-bytes-clause-served g c = λ bytes spells.
    let failed = err_from_is_err_and c.from_residual-in_err-bytes.result c.from_residual-in_err-bytes.ensures.1 in
    recorded c.args.stream.0 bytes c.args.request c.in_ok-response.response _ (g.V.Service.served c.args.service.now) (g.V.Service.served c.serve.new.self)
    c.requires.servable.head spells c.in_ok-response.ensures.recorded (rw failed.1 tt)

pub returns-clause-served : goal.returns-clause-served
returns-clause-served g c = λ bytes spells.
    recorded c.args.stream.0 bytes c.args.request c.in_ok-response.response _ (g.V.Service.served c.args.service.now) (g.V.Service.served c.serve.new.self)
    c.requires.servable.head spells c.in_ok-response.ensures.recorded
    (answering c.args.stream.0 c.in_ok-bytes.bytes.items c.args.request c.in_ok-response.response c.new.result c.in_ok-response.ensures.lawful.head c.in_ok-bytes.ensures c.new.ensures)
