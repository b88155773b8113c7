use Rattle.std.proofs.Common.{None, Some}
use Rattle.std.proofs.lemmas.Result.{err_from_is_err_and}
use Rattle.qh_handshake.specs.Unread.IsHelloUnread.{unanswered}
use Rattle.qh_handshake.proofs.HelloRead.{client_read, name_fits, server_read}
use Rattle.qh_handshake.proofs.handshake.Handshake.read_hello.Goals as goal
use Rattle.qh_handshake.proofs.handshake.Handshake.read_hello.Goals.{in-Client, in-Server+in-Ok}

pub learn-requires : goal.learn-requires
learn-requires g c = name_fits c.args.self.now c.in-Some.hello.server_name.now c.in-Some.hello.parameters (rw c.in-Some.is at c.in_ok-hello.ensures.some)

pub returns-clause-ok : goal.returns-clause-ok
returns-clause-ok g c =
    let read = rw c.in-Some.is at c.in_ok-hello.ensures.some in
    let name = c.in-Some.hello.server_name.now in
    let p = c.in-Some.hello.parameters in
    elim c.match-side.branch [
      | in-Client w ↦ (None, client_read c.args.self.now w.leave.new.self c.match-side.self name p read w.in-Client.is w.self-is w.leave.ensures, w.session-is)
      | in-Server+in-Ok w ↦ (
        Some name,
        server_read c.args.self.now w.answer.new.self c.match-side.self name p w.in-Ok.own read w.in-Server.is w.in-Ok.ensures.hello w.self-is w.answer.ensures,
        rw w.session-is (w.learn.ensures.value, w.learn.ensures.known, w.learn.ensures.key_kept, w.learn.ensures.sealed_kept, w.learn.ensures.accepts_kept),
      )
    ]

pub returns-in_err-hello-clause-wanting : goal.returns-in_err-hello-clause-wanting
returns-in_err-hello-clause-wanting g c =
    let p = err_from_is_err_and c.from_residual.result c.from_residual.ensures.1 in rw (p.1, p.2) c.in_err-hello.ensures.wanting

pub returns-in_default-own_hello-clause-wanting : goal.returns-in_default-own_hello-clause-wanting
returns-in_default-own_hello-clause-wanting g c = λ _.
    unanswered c.in-Some.hello.server_name.now c.in-Some.hello.parameters (rw c.in-Some.is at c.in_ok-hello.ensures.some) c.in-Server.is
