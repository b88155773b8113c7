use Rattle.std.proofs.Common.{[], Ok, ap, refl, subst, sym, arith}
use Rattle.std.proofs.lemmas.Result.{err_from_is_err_and}
use Rattle.qh_handles.specs.Turns.{AreSent}
use Rattle.qh_quinn.proofs.Counting.{counted_none, counted_socket, counted_then}
use Rattle.qh_quinn.proofs.InOrder.{never_ok, one_out, ready_socket}
use Rattle.qh_quinn.proofs.SendingOn.{filled_by, handed_over, sending_anyway, sending_then, sent_none, sent_same}
use Rattle.qh_quinn.specs.Turning.{IsFilled, ended_by}
use Rattle.qh_runtime.specs.Socket.{is_failure}
use Rattle.qh_quinn.proofs.inner.StateInner.transmit_one.Goals as goal
use Rattle.qh_quinn.proofs.inner.StateInner.transmit_one.Goals.{then-not-branch-via-then-not-branch, then-not-branch-via-else-not-branch+in_ok-is_writable+then-not-branch-2}

pub returns-in_err-make_datagram-clause-sending : goal.returns-in_err-make_datagram-clause-sending
returns-in_err-make_datagram-clause-sending g c =
    let p = err_from_is_err_and c.from_residual.result c.from_residual.ensures.1 in
    rw (p.1, p.2) ([], c.in_err-make_datagram.ensures.sending.0, sent_none (g.X.AsyncUdpSocket.departed c.args.socket.now), omega arith, λ ready is. cc, λ is. cc, λ isnt. absurd (isnt refl))

pub returns-in_err-make_datagram-clause-counted : goal.returns-in_err-make_datagram-clause-counted
returns-in_err-make_datagram-clause-counted g c =
    let p = err_from_is_err_and c.from_residual.result c.from_residual.ensures.1 in
    rw (p.1, p.2) (counted_none g.X.Poller.UdpPoller.faults (g.X.AsyncUdpSocket.faults c.args.socket.now) c.args.part.now.made c.args.part.now.poller)

pub returns-in_err-is_writable-clause-sending : goal.returns-in_err-is_writable-clause-sending
returns-in_err-is_writable-clause-sending g c =
    let r = c.from_residual-in_err-is_writable.result in
    let s = c.args.self.now in
    let mid = c.make_datagram.new.self in
    let x = c.in_ok-make_datagram.ensures.sending in
    let h = sending_anyway g.S.Session.accepts g.S.Session.sealed (ended_by r) s mid [] x.0 in (
      [],
      h.0,
      sent_same (g.X.AsyncUdpSocket.departed c.args.socket.now) (g.X.AsyncUdpSocket.departed c.is_writable.new.socket) c.is_writable.ensures.departed,
      omega arith,
      λ ready is. never_ok _ r c.from_residual-in_err-is_writable.ensures.1 is,
      λ is. never_ok _ r c.from_residual-in_err-is_writable.ensures.1 is,
      λ isnt. subst (λ ms. IsFilled g.S.Session.sealed c.args.now ms s.connection mid.connection) (sym h.1) x.2,
    )

pub returns-then-not-branch-clause-sending : goal.returns-then-not-branch-clause-sending
returns-then-not-branch-clause-sending g c =
    let departed = g.X.AsyncUdpSocket.departed in
    let x = c.in_ok-make_datagram.ensures.sending in
    elim c.then-not-branch.branch [
      | then-not-branch-via-then-not-branch w ↦ rw w.socket-is ([], x.0, sent_none (departed c.args.socket.now), omega arith, λ ready is. cc, λ is. cc, λ isnt. x.2)
      | then-not-branch-via-else-not-branch+in_ok-is_writable+then-not-branch-2 w ↦
          rw w.socket-is ([], x.0, sent_same (departed c.args.socket.now) (departed w.is_writable.new.socket) w.in_ok-is_writable.ensures.departed, omega arith, λ ready is. cc, λ is. cc, λ isnt. x.2)
    ]

pub returns-then-not-branch-clause-counted : goal.returns-then-not-branch-clause-counted
returns-then-not-branch-clause-counted g c =
    elim c.then-not-branch.branch [
      | then-not-branch-via-then-not-branch w ↦ rw (w.socket-is, w.part-is) (counted_none g.X.Poller.UdpPoller.faults (g.X.AsyncUdpSocket.faults c.args.socket.now) c.args.part.now.made c.args.part.now.poller)
      | then-not-branch-via-else-not-branch+in_ok-is_writable+then-not-branch-2 w ↦ rw (w.socket-is, w.part-is) w.in_ok-is_writable.ensures.counted
    ]

pub returns-then-not-branch-clause-sent : goal.returns-then-not-branch-clause-sent
returns-then-not-branch-clause-sent g c =
    λ ready is.
    elim c.then-not-branch.branch [
      | then-not-branch-via-then-not-branch w ↦ c.in_ok-make_datagram.ensures.none (ap Ok w.if-not-branch.true)
      | then-not-branch-via-else-not-branch+in_ok-is_writable+then-not-branch-2 w ↦ absurd ((w.in_ok-is_writable.ensures.ready ready).1 (ap Ok w.if-not-branch-2.true))
    ]

pub returns-in_err-send-clause-sending : goal.returns-in_err-send-clause-sending
returns-in_err-send-clause-sending g c =
    let accepts = g.S.Session.accepts in
    let sealed = g.S.Session.sealed in
    let now = c.args.now in
    let r = c.from_residual-in_err-send.result in
    let answer = ended_by r in
    let mid = c.make_datagram.new.self in
    let new = c.send.new.self in
    let s = c.send.ensures.sent in
    let x = c.in_ok-make_datagram.ensures.sending in
    let y = handed_over accepts sealed answer mid new s.0 c.events_bring.ensures.none x.0.whole c.send.ensures.rest s.2 now in
    let h = sending_then c.events_bring.ensures.both accepts sealed answer c.args.self.now mid new [] s.0 x.0 y.0 c.requires.shown now (x.1 (ap Ok c.if-not-branch.false)) in (
      s.0,
      h.0,
      subst (λ d. AreSent s.0 d (g.X.AsyncUdpSocket.departed c.send.new.socket)) c.is_writable.ensures.departed s.1,
      s.3,
      λ ready is. never_ok _ r c.from_residual-in_err-send.ensures.1 is,
      λ is. never_ok _ r c.from_residual-in_err-send.ensures.1 is,
      λ isnt. h.2 (filled_by sealed now y.0.made mid.connection new.connection y.1),
    )

pub returns-in_err-send-clause-counted : goal.returns-in_err-send-clause-counted
returns-in_err-send-clause-counted g c =
    let p = err_from_is_err_and c.from_residual-in_err-send.result c.from_residual-in_err-send.ensures.1 in
    let faults = g.X.Poller.UdpPoller.faults in
    let failed = is_failure c.in_err-send.field-0.0 in
    let n0 = g.X.AsyncUdpSocket.faults c.args.socket.now in
    let n1 = g.X.AsyncUdpSocket.faults c.is_writable.new.socket in
    let n2 = g.X.AsyncUdpSocket.faults c.send.new.socket in
    let m1 = c.is_writable.new.part.made in
    let p1 = c.is_writable.new.part.poller in
    rw (p.1, p.2) (counted_then faults failed n0 n1 n2 c.args.part.now.made m1 m1 c.args.part.now.poller p1 p1 c.in_ok-is_writable.ensures.counted (counted_socket faults failed n1 n2 m1 p1 c.in_err-send.ensures.cause))

pub returns-clause-sending : goal.returns-clause-sending
returns-clause-sending g c =
    let accepts = g.S.Session.accepts in
    let sealed = g.S.Session.sealed in
    let now = c.args.now in
    let mid = c.make_datagram.new.self in
    let new = c.send.new.self in
    let s = c.in_ok-send.ensures.sent in
    let x = c.in_ok-make_datagram.ensures.sending in
    let y = handed_over accepts sealed (Ok tt) mid new s.0 c.events_bring.ensures.none x.0.whole c.send.ensures.rest s.2 now in
    let h = sending_then c.events_bring.ensures.both accepts sealed (Ok tt) c.args.self.now mid new [] s.0 x.0 y.0 c.requires.shown now (x.1 (ap Ok c.if-not-branch.false)) in (
      s.0,
      h.0,
      subst (λ d. AreSent s.0 d (g.X.AsyncUdpSocket.departed c.send.new.socket)) c.is_writable.ensures.departed s.1,
      s.3,
      λ ready is.
          one_out mid.outgoing c.send.new.self.outgoing mid.send_buffer.items c.send.new.self.send_buffer.items s.0 s.2 (c.in_ok-make_datagram.ensures.there (ap Ok c.if-not-branch.false))
          (c.in_ok-send.ensures.taken (ready_socket g.X.AsyncUdpSocket.never_blocks g.X.Poller.UdpPoller.never_blocks c.is_writable.new.socket c.is_writable.new.part.poller ((c.in_ok-is_writable.ensures.ready ready).0))),
      λ is. h.1 y.1,
      λ isnt. h.2 (filled_by sealed now y.0.made mid.connection new.connection y.1),
    )
