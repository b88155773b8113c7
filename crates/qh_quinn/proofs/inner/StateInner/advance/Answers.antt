use Rattle.std.proofs.Common.{false, [], Err, refl, sym, ap, ◌∙◌, arith}
use Rattle.std.proofs.lemmas.Bool.{false≢true}
use Rattle.std.proofs.lemmas.Result.{err_from_is_err_and}
use Rattle.qh_handshake.specs.Incoming.{SessionView}
use Rattle.qh_quinn.proofs.Advancing.{advanced_wanting, calm_undrained, counted_left, handled_then, held_left, ready_left, sent_undrained}
use Rattle.qh_quinn.proofs.Bringing.{shown_by}
use Rattle.qh_quinn.proofs.Counting.{counted_then}
use Rattle.qh_quinn.proofs.InOrder.{full_off, in_order_none, in_order_sent, logs_on}
use Rattle.qh_quinn.proofs.SendingOn.{sent_none}
use Rattle.qh_runtime.specs.Socket.{has_failed, is_failure}
use Rattle.qh_quinn.proofs.inner.StateInner.advance.Goals as goal

pub returns-in_err-take_events-clause-advanced : goal.returns-in_err-take_events-clause-advanced
returns-in_err-take_events-clause-advanced g c =
    let p = err_from_is_err_and c.from_residual.result c.from_residual.ensures.1 in
    let e = c.in_err-take_events.ensures in
    let h = advanced_wanting g.S.Session.accepts g.S.Session.sealed (Err c.in_err-take_events.field-0.0) c.args.self.now c.take_events.new.self e.handled.0 e.errors in
    rw (p.1, p.2) ([], h.0, sent_none (g.X.AsyncUdpSocket.departed c.args.socket.now), omega arith, λ held. (h.1, refl), λ isnt. absurd (isnt (ap Err e.errors)), λ ready off. tt)

pub returns-in_err-take_events-clause-counted : goal.returns-in_err-take_events-clause-counted
returns-in_err-take_events-clause-counted g c =
    let p = err_from_is_err_and c.from_residual.result c.from_residual.ensures.1 in
    let e = c.in_err-take_events.ensures in
    let failed = is_failure c.in_err-take_events.field-0.0 in
    rw (p.1, p.2) (counted_left g.X.Poller.UdpPoller.faults failed (g.X.AsyncUdpSocket.faults c.args.socket.now) c.args.part.now c.take_events.new.part (ap is_failure e.errors) e.part e.poller)

pub time-requires-clause-shown : goal.time-requires-clause-shown
time-requires-clause-shown g c = shown_by c.args.self.now.connection c.take_events.new.self.connection c.in_ok-take_events.ensures.handled.0.brings c.requires.shown

pub returns-in_err-time-clause-advanced : goal.returns-in_err-time-clause-advanced
returns-in_err-time-clause-advanced g c =
    let accepts = g.S.Session.accepts in
    let sealed = g.S.Session.sealed in
    let p = err_from_is_err_and c.from_residual-in_err-time.result c.from_residual-in_err-time.ensures.1 in
    let e = c.in_err-time.ensures in
    let answer = Err c.in_err-time.field-0.0 in
    let s = c.args.self.now in
    let h =
    advanced_wanting accepts sealed answer s c.time.new.self
    (handled_then c.events_bring.ensures.both accepts sealed answer s c.take_events.new.self c.time.new.self c.in_ok-take_events.ensures.handled.0 c.requires.shown e.handled) e.errors
    in
    rw (p.1, p.2) ([], h.0, sent_none (g.X.AsyncUdpSocket.departed c.args.socket.now), omega arith, λ held. (h.1, refl), λ isnt. absurd (isnt (ap Err e.errors)), λ ready off. tt)

pub returns-in_err-time-clause-counted : goal.returns-in_err-time-clause-counted
returns-in_err-time-clause-counted g c =
    let p = err_from_is_err_and c.from_residual-in_err-time.result c.from_residual-in_err-time.ensures.1 in
    let e = c.in_ok-take_events.ensures in
    let failed = is_failure c.in_err-time.field-0.0 in
    rw (p.1, p.2) (counted_left g.X.Poller.UdpPoller.faults failed (g.X.AsyncUdpSocket.faults c.args.socket.now) c.args.part.now c.take_events.new.part (ap is_failure c.in_err-time.ensures.errors) e.part e.poller)

pub returns-then-part-clause-advanced : goal.returns-then-part-clause-advanced
returns-then-part-clause-advanced g c =
    let v : SessionView g.row.S.Denot = record { name = g.S.Session.name; knows = g.S.Session.knows; key = g.S.Session.key; sealed = g.S.Session.sealed; accepts = g.S.Session.accepts } in
    let e = c.in_ok-take_events.ensures in
    let t = c.in_ok-time.ensures in
    let s = c.args.self.now in
    let h = in_order_none c.events_bring.ensures.both v c.args.now s c.take_events.new.self c.time.new.self e.handled.0 e.handled.1 c.requires.shown t.handled t.same e.all t.timed in (
      [],
      h.0,
      sent_none (g.X.AsyncUdpSocket.departed c.args.socket.now),
      omega arith,
      λ held. (h.1, refl),
      λ isnt. h.2,
      λ ready off. full_off c.take_events.new.part.keeps_going [] (ap (λ z. z.keeps_going) e.part ∙ off),
    )

pub returns-then-part-clause-counted : goal.returns-then-part-clause-counted
returns-then-part-clause-counted g c =
    let e = c.in_ok-take_events.ensures in
    counted_left g.X.Poller.UdpPoller.faults false (g.X.AsyncUdpSocket.faults c.args.socket.now) c.args.part.now c.take_events.new.part refl e.part e.poller

pub transmit-requires-clause-shown : goal.transmit-requires-clause-shown
transmit-requires-clause-shown g c =
    let mid = c.take_events.new.self.connection in
    shown_by mid c.time.new.self.connection c.in_ok-time.ensures.handled.brings (shown_by c.args.self.now.connection mid c.in_ok-take_events.ensures.handled.0.brings c.requires.shown)

pub transmit-requires-clause-calm : goal.transmit-requires-clause-calm
transmit-requires-clause-calm g c =
    let mid = c.take_events.new.self.connection in
    let new = c.time.new.self.connection in
    calm_undrained new (shown_by mid new c.in_ok-time.ensures.handled.brings (shown_by c.args.self.now.connection mid c.in_ok-take_events.ensures.handled.0.brings c.requires.shown)) (sym c.is_drained.ensures ∙ c.if-is_drained.false)

pub returns-clause-advanced : goal.returns-clause-advanced
returns-clause-advanced g c =
    let v : SessionView g.row.S.Denot = record { name = g.S.Session.name; knows = g.S.Session.knows; key = g.S.Session.key; sealed = g.S.Session.sealed; accepts = g.S.Session.accepts } in
    let law = c.events_bring.ensures.both in
    let e = c.in_ok-take_events.ensures in
    let t = c.in_ok-time.ensures in
    let x = c.transmit.ensures.sending in
    let s = c.args.self.now in
    let h = in_order_sent law v c.args.now c.transmit.result s c.take_events.new.self c.time.new.self c.transmit.new.self x.0 e.handled.0 e.handled.1 c.requires.shown t.handled t.same e.all t.timed x.1 x.5 in (
      x.0,
      h.0,
      x.2,
      x.3,
      λ held. absurd (false≢true (sym c.if-part.false ∙ (held_left c.args.part.now c.take_events.new.part e.part ∙ held))),
      h.1,
      λ ready off.
          x.4 (ready_left g.X.AsyncUdpSocket.never_blocks g.X.Poller.UdpPoller.never_blocks c.args.socket.now c.args.part.now.poller c.take_events.new.part.poller e.poller ready) (ap (λ z. z.keeps_going) e.part ∙ off),
    )

pub returns-clause-counted : goal.returns-clause-counted
returns-clause-counted g c =
    let faults = g.X.AsyncUdpSocket.faults in
    let e = c.in_ok-take_events.ensures in
    let old = c.args.part.now in
    let mid = c.take_events.new.part in
    let new = c.transmit.new.part in
    counted_then g.X.Poller.UdpPoller.faults (has_failed c.transmit.result) (faults c.args.socket.now) (faults c.args.socket.now) (faults c.transmit.new.socket) old.made mid.made new.made old.poller mid.poller new.poller
    (counted_left g.X.Poller.UdpPoller.faults false (faults c.args.socket.now) old mid refl e.part e.poller) c.transmit.ensures.counted

pub returns-clause-sent : goal.returns-clause-sent
returns-clause-sent g c =
    λ free ready.
    let e = c.in_ok-take_events.ensures in
    sent_undrained c.transmit.result c.transmit.new.self c.transmit.new.part
    (c.transmit.ensures.sent (ready_left g.X.AsyncUdpSocket.never_blocks g.X.Poller.UdpPoller.never_blocks c.args.socket.now c.args.part.now.poller c.take_events.new.part.poller e.poller ready))

pub returns-then-part-clause-logging : goal.returns-then-part-clause-logging
returns-then-part-clause-logging g c = c.in_ok-time.ensures.handled.brings.brings.logging (c.in_ok-take_events.ensures.handled.0.brings.brings.logging c.requires.logging)

pub returns-clause-logging : goal.returns-clause-logging
returns-clause-logging g c =
    logs_on c.transmit.result c.time.new.self.connection c.transmit.new.self.connection c.transmit.ensures.sending.1.brings
    (c.in_ok-time.ensures.handled.brings.brings.logging (c.in_ok-take_events.ensures.handled.0.brings.brings.logging c.requires.logging))
