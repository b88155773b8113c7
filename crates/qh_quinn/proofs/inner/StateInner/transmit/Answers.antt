use Rattle.std.proofs.Common.{◌++◌, Bool, false, [], Result, Ok, Err, refl, ap, ◌∙◌, arith}
use Rattle.std.proofs.lemmas.Result.{err_from_is_err_and}
use Rattle.qh_quinn.proofs.Bringing.{calm_before, shown_by}
use Rattle.qh_quinn.proofs.Counting.{counted_none, counted_then}
use Rattle.qh_quinn.proofs.InOrder.{full_off, going_on, length_then}
use Rattle.qh_quinn.proofs.SendingOn.{counted_out, filled_by, handed_none, sending_then, sent_none, sent_then}
use Rattle.qh_quinn.specs.Turning.{ended_by}
use Rattle.qh_runtime.specs.Socket.{is_failure}
use Rattle.qh_runtime.specs.declared.runtime.IoFault.{IoFault}
use Rattle.qh_quinn.proofs.inner.StateInner.transmit.Goals as goal

pub loop-init : goal.loop-init
loop-init g c = let h = handed_none g.S.Session.accepts g.S.Session.sealed c.args.self.now c.events_bring.ensures.none c.requires.whole c.args.now in record {
  sending = ([], h.0, sent_none (g.X.AsyncUdpSocket.departed c.args.socket.now), omega arith, λ ready. refl, h.1);
  arrived = refl;
  counted = counted_none g.X.Poller.UdpPoller.faults (g.X.AsyncUdpSocket.faults c.args.socket.now) c.args.part.now.made c.args.part.now.poller;
  ready = λ r. r;
  whole = c.requires.whole;
  shown = c.requires.shown;
  calm = c.requires.calm;
  held = refl;
  going = refl;
  kept = λ fact h. h;
}

pub returns-in_err-transmit_one-clause-sending : goal.returns-in_err-transmit_one-clause-sending
returns-in_err-transmit_one-clause-sending g c =
    let p = err_from_is_err_and c.from_residual.result c.from_residual.ensures.1 in
    let s = c.loop.invariant.sending in
    let t = c.in_err-transmit_one.ensures.sending in
    let departed = g.X.AsyncUdpSocket.departed in
    let few = counted_out c.loop.counter 1 s.0 t.0 s.3 t.3 in
    let h =
    sending_then c.events_bring.ensures.both g.S.Session.accepts g.S.Session.sealed (Err c.in_err-transmit_one.field-0.0) c.args.self.now c.loop.self c.transmit_one.new.self s.0 t.0 s.1 t.1 c.requires.shown c.args.now s.5
    in
    rw (p.1, p.2) (
      s.0 ++ t.0,
      h.0,
      sent_then s.0 t.0 (departed c.args.socket.now) (departed c.loop.socket) (departed c.transmit_one.new.socket) s.2 t.2,
      omega (arith, few),
      λ ready off. tt,
      λ isnt. h.2 (t.6 (λ is. isnt (ap (λ (r : Result Bool IoFault). ended_by r) is))),
    )

pub returns-in_err-transmit_one-clause-counted : goal.returns-in_err-transmit_one-clause-counted
returns-in_err-transmit_one-clause-counted g c =
    let p = err_from_is_err_and c.from_residual.result c.from_residual.ensures.1 in
    let faults = g.X.AsyncUdpSocket.faults in
    rw (p.1, p.2)
    (counted_then g.X.Poller.UdpPoller.faults (is_failure c.in_err-transmit_one.field-0.0) (faults c.args.socket.now) (faults c.loop.socket) (faults c.transmit_one.new.socket)
    c.args.part.now.made c.loop.part.made c.transmit_one.new.part.made c.args.part.now.poller c.loop.part.poller c.transmit_one.new.part.poller c.loop.invariant.counted c.in_err-transmit_one.ensures.counted)

pub returns-then-not-branch-clause-sending : goal.returns-then-not-branch-clause-sending
returns-then-not-branch-clause-sending g c =
    let s = c.loop.invariant.sending in
    let t = c.in_ok-transmit_one.ensures.sending in
    let departed = g.X.AsyncUdpSocket.departed in
    let few = counted_out c.loop.counter 1 s.0 t.0 s.3 t.3 in
    let h = sending_then c.events_bring.ensures.both g.S.Session.accepts g.S.Session.sealed (Ok tt) c.args.self.now c.loop.self c.transmit_one.new.self s.0 t.0 s.1 t.1 c.requires.shown c.args.now s.5 in (
      s.0 ++ t.0,
      h.0,
      sent_then s.0 t.0 (departed c.args.socket.now) (departed c.loop.socket) (departed c.transmit_one.new.socket) s.2 t.2,
      omega (arith, few),
      λ ready off. full_off c.transmit_one.new.part.keeps_going (s.0 ++ t.0) (going_on c.args.part.now c.loop.part c.transmit_one.new.part c.loop.invariant.going c.in_ok-transmit_one.ensures.part off),
      λ isnt. h.2 (t.6 (λ is. cc)),
    )

pub returns-then-not-branch-clause-counted : goal.returns-then-not-branch-clause-counted
returns-then-not-branch-clause-counted g c =
    let faults = g.X.AsyncUdpSocket.faults in
    counted_then g.X.Poller.UdpPoller.faults false (faults c.args.socket.now) (faults c.loop.socket) (faults c.transmit_one.new.socket)
    c.args.part.now.made c.loop.part.made c.transmit_one.new.part.made c.args.part.now.poller c.loop.part.poller c.transmit_one.new.part.poller c.loop.invariant.counted c.in_ok-transmit_one.ensures.counted

pub returns-then-not-branch-clause-sent : goal.returns-then-not-branch-clause-sent
returns-then-not-branch-clause-sent g c = λ ready going. c.in_ok-transmit_one.ensures.sent (c.loop.invariant.ready ready) (ap Ok c.if-not-branch.true)

pub returns-clause-sending : goal.returns-clause-sending
returns-clause-sending g c =
    let s = c.loop.invariant.sending in (
      s.0,
      s.1,
      s.2,
      omega (arith, s.3, c.loop.auto.counter-end, c.loop-test.false),
      λ ready off. omega (arith, s.4 ready, c.loop.auto.counter-end, c.loop-test.false),
      λ isnt. filled_by g.S.Session.sealed c.args.now s.1.made c.args.self.now.connection c.loop.self.connection s.5,
    )

pub loop-preserved : goal.loop-preserved
loop-preserved g c =
    let l = c.loop.invariant in
    let e = c.in_ok-transmit_one.ensures in
    let s = l.sending in
    let t = e.sending in
    let departed = g.X.AsyncUdpSocket.departed in
    let faults = g.X.AsyncUdpSocket.faults in
    let law = c.events_bring.ensures.both in
    let h = sending_then law g.S.Session.accepts g.S.Session.sealed (Ok tt) c.args.self.now c.loop.self c.transmit_one.new.self s.0 t.0 s.1 t.1 c.requires.shown c.args.now s.5 in
    record {
      sending = (
        s.0 ++ t.0,
        h.0,
        sent_then s.0 t.0 (departed c.args.socket.now) (departed c.loop.socket) (departed c.transmit_one.new.socket) s.2 t.2,
        counted_out c.loop.counter 1 s.0 t.0 s.3 t.3,
        λ ready. length_then c.loop.counter s.0 t.0 (s.4 ready) (t.4 (l.ready ready) (ap Ok c.if-not-branch.false)),
        h.1 (t.5 (ap Ok c.if-not-branch.false)),
      );
      arrived = e.arrived ∙ l.arrived;
      counted = counted_then g.X.Poller.UdpPoller.faults false (faults c.args.socket.now) (faults c.loop.socket) (faults c.transmit_one.new.socket)
          c.args.part.now.made c.loop.part.made c.transmit_one.new.part.made c.args.part.now.poller c.loop.part.poller c.transmit_one.new.part.poller l.counted e.counted;
      ready = λ r. e.ready (l.ready r);
      whole = t.1.whole;
      shown = shown_by c.loop.self.connection c.transmit_one.new.self.connection t.1.brings l.shown;
      calm = calm_before c.loop.self.connection c.transmit_one.new.self.connection t.1.brings l.shown ∙ l.calm;
      held = rw e.part l.held;
      going = rw e.part l.going;
      kept = λ fact h. e.kept fact (l.kept fact h);
    }
