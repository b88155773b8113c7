use Rattle.qh_core.proofs.DatagramMade.{bears_counted, datagram_sent}
use Rattle.qh_core.proofs.inner.Inner.poll_transmit.Goals as goal

pub returns-in_default-appended-clause-none : goal.returns-in_default-appended-clause-none
returns-in_default-appended-clause-none g c = λ _. c.in-Ok.ensures.none c.in_default-appended.is

pub returns-clause-some : goal.returns-clause-some
returns-clause-some g c =
    datagram_sent (g.S.Session.sealed c.args.self.now.session) c.args.now c.args.self.now c.append_datagram.new.self c.args.buf.now.items c.append_datagram.new.buf.items c.in-Some.size c.count.new.self
    (rw c.in-Some.is at c.in-Ok.ensures.some) c.append_datagram.ensures.counts c.count.ensures

pub returns-clause-no_control : goal.returns-clause-no_control
returns-clause-no_control g c =
    rw (c.count.ensures) (bears_counted (g.S.Session.sealed c.args.self.now.session) c.args.now c.args.self.now c.append_datagram.new.self c.args.buf.now.items c.append_datagram.new.buf.items _
    (rw c.in-Some.is at c.in-Ok.ensures.no_control))
