use Rattle.qh_core.proofs.Transmitted.{transmitted_end, transmitted_follows}
use Rattle.qh_core.proofs.Undisturbed.{transmitted_undisturbed}
use Rattle.qh_core.proofs.connection.Connection.poll_transmit.Goals as goal

pub returns-clause-none : goal.returns-clause-none
returns-clause-none g c = rw (← c.self.view_is) c.poll_transmit.ensures.none

pub returns-clause-follows : goal.returns-clause-follows
returns-clause-follows g c = λ t f.
    let e = c.poll_transmit.ensures in
    transmitted_follows (g.S.Session.sealed c.self.inside.inner.session) c.args.now c.self.inside.inner c.poll_transmit.new.self c.args.buf.now.items c.poll_transmit.new.buf.items c.poll_transmit.result
    (record { some = e.some; tag = e.tag; read_back = e.read_back; none = e.none; err = e.err }) c.self.invariant t (rw c.self.view_is f)

pub returns-clause-same_end : goal.returns-clause-same_end
returns-clause-same_end g c =
    let e = c.poll_transmit.ensures in
    rw (← c.self.view_is) (transmitted_end (g.S.Session.sealed c.self.inside.inner.session) c.args.now c.self.inside.inner c.poll_transmit.new.self c.args.buf.now.items c.poll_transmit.new.buf.items c.poll_transmit.result
    (record { some = e.some; tag = e.tag; read_back = e.read_back; none = e.none; err = e.err }))

pub returns-clause-undisturbed : goal.returns-clause-undisturbed
returns-clause-undisturbed g c =
    let e = c.poll_transmit.ensures in
    rw (← c.self.view_is) (transmitted_undisturbed (g.S.Session.sealed c.self.inside.inner.session) c.args.now c.self.inside.inner c.poll_transmit.new.self c.args.buf.now.items c.poll_transmit.new.buf.items c.poll_transmit.result
    (record { some = e.some; tag = e.tag; read_back = e.read_back; none = e.none; err = e.err }))

pub returns-clause-read_back : goal.returns-clause-read_back
returns-clause-read_back g c = rw (← c.self.view_is) c.poll_transmit.ensures.read_back

pub returns-clause-no_control : goal.returns-clause-no_control
returns-clause-no_control g c = rw (← c.self.view_is) c.poll_transmit.ensures.no_control
