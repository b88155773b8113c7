use Rattle.qh_core.proofs.Controlled.{controlled_end, controlled_follows}
use Rattle.qh_core.proofs.Undisturbed.{controlled_undisturbed}
use Rattle.qh_core.proofs.connection.Connection.transmit_control.Goals as goal

pub returns-clause-none : goal.returns-clause-none
returns-clause-none g c = rw (← c.self.view_is) c.transmit_control.ensures.none

pub returns-clause-follows : goal.returns-clause-follows
returns-clause-follows g c = λ t f.
    let e = c.transmit_control.ensures in
    controlled_follows (g.S.Session.sealed c.self.inside.inner.session) c.args.now c.self.inside.inner c.transmit_control.new.self c.args.buf.now.items c.transmit_control.new.buf.items c.args.frames.now c.transmit_control.result
    (record { some = e.some; tag = e.tag; none = e.none; err = e.err }) c.self.invariant t (rw c.self.view_is f)

pub returns-clause-same_end : goal.returns-clause-same_end
returns-clause-same_end g c =
    let e = c.transmit_control.ensures in
    rw (← c.self.view_is) (controlled_end (g.S.Session.sealed c.self.inside.inner.session) c.args.now c.self.inside.inner c.transmit_control.new.self c.args.buf.now.items c.transmit_control.new.buf.items c.args.frames.now c.transmit_control.result
    (record { some = e.some; tag = e.tag; none = e.none; err = e.err }))

pub returns-clause-undisturbed : goal.returns-clause-undisturbed
returns-clause-undisturbed g c =
    let e = c.transmit_control.ensures in
    rw (← c.self.view_is) (controlled_undisturbed (g.S.Session.sealed c.self.inside.inner.session) c.args.now c.self.inside.inner c.transmit_control.new.self c.args.buf.now.items c.transmit_control.new.buf.items c.args.frames.now c.transmit_control.result
    (record { some = e.some; tag = e.tag; none = e.none; err = e.err }))
