use Rattle.qh_core.proofs.PacketsCome.{handled_datagram_follows}
use Rattle.qh_core.proofs.Undisturbed.{datagram_kept}
use Rattle.qh_core.proofs.connection.Connection.handle_datagram.Goals as goal

pub returns-clause-follows : goal.returns-clause-follows
returns-clause-follows g c = λ t f.
    let inner = c.self.inside.inner in
    let e = c.handle_datagram.ensures in
    handled_datagram_follows (g.S.Session.accepts inner.session) c.args.now c.args.datagram.now inner c.handle_datagram.new.self c.count.new.self c.handle_datagram.result e.ok e.err e.has c.self.invariant t (rw c.self.view_is f)

pub returns-clause-undisturbed : goal.returns-clause-undisturbed
returns-clause-undisturbed g c =
    let inner = c.self.inside.inner in
    let kept = datagram_kept (g.S.Session.accepts inner.session) inner c.handle_datagram.new.self c.args.now c.args.datagram.now c.count.new.self c.handle_datagram.result c.handle_datagram.ensures.ok in
    rw (← c.self.view_is) kept

pub returns-clause-brings : goal.returns-clause-brings
returns-clause-brings g c = rw (← c.self.view_is) (rw c.count.ensures at c.handle_datagram.ensures.brings)
