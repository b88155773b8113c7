use Rattle.qh_core.proofs.PacketsCome.{close_event_follows}
use Rattle.qh_core.proofs.connection.Connection.handle_event.Goals as goal

pub returns-in-Close-clause-follows : goal.returns-in-Close-clause-follows
returns-in-Close-clause-follows g c = λ t f.
    close_event_follows c.args.event c.self.inside.inner c.close.new.self c.in-Close.now _ _ c.in-Close.is c.close.ensures.closed c.close.ensures.kept c.self.invariant t (rw c.self.view_is f)
