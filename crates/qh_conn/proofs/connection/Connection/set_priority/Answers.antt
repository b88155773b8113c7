use Rattle.std.proofs.lemmas.Result.{on_err_weaker}
use Rattle.qh_conn.proofs.OnStreams.{whole_after}
use Rattle.qh_conn.proofs.connection.Connection.set_priority.Goals as goal

pub returns-clause-stands : goal.returns-clause-stands
returns-clause-stands g c =
    let e = c.set_priority.ensures in
    λ accepts sealed hello t p. c.still.ensures.streams_stand accepts sealed hello c.args.self.now.handshake c.args.self.now.core c.set_priority.new.self c.args.self.now.is_connected t
    (c.made.ensures.set_priority c.args.id.0 _ c.set_priority.result c.args.self.now.core c.set_priority.new.self e.ok (on_err_weaker c.set_priority.result (λ h. h.1) e.fault) e.follows) p

pub returns-clause-whole : goal.returns-clause-whole
returns-clause-whole g c =
    let e = c.set_priority.ensures in
    whole_after c.args.self.now c.set_priority.new.self _ c.requires
    (c.made.ensures.set_priority c.args.id.0 _ c.set_priority.result c.args.self.now.core c.set_priority.new.self e.ok (on_err_weaker c.set_priority.result (λ h. h.1) e.fault) e.follows)
