use Rattle.qh_conn.proofs.OnStreams.{opened_new, whole_after}
use Rattle.qh_conn.proofs.connection.Connection.open.Goals as goal

pub returns-clause-stands : goal.returns-clause-stands
returns-clause-stands g c =
    let e = c.open.ensures in
    λ accepts sealed hello t p. c.still.ensures.streams_stand accepts sealed hello c.args.self.now.handshake c.args.self.now.core c.open.new.self c.args.self.now.is_connected t
    (c.made.ensures.open c.args.dir c.open.result c.args.self.now.core c.open.new.self e.some e.none e.err e.follows) p

pub returns-clause-whole : goal.returns-clause-whole
returns-clause-whole g c =
    let e = c.open.ensures in
    whole_after c.args.self.now c.open.new.self _ c.requires
    (c.made.ensures.open c.args.dir c.open.result c.args.self.now.core c.open.new.self e.some e.none e.err e.follows)

pub returns-clause-unwritten : goal.returns-clause-unwritten
returns-clause-unwritten g c =
    opened_new c.args.self.now c.open.result c.open.ensures.unwritten
