use Rattle.std.proofs.Common.{rules}
use Rattle.qh_converse.proofs.MidDatagram.{stays}
use Rattle.qh_core.proofs.MadeEnds.{turned_made}
use Rattle.qh_core.specs.Made.IsTurned.{renamed}
use Rattle.qh_conn.proofs.connection.Connection.follow_ids.Goals as goal

pub returns-clause-stands : goal.returns-clause-stands
returns-clause-stands g c = λ accepts sealed hello t p.
    let e = c.set_remote_id.ensures in
    stays accepts sealed hello c.args.self.now.handshake c.args.self.now.core c.set_remote_id.new.self c.args.self.now.is_connected t
    (turned_made c.args.self.now.core c.set_remote_id.new.self (renamed _ (search rules) e.value) e.follows e.same_end) p
