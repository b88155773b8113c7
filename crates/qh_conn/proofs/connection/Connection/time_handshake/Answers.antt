use Rattle.qh_conn.proofs.OutKeys.{open_of}
use Rattle.qh_conn.specs.Telling.{IsHandshakeTimed}
use Rattle.qh_core.specs.Inner.{is_open}
use Rattle.qh_conn.proofs.connection.Connection.time_handshake.Goals as goal

pub returns-clause-handshake : goal.returns-clause-handshake
returns-clause-handshake g c =
    IsHandshakeTimed.lives (open_of (is_open c.args.self.now.core.state) c.is_closed.result c.is_closed.ensures c.if-is_closed.false) c.handle_timeout.ensures.done

pub returns-clause-stands : goal.returns-clause-stands
returns-clause-stands g c = λ accepts sealed hello t p.
    c.sends.ensures.timed_out accepts sealed c.args.now.0 hello c.args.self.now.handshake c.handle_timeout.new.self c.args.self.now.core c.args.self.now.is_connected t c.handle_timeout.ensures.done p
