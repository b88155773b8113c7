use Rattle.qh_conn.proofs.InHears.{hears_still, streams_made}
use Rattle.qh_core.proofs.MadeCalls.{receive_window_made}
use Rattle.qh_conn.proofs.connection.Connection.set_early_receive_window.Goals as goal

pub returns-in-Some-clause-hears : goal.returns-in-Some-clause-hears
returns-in-Some-clause-hears g c =
    let old = c.args.self.now.core in
    let e = c.set_receive_window.ensures in
    hears_still old c.set_receive_window.new.self (streams_made old c.set_receive_window.new.self (receive_window_made c.in-Some.bytes old c.set_receive_window.new.self e.value e.follows))
