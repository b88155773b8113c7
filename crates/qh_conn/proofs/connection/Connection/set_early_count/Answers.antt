use Rattle.qh_conn.proofs.InHears.{hears_still, streams_made}
use Rattle.qh_core.proofs.MadeCalls.{concurrent_made}
use Rattle.qh_conn.proofs.connection.Connection.set_early_count.Goals as goal

pub returns-in-Some-clause-hears : goal.returns-in-Some-clause-hears
returns-in-Some-clause-hears g c =
    let old = c.args.self.now.core in
    let e = c.set_max_concurrent_streams.ensures in
    hears_still old c.set_max_concurrent_streams.new.self (streams_made old c.set_max_concurrent_streams.new.self (concurrent_made c.args.dir c.in-Some.count old c.set_max_concurrent_streams.new.self e.value e.follows))
