use Rattle.std.proofs.Common.{refl}
use Rattle.qh_conn.proofs.Same.{faulted_stays, same_core}
use Rattle.qh_conn.proofs.connection.Connection.close_by_fault.Goals as goal
use Rattle.qh_core.proofs.MadeEnds.{turned_made}
use Rattle.qh_core.specs.Made.IsTurned.{faulted}

pub returns-clause-stands : goal.returns-clause-stands
returns-clause-stands g c =
    let e = c.close_by_fault.ensures in
    λ accepts sealed hello t stood. c.still.ensures.stands accepts sealed hello _ c.args.self.now.core c.close_by_fault.new.self _ t
    (turned_made c.args.self.now.core c.close_by_fault.new.self (faulted c.args.now _ c.requires.lives e.faulted) e.follows e.same_end) stood

pub returns-clause-whole : goal.returns-clause-whole
returns-clause-whole g c =
    let old = c.args.self.now in
    let e = c.close_by_fault.ensures in
    c.still.ensures.whole old (record old { core = c.close_by_fault.new.self }) (record { handshake = refl; control = refl; is_connected = refl; log = rw e.faulted.closed.rest_is refl })
    (turned_made old.core c.close_by_fault.new.self (faulted c.args.now _ c.requires.lives e.faulted) e.follows e.same_end) c.requires.whole

pub returns-clause-same : goal.returns-clause-same
returns-clause-same g c = λ key. same_core key c.args.self.now c.close_by_fault.new.self (faulted_stays c.args.now c.args.error c.args.self.now.core c.close_by_fault.new.self c.close_by_fault.ensures.faulted)
