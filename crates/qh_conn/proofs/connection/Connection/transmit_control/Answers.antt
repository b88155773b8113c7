use Rattle.qh_conn.proofs.OutStill.{none_of, stays_still}
use Rattle.qh_conn.proofs.connection.Connection.transmit_control.Goals as goal

pub returns-then-is_empty-clause-none : goal.returns-then-is_empty-clause-none
returns-then-is_empty-clause-none g c =
    none_of c.transmit_datagrams.result c.transmit_datagrams.ensures.none (λ n. (n.0, n.1, stays_still _ _ n.2))
