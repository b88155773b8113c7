use Rattle.std.proofs.Common.{sym, subst}
use Rattle.qh_conn.specs.declared.connection.Connection.{Connection}
use Rattle.qh_shown.specs.Connections.{IsBegunLogged}
use Rattle.handles_rows.proofs.state.first_connection.Goals as goal

pub returns-in-Ok-clause-begun : goal.returns-in-Ok-clause-begun
returns-in-Ok-clause-begun c =
    let e = c.in_ok-connection.ensures in
    subst (λ (z : Connection _). IsBegunLogged z) (sym c.in-Ok.ensures.ok)
    (c.begun_shown.ensures.started _ _ _ _ _ _ _ c.in_ok-connection.connection e.core e.parts.0 e.parts.1 e.parts.3 e.parts.5 e.handshake.5 e.control)
