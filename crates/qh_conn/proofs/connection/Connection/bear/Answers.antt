use Rattle.std.proofs.Common.{ap, subst, sym}
use Rattle.qh_conn.proofs.FirstHandshake.{refreshed}
use Rattle.qh_handshake.proofs.FollowsOn.{borne_fresh}
use Rattle.qh_handshake.specs.Follows.{IsFresh}
use Rattle.qh_handshake.specs.declared.handshake.Handshake.{Handshake}
use Rattle.qh_conn.proofs.connection.Connection.bear.Goals as goal

pub returns-clause-stands : goal.returns-clause-stands
returns-clause-stands g c = λ hello fresh.
    let self = c.args.self.now in
    let new = c.bear.new.self in
    let is = c.bear.ensures.token in
    let now : IsFresh hello new = subst (λ (z : Handshake). IsFresh hello z) (sym is) (borne_fresh hello c.args.token self.handshake fresh) in
    (now, λ accepts sealed p. refreshed accepts sealed hello hello self.handshake new self.core self.is_connected now (ap (λ (z : Handshake). z.side) is) (ap (λ (z : Handshake). z.local_id) is) (ap (λ (z : Handshake). z.peer) is) (ap (λ (z : Handshake). z.parameters.max_idle_timeout) is) p)
