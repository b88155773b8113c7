use Rattle.std.proofs.Common.{[], ap, subst, sym}
use Rattle.qh_conn.proofs.FirstHandshake.{refreshed}
use Rattle.qh_handshake.proofs.FollowsOn.{origin_fresh}
use Rattle.qh_handshake.specs.Follows.{IsFresh}
use Rattle.qh_handshake.specs.Handshake.{IsHandshake, with_origin}
use Rattle.qh_handshake.specs.declared.handshake.Handshake.{Handshake}
use Rattle.qh_hello.specs.Greetings.{greeting}
use Rattle.qh_spec.specs.Hello.{hello_bytes, hello_of}
use Rattle.qh_spec.specs.declared.sides.Side.TheVariants.{Server}
use Rattle.qh_conn.proofs.connection.Connection.set_origin.Goals as goal

pub returns-clause-stands : goal.returns-clause-stands
returns-clause-stands g c = λ hello fresh.
    let self = c.args.self.now in
    let new = c.set_origin.new.self in
    let is = c.set_origin.ensures.origin in
    let h = with_origin self.handshake c.args.original_id c.args.retry_id c.args.validated in
    let own = hello_bytes (hello_of (greeting Server [] h.parameters)) in
    let now : IsFresh own new = subst (λ (z : Handshake). IsFresh own z) (sym is)
    (origin_fresh hello c.args.original_id c.args.retry_id c.args.validated self.handshake c.requires.server fresh (subst (λ (z : Handshake). IsHandshake z) is c.set_origin.ensures.whole)) in
    (own, now, λ accepts sealed p. refreshed accepts sealed hello own self.handshake new self.core self.is_connected now (ap (λ (z : Handshake). z.side) is) (ap (λ (z : Handshake). z.local_id) is) (ap (λ (z : Handshake). z.peer) is) (ap (λ (z : Handshake). z.parameters.max_idle_timeout) is) p)
