use Rattle.std.proofs.Common.{refl, sym}
use Rattle.qh_endpoint.specs.Endpoint.{PlainEndpoint}
use Rattle.qh_endpoint.proofs.endpoint.Endpoint.greet.Goals as goal

pub returns-in-None-clause-lives : goal.returns-in-None-clause-lives
returns-in-None-clause-lives g c = (refl, c.hand.new.connection, rw c.deref.ensures at c.hand.ensures.handed, sym c.in-None.ensures, c.hand_all.ensures.handed)

pub returns-in-Some-clause-lost : goal.returns-in-Some-clause-lost
returns-in-Some-clause-lost g c = rw (sym c.self.view_is) (
    let e = c.self.inside in
    let gone : PlainEndpoint g.row.K.Denot g.row.K-G.Denot g.row.K-R.Denot g.row.K-T.Denot =
    record { config = e.config; server = e.server; kit = e.kit; words = e.words; token_log = e.token_log; connections = c.remove.new.self; incoming = e.incoming; last_reset = e.last_reset } in
    λ m there. (c.hand.new.connection, gone, rw c.deref.ensures at c.hand.ensures.handed, c.remove.ensures.removed m there, c.remove.ensures.ids, refl, c.fail.ensures.lost c.hand.new.connection (sym c.in-Some.ensures)))
