use Rattle.qh_endpoint.proofs.Connects.{first_of}
use Rattle.qh_endpoint.proofs.endpoint.Endpoint.begin_server.Goals as goal

pub returns-in-Ok-clause-ready : goal.returns-in-Ok-clause-ready
returns-in-Ok-clause-ready g c =
    let begins = c.in-Ok.ensures.first in
    let o = c.set_origin.ensures.stands begins.stands.0 begins.stands.1 in
    record {
      session_is = record { key_is = c.requires.key; name_is = c.requires.name; knows_is = c.requires.knows };
      fresh = c.in-Ok.connection;
      begins = first_of _ _ _ _ _ _ _ _ _ _ _ c.conn_of.ensures begins;
      stands = (o.0, o.1, λ accepts sealed. o.2 accepts sealed (begins.stands.2 accepts sealed));
      ready_is = c.set_origin.ensures.origin;
    }
