use Rattle.qh_endpoint.proofs.endpoint.Endpoint.connect_bearing.Goals as goal

pub returns-in-Ok-clause-stands : goal.returns-in-Ok-clause-stands
returns-in-Ok-clause-stands g c =
    let begins = c.in-Ok.ensures.connected.first in
    let o = c.bear.ensures.stands begins.stands.0 begins.stands.1 in
    (begins.stands.0, o.0, λ accepts sealed. o.1 accepts sealed (begins.stands.2 accepts sealed))
