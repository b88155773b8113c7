use Rattle.qh_endpoint.proofs.Accepts.{accepted_of, failed_of}
use Rattle.qh_endpoint.proofs.Connects.{source_through}
use Rattle.qh_endpoint.proofs.Kept.{if_err, if_ok_both}
use Rattle.qh_endpoint.specs.Accepting.{unbegun}
use Rattle.qh_endpoint.proofs.endpoint.Endpoint.welcome.Goals as goal

pub returns-in-Ok-clause-accepted : goal.returns-in-Ok-clause-accepted
returns-in-Ok-clause-accepted g c = if_ok_both c.greet.result _ _ _ (λ made lives same. accepted_of g.K.G.ConnectionIdGenerator.cid_len g.K.G.ConnectionIdGenerator.validates _ _ _ _ _ c.args.self.now c.admit.new.self c.begin_server.new.self c.in_ok-session.local_id c.in-Ok.handle c.in-Ok.connection c.in_ok-session.session c.in_ok-session.ensures.admitted c.in-Ok.ensures.added c.in-Ok.ensures.ids c.in-Ok.ensures.rest c.in-Ok.ensures.ready c.greet.new.self c.args.datagrams.now made.0 made.1 lives same) c.greet.ensures.lives c.greet.ensures.kept

pub returns-in-Ok-clause-lost : goal.returns-in-Ok-clause-lost
returns-in-Ok-clause-lost g c = if_err c.greet.result _ _ (λ e lost. failed_of g.K.G.ConnectionIdGenerator.cid_len g.K.G.ConnectionIdGenerator.validates _ _ _ _ _ c.args.self.now c.admit.new.self c.begin_server.new.self c.in_ok-session.local_id c.in-Ok.handle c.in-Ok.connection c.in_ok-session.session c.in_ok-session.ensures.admitted c.in-Ok.ensures.added c.in-Ok.ensures.ids c.in-Ok.ensures.rest c.in-Ok.ensures.ready c.greet.new.self c.greet.new.buf.items e lost) c.greet.ensures.lost

pub returns-in-Ok-clause-source : goal.returns-in-Ok-clause-source
returns-in-Ok-clause-source g c = source_through g.K.G.ConnectionIdGenerator.cid_len g.K.G.ConnectionIdGenerator.validates c.args.self.now.connections.ids c.admit.new.self.connections.ids c.begin_server.new.self.connections.ids c.greet.new.self.connections.ids
    c.in_ok-session.ensures.source c.in-Ok.ensures.ids c.greet.ensures.source

pub returns-in-Err-clause-lost : goal.returns-in-Err-clause-lost
returns-in-Err-clause-lost g c = rw c.silent.ensures (unbegun c.in_ok-session.local_id c.in_ok-session.session c.admit.new.self c.in_ok-session.ensures.admitted c.in-Err.ensures.kept c.in-Err.ensures.ids c.in-Err.ensures.rest c.in_ok-session.ensures.unwritten)
