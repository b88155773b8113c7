use Rattle.qh_endpoint.proofs.Connects.{first_of}
use Rattle.qh_endpoint.proofs.Kept.{if_ok}
use Rattle.qh_endpoint.proofs.endpoint.Endpoint.begin.Goals as goal

pub returns-clause-first : goal.returns-clause-first
returns-clause-first g c = if_ok c.add_connection.result _ _ (λ made first. (c.in_ok-session.session, c.in_ok-session.ensures.key, c.in_ok-session.ensures.name, c.in_ok-session.ensures.knows, first_of _ _ _ _ _ _ _ _ _ _ _ c.conn_of.ensures first)) c.add_connection.ensures.first
