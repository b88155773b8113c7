use Rattle.std.proofs.Common.{subst}
use Rattle.qh_connections.specs.Ids.{IsIssued}
use Rattle.qh_endpoint.specs.Endpoint.{PlainEndpoint}
use Rattle.qh_endpoint.proofs.endpoint.Endpoint.add_connection.Goals as goal

pub add-requires : goal.add-requires
add-requires g c = λ issued. c.requires (subst (λ (z : PlainEndpoint g.row.K.Denot g.row.K-G.Denot g.row.K-R.Denot g.row.K-T.Denot). IsIssued z.connections.routes c.args.local_id) c.self.view_is issued)
