use Rattle.qh_routes.proofs.Routing.{by_token, no_token}
use Rattle.qh_routes.proofs.connection_index.ConnectionIndex.reset_of.Goals as goal

pub returns-in-Some : goal.returns-in-Some
returns-in-Some c = by_token c.args.self.now c.args.address.now c.args.bytes.now c.in-Some.token.0 c.token_of.result c.in-Some.ensures.found.0 c.in-Some.ensures.found.1 c.token_of.ensures

pub returns-in-None : goal.returns-in-None
returns-in-None c = no_token c.args.self.now c.args.address.now c.args.bytes.now c.in-None.ensures.none
