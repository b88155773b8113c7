use Rattle.std.proofs.Common.{◌∙◌, sym}
use Rattle.qh_routes.proofs.Routing.{by_addresses, by_id}
use Rattle.qh_routes.proofs.connection_index.ConnectionIndex.connection_of.Goals as goal

pub returns-then-is_empty : goal.returns-then-is_empty
returns-then-is_empty c = by_addresses c.args.self.now c.args.addresses.now c.args.dst_cid.now c.args.is_first c.path_of.result (sym c.is_empty.ensures ∙ c.if-is_empty.true) c.path_of.ensures

pub returns : goal.returns
returns c = by_id c.args.self.now c.args.addresses.now c.args.dst_cid.now c.args.is_first c.id_of.result (sym c.is_empty.ensures ∙ c.if-is_empty.false) c.id_of.ensures
