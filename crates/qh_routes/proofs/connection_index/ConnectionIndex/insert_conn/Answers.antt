use Rattle.std.proofs.Common.{◌∙◌, sym}
use Rattle.qh_routes.specs.declared.connection_index.RouteDatagramTo.TheVariants.{Connection}
use Rattle.qh_routes.specs.Routes.{conn_key, issued, pair, remote}
use Rattle.qh_routes.proofs.Changes.{absent_as, added_as, found_by_id, found_by_pair, found_by_remote, on_err, on_ok}
use Rattle.qh_routes.proofs.Membership.{nonempty}
use Rattle.qh_routes.proofs.connection_index.ConnectionIndex.insert_conn.Goals as goal

pub returns-then-not-is_empty-clause-added : goal.returns-then-not-is_empty-clause-added
returns-then-not-is_empty-clause-added c =
    on_ok c.insert_id.result (λ h. added_as (conn_key c.args.addresses c.args.dst_cid c.args.side) (issued c.args.dst_cid) (Connection c.args.handle) c.args.self.now c.insert_id.new.self (found_by_id c.args.addresses c.args.dst_cid c.args.side (sym c.is_empty.ensures ∙ c.if-not-is_empty.true)) (h (nonempty c.args.dst_cid (sym c.is_empty.ensures ∙ c.if-not-is_empty.true)))) c.insert_id.ensures.added

pub returns-then-not-is_empty-clause-fresh : goal.returns-then-not-is_empty-clause-fresh
returns-then-not-is_empty-clause-fresh c =
    on_err c.insert_id.result (λ h. absent_as (conn_key c.args.addresses c.args.dst_cid c.args.side) (issued c.args.dst_cid) c.args.self.now (found_by_id c.args.addresses c.args.dst_cid c.args.side (sym c.is_empty.ensures ∙ c.if-not-is_empty.true)) h) c.insert_id.ensures.fresh

pub returns-in-Server-clause-added : goal.returns-in-Server-clause-added
returns-in-Server-clause-added c =
    on_ok c.put_pair.result (λ h. added_as (conn_key c.args.addresses c.args.dst_cid c.args.side) (pair c.args.addresses) (Connection c.args.handle) c.args.self.now c.put_pair.new.self (found_by_pair c.args.addresses c.args.dst_cid c.args.side (sym c.is_empty.ensures ∙ c.if-not-is_empty.false) c.in-Server.is) h) c.put_pair.ensures.added

pub returns-in-Server-clause-fresh : goal.returns-in-Server-clause-fresh
returns-in-Server-clause-fresh c =
    on_err c.put_pair.result (λ h. absent_as (conn_key c.args.addresses c.args.dst_cid c.args.side) (pair c.args.addresses) c.args.self.now (found_by_pair c.args.addresses c.args.dst_cid c.args.side (sym c.is_empty.ensures ∙ c.if-not-is_empty.false) c.in-Server.is) h) c.put_pair.ensures.fresh

pub returns-in-Client-clause-added : goal.returns-in-Client-clause-added
returns-in-Client-clause-added c =
    on_ok c.put_remote.result (λ h. added_as (conn_key c.args.addresses c.args.dst_cid c.args.side) (remote c.args.addresses.remote) (Connection c.args.handle) c.args.self.now c.put_remote.new.self (found_by_remote c.args.addresses c.args.dst_cid c.args.side (sym c.is_empty.ensures ∙ c.if-not-is_empty.false) c.in-Client.is) h) c.put_remote.ensures.added

pub returns-in-Client-clause-fresh : goal.returns-in-Client-clause-fresh
returns-in-Client-clause-fresh c =
    on_err c.put_remote.result (λ h. absent_as (conn_key c.args.addresses c.args.dst_cid c.args.side) (remote c.args.addresses.remote) c.args.self.now (found_by_remote c.args.addresses c.args.dst_cid c.args.side (sym c.is_empty.ensures ∙ c.if-not-is_empty.false) c.in-Client.is) h) c.put_remote.ensures.fresh
